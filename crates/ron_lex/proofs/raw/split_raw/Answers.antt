use Rattle.std.proofs.Common.{chars, ◌∙◌}
use Rattle.ron_lex_text.proofs.StretchLemmas.{run_end, end_of_end, end_behind_char}
use Rattle.ron_lex.proofs.RawLemmas.{raw_unopened, raw_opened, all_hashes}
use Rattle.ron_lex.proofs.raw.split_raw.Goals as goal

pub returns-in_default-clause-value : goal.returns-in_default-clause-value
returns-in_default-clause-value c =
    raw_unopened (chars c.args.text.now) (chars c.skip_run-opening.result.now) c.skip_run-opening.ensures.value c.in_default.ensures

pub returns-in_default-clause-err_end : goal.returns-in_default-clause-err_end
returns-in_default-clause-err_end c = rw c.new.ensures.rest (run_end _ _ _ c.skip_run-opening.ensures.value)

pub before-hashes-requires : goal.before-hashes-requires
before-hashes-requires c = run_end _ _ _ c.skip_run-opening.ensures.value

pub returns-in-Some-split_at_ending-clause-value : goal.returns-in-Some-split_at_ending-clause-value
returns-in-Some-split_at_ending-clause-value c =
    raw_opened (chars c.args.text.now) _ _ _ c.skip_run-opening.ensures.value c.in-Some.ensures c.before-hashes.ensures ∙ c.in-Some-split_at_ending.ensures

pub returns-in-None-clause-value : goal.returns-in-None-clause-value
returns-in-None-clause-value c =
    raw_opened (chars c.args.text.now) _ _ _ c.skip_run-opening.ensures.value c.in-Some.ensures c.before-hashes.ensures ∙ c.in-None.ensures

pub returns-in-None-clause-err_end : goal.returns-in-None-clause-err_end
returns-in-None-clause-err_end c =
    rw c.new-in-None.ensures.rest (end_of_end _ _ _ (end_behind_char _ _ _ c.in-Some.ensures) (run_end _ _ _ c.skip_run-opening.ensures.value))

pub split_at_ending-requires : goal.split_at_ending-requires
split_at_ending-requires c = all_hashes (chars c.args.text.now) (chars c.skip_run-opening.result.now) (chars c.before-hashes.result.now)
    c.skip_run-opening.ensures.value c.before-hashes.ensures
