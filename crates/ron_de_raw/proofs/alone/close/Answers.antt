use Rattle.std.proofs.Common.{sym, ap, ◌++◌, ◌∷◌, [], ◌∙◌}
use Rattle.std.proofs.lemmas.Result.{err_from_is_err_and}
use Rattle.ron_spec_words.specs.Characters.{Text}
use Rattle.ron_spec_words.specs.Gap.{skip}
use Rattle.ron_spec_words.specs.Runs.{is_at}
use Rattle.ron_de_raw.proofs.AloneLemmas.{slash_no_end, closes_at_end}
use Rattle.ron_de_raw.proofs.alone.close.Goals as goal

pub returns-in_err-pass_gap-clause-value : goal.returns-in_err-pass_gap-clause-value
returns-in_err-pass_gap-clause-value c =
    let p = err_from_is_err_and c.from_residual.result c.from_residual.ensures.1 in
    rw p.1 (slash_no_end c.args.cursor.now.rest (ap (λ (s : Text). is_at 47 (skip s)) (sym c.add_turns.ensures.place.rest) ∙ c.in_err-pass_gap.ensures.slash))

pub returns-in-Some-clause-ends : goal.returns-in-Some-clause-ends
returns-in-Some-clause-ends c =
    let start : Text = c.args.cursor.now.rest in
    c.in_ok-pass_gap.ensures.rest ∙ ap skip c.add_turns.ensures.place.rest ∙ closes_at_end start _
    (ap (λ (s : Text). skip (s ++ 44 ∷ [])) (sym c.rest-behind.ensures.rest) ∙ c.in-Some.ensures) (sym c.is_ended.ensures ∙ c.if-is_ended.true)
