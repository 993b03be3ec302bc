use Rattle.std.proofs.Common.{chars, sym, ◌∙◌}
use Rattle.ron_lex_text.proofs.StretchLemmas.{end_of_end, run_end}
use Rattle.ron_lex.proofs.IdentifierLemmas.{ended_whole, ended_front, front_all}
use Rattle.ron_lex.proofs.TurnLemmas.{front_size}
use Rattle.ron_lex.proofs.identifier.name_fault.Goals as goal

pub before-run-requires : goal.before-run-requires
before-run-requires c = end_of_end _ _ _ (run_end _ _ _ c.skip_run.ensures.value) c.requires

pub returns-else-is_ended-2-clause-most : goal.returns-else-is_ended-2-clause-most
returns-else-is_ended-2-clause-most c = front_size _ _ _ c.before-run.ensures

pub returns-then-is_ended-clause-least : goal.returns-then-is_ended-clause-least
returns-then-is_ended-clause-least c h = ended_whole (chars c.args.text.now) _ (sym c.is_ended.ensures ∙ c.if-is_ended.true)

pub returns-then-is_ended-2-clause-least : goal.returns-then-is_ended-2-clause-least
returns-then-is_ended-2-clause-least c h = rw (sym c.skip_run.ensures.value) (ended_front (chars c.before-run.result.now) (chars c.skip_run.result.now)
    (chars c.args.text.now) (sym c.is_ended-2.ensures ∙ c.if-is_ended-2.true) c.before-run.ensures)

pub returns-else-is_ended-2-clause-least : goal.returns-else-is_ended-2-clause-least
returns-else-is_ended-2-clause-least c h =
    rw (sym c.skip_run.ensures.value) (front_all (chars c.before-run.result.now) (chars c.skip_run.result.now) (chars c.args.text.now) c.before-run.ensures)
