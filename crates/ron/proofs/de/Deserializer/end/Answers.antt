use Rattle.std.proofs.Common.{refl, sym, ◌∙◌, arith}
use Rattle.ron.proofs.EndLemmas.{ended, not_ended, slash_not_ended}
use Rattle.ron.proofs.TurnLemmas.{end_within, ended_text}
use Rattle.ron.proofs.de.Deserializer.end.Goals as goal

pub returns-in-Err-clause-ok : goal.returns-in-Err-clause-ok
returns-in-Err-clause-ok c fresh = rw (← c.self.view_is) (λ h. cc, λ g. absurd (slash_not_ended _ c.in-Err.ensures.slash g))

pub returns-then-is_at_end-clause-ok : goal.returns-then-is_at_end-clause-ok
returns-then-is_at_end-clause-ok c fresh =
    rw (← c.self.view_is) (λ _. ended _ _ c.in_default.ensures.rest (sym c.is_at_end.ensures ∙ c.if-is_at_end.true), λ _. refl)

pub returns-else-is_at_end-clause-ok : goal.returns-else-is_at_end-clause-ok
returns-else-is_at_end-clause-ok c fresh =
    rw (← c.self.view_is) (λ h. cc, λ g. absurd (not_ended _ _ c.in_default.ensures.rest (sym c.is_at_end.ensures ∙ c.if-is_at_end.false) g))

pub returns-in-Err-clause-turns : goal.returns-in-Err-clause-turns
returns-in-Err-clause-turns c k = rw (← c.self.view_is) (end_within k _ c.self.inside.cursor c.pass_gap.result c.pass_gap.new.cursor
    (record { text = refl; rest = refl; gap = refl; turns = refl; expected = refl }) c.pass_gap.ensures.turns
    (omega (arith, c.turns-turns.ensures.value, c.turns-turns.ensures.most)) c.pass_gap.ensures.text)

pub returns-then-is_at_end-clause-turns : goal.returns-then-is_at_end-clause-turns
returns-then-is_at_end-clause-turns c k = rw (← c.self.view_is) (end_within k _ c.self.inside.cursor c.pass_gap.result c.pass_gap.new.cursor
    (record { text = refl; rest = refl; gap = refl; turns = refl; expected = refl }) c.pass_gap.ensures.turns
    (omega (arith, c.turns-turns-2.ensures.value, c.turns-turns-2.ensures.most)) c.pass_gap.ensures.text)

pub returns-else-is_at_end-clause-turns : goal.returns-else-is_at_end-clause-turns
returns-else-is_at_end-clause-turns c k = rw (← c.self.view_is) (end_within k _ c.self.inside.cursor c.pass_gap.result c.pass_gap.new.cursor
    (record { text = refl; rest = refl; gap = refl; turns = refl; expected = refl }) c.pass_gap.ensures.turns
    (omega (arith, c.turns-turns-2.ensures.value, c.turns-turns-2.ensures.most)) c.pass_gap.ensures.text)

pub returns-then-is_at_end-clause-least : goal.returns-then-is_at_end-clause-least
returns-then-is_at_end-clause-least c = omega (
  arith,
  c.turns-turns-2.ensures.value,
  c.turns-turns-2.ensures.least,
  ended_text c.pass_gap.new.cursor.rest (sym c.is_at_end.ensures ∙ c.if-is_at_end.true),
)
