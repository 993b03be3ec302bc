use Rattle.ron_de_parts.proofs.TurnLemmas.{looks_none}
use Rattle.ron_de_parts.proofs.options.stands_alone.Goals.{then-is_none, else-is_none}
use Rattle.ron_de_parts.proofs.options.stands_alone.Goals as goal

pub returns-then-not-implies_some-clause-turns : goal.returns-then-not-implies_some-clause-turns
returns-then-not-implies_some-clause-turns c = looks_none c.args.cursor.now

pub returns-clause-turns : goal.returns-clause-turns
returns-clause-turns c = elim c.if-is_none.branch [
  | then-is_none w ↦ rw (w.cursor-is, c.is_none.ensures.place) (looks_none c.args.cursor.now)
  | else-is_none w ↦ rw (w.cursor-is, ← c.is_none.ensures.place) w.opens_some.ensures.turns
]
