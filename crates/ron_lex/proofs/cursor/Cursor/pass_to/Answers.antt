use Rattle.std.proofs.Common.{arith}
use Rattle.ron_lex_text.proofs.StretchLemmas.{end_of_end, end_alone}
use Rattle.ron_lex.proofs.TurnLemmas.{count_on, count_forward}
use Rattle.ron_lex.proofs.cursor.Cursor.pass_to.Goals as goal

pub invariant_of-self : goal.invariant_of-self
invariant_of-self c =
    let end = rw (← c.self.view_is) at c.requires in
    let start = end_of_end _ _ _ c.self.invariant.1 c.self.invariant.0 in
    (start, end, end_alone (end_of_end _ _ _ end start), c.self.invariant.3, c.self.invariant.4)

pub returns-clause-turns : goal.returns-clause-turns
returns-clause-turns c =
    let end = rw (← c.self.view_is) at c.requires in
    let start = end_of_end _ _ _ c.self.invariant.1 c.self.invariant.0 in
    rw (← c.self.view_is) (omega (arith, count_on c.self.inside.beside _ _ _ start end))

pub returns-clause-all : goal.returns-clause-all
returns-clause-all c =
    let end = rw (← c.self.view_is) at c.requires in
    let start = end_of_end _ _ _ c.self.invariant.1 c.self.invariant.0 in
    rw (← c.self.view_is) (count_forward c.self.inside.beside _ _ _ start end)
