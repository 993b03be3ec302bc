use Rattle.std.proofs.Common.{subst, arith}
use Rattle.ron_lex_text.specs.Stretch.{IsSuffix}
use Rattle.ron_lex_text.proofs.StretchLemmas.{end_of_end}
use Rattle.ron_lex.proofs.KindLemmas.{shorter_bytes}
use Rattle.ron_lex.proofs.TurnLemmas.{end_size, count_back}
use Rattle.ron_lex.proofs.cursor.Cursor.return_to.Goals as goal

pub invariant_of-self : goal.invariant_of-self
invariant_of-self c =
    let text = rw (← c.self.view_is, ← c.place.view_is) at c.requires.text in
    let start = subst (IsSuffix _) text c.place.invariant.0 in
    let gap = subst (IsSuffix _) text c.place.invariant.2 in
    (start, c.place.invariant.1, gap, c.self.invariant.3, c.self.invariant.4)

pub returns-clause-counted : goal.returns-clause-counted
returns-clause-counted c =
    let text = rw (← c.self.view_is, ← c.place.view_is) at c.requires.text in
    let earlier = rw (← c.self.view_is, ← c.place.view_is) at c.requires.earlier in
    let start = subst (IsSuffix _) text c.place.invariant.0 in
    let here = end_of_end _ _ _ c.self.invariant.1 c.self.invariant.0 in
    let there = end_of_end _ _ _ c.place.invariant.1 start in
    rw (← c.self.view_is) (count_back c.self.inside.beside _ _ _ _ (shorter_bytes _ _ _ here there earlier) (end_size _ _ there)
    (omega (arith, c.saturating_add-self-inside.ensures, c.saturating_sub-back.ensures, c.bytes_of.ensures, c.bytes_of-2.ensures)))

pub returns-clause-turns : goal.returns-clause-turns
returns-clause-turns c = let counted = rw (← c.self.view_is) at (returns-clause-counted c) in rw (← c.self.view_is) (omega (arith, counted))
