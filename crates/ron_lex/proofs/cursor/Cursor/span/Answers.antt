use Rattle.ron_lex.proofs.PlaceLemmas.{not_after}
use Rattle.ron_lex_text.proofs.StretchLemmas.{end_of_end}
use Rattle.ron_lex.proofs.cursor.Cursor.span.Goals as goal

pub position_before-requires-2 : goal.position_before-requires-2
position_before-requires-2 c = rw (← c.self.view_is) (end_of_end _ _ _ c.self.invariant.1 c.self.invariant.0)

pub returns-clause-ordered : goal.returns-clause-ordered
returns-clause-ordered c = not_after _ _ _ _ _ c.position_before.ensures c.position_before-2.ensures c.self.invariant.1
