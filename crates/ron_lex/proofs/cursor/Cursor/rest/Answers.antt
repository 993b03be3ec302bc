use Rattle.ron_lex_text.proofs.StretchLemmas.{end_of_end}
use Rattle.ron_lex.proofs.cursor.Cursor.rest.Goals as goal

pub returns-clause-end : goal.returns-clause-end
returns-clause-end c = rw (← c.self.view_is) (end_of_end _ _ _ c.self.invariant.1 c.self.invariant.0)
