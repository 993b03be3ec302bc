use Rattle.ron_lex_text.proofs.StretchLemmas.{end_behind_end}
use Rattle.ron_lex.proofs.cursor.Cursor.rest_behind.Goals as goal

pub end_of-requires : goal.end_of-requires
end_of-requires c = end_behind_end _ _ _ (rw (← c.self.view_is) at c.requires) c.self.invariant.2
