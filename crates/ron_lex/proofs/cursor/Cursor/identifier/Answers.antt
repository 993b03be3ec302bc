use Rattle.ron_lex_text.proofs.StretchLemmas.{past_is_end}
use Rattle.ron_lex.proofs.cursor.Cursor.identifier.Goals as goal

pub pass_to-requires : goal.pass_to-requires
pass_to-requires c = rw (← c.self.view_is) (past_is_end _ _ c.in-Ok.ensures.past)
