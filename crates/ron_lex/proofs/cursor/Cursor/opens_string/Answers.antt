use Rattle.ron_lex.proofs.TurnLemmas.{hashes_look}
use Rattle.ron_lex.proofs.cursor.Cursor.opens_string.Goals as goal

pub look_to-requires : goal.look_to-requires
look_to-requires c = rw (← c.self.view_is) (hashes_look _ _ c.look_at_string-answer.ensures.end)
