use Rattle.ron_lex_text.proofs.StretchLemmas.{end_of_end}
use Rattle.ron_lex.proofs.cursor.Cursor.turns.Goals as goal

pub bytes_before-passed-requires : goal.bytes_before-passed-requires
bytes_before-passed-requires c = end_of_end _ _ _ c.self.invariant.1 c.self.invariant.0
