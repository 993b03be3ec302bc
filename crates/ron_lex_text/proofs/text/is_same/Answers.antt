use Rattle.std.proofs.lemmas.Slice.Eq.{slice_eq-Decides}
use Rattle.std.proofs.lemmas.Bool.Decides.{Decides-eqb}
use Rattle.ron_lex_text.proofs.StretchLemmas.{same_chars}
use Rattle.ron_lex_text.proofs.text.is_same.Goals as goal

pub returns : goal.returns
returns c = same_chars _ _ _ c.utf8.one c.utf8.other (slice_eq-Decides Decides-eqb _ _ _ c.eq.ensures)
