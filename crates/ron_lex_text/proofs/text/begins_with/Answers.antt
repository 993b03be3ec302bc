use Rattle.ron_lex_text.proofs.StretchLemmas.{begins_chars}
use Rattle.ron_lex_text.proofs.text.begins_with.Goals as goal

pub returns : goal.returns
returns c = begins_chars _ _ _ c.utf8.word c.utf8.text (rw (c.as_bytes.ensures.value, c.as_bytes-2.ensures.value) at c.starts_with.ensures.value)
