use Rattle.std.proofs.Common.{arith}
use Rattle.ron_spec_words.proofs.Sizes.{size_chars}
use Rattle.ron_lex_text.proofs.StretchLemmas.{end_is_shorter}
use Rattle.ron_lex.proofs.turns.bytes_before.Goals as goal

pub overflow_sub-result : goal.overflow_sub-result
overflow_sub-result c = end_is_shorter _ _ c.utf8.text c.utf8.rest c.requires

pub returns : goal.returns
returns c = omega (arith, end_is_shorter _ _ c.utf8.text c.utf8.rest c.requires, size_chars _ c.utf8.rest, size_chars _ c.utf8.text)
