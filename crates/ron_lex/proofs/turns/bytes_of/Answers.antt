use Rattle.std.proofs.Common.{arith}
use Rattle.ron_spec_words.proofs.Sizes.{size_chars}
use Rattle.ron_lex.proofs.turns.bytes_of.Goals as goal

pub returns : goal.returns
returns c = omega (arith, size_chars _ c.utf8.text)
