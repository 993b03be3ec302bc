use Rattle.std.proofs.Common.{sym}
use Rattle.ron_spec_words.proofs.Sizes.{size_chars}
use Rattle.ron_de_raw.proofs.stretch.bytes_of.Goals as goal

pub returns : goal.returns
returns c = sym (size_chars _ c.utf8.text)
