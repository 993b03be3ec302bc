use Rattle.ron_spec_words.proofs.Escapes.{word_hex_byte}
use Rattle.ron_lex.proofs.SplitLemmas.{read_end}
use Rattle.ron_lex.proofs.escape.split_hex_ascii.Goals as goal

pub returns-else-is_ascii-clause-err_end : goal.returns-else-is_ascii-clause-err_end
returns-else-is_ascii-clause-err_end c = rw c.escape.ensures.rest (read_end _ _ word_hex_byte _ _ _ c.in_ok-byte.ensures.value)
