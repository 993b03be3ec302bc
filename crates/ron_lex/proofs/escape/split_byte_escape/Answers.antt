use Rattle.ron_spec_words.proofs.Escapes.{word_unicode}
use Rattle.ron_lex.proofs.SplitLemmas.{read_end}
use Rattle.ron_lex.proofs.escape.split_byte_escape.Goals as goal

pub returns-then-begins_with-2-clause-err_end : goal.returns-then-begins_with-2-clause-err_end
returns-then-begins_with-2-clause-err_end c = rw c.escape.ensures.rest (read_end _ _ word_unicode _ _ _ c.in_ok-rest.ensures.value)
