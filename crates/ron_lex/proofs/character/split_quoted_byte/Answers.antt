use Rattle.ron_lex_text.proofs.StretchLemmas.{end_behind_char}
use Rattle.ron_lex.proofs.character.split_quoted_byte.Goals as goal

pub returns-in-Some-2-clause-err_end : goal.returns-in-Some-2-clause-err_end
returns-in-Some-2-clause-err_end c = rw c.new-in-Some-2.ensures.rest (end_behind_char _ _ _ c.in-Some.ensures.chars)
