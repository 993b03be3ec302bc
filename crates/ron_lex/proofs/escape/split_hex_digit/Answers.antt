use Rattle.ron_lex_text.proofs.StretchLemmas.{end_behind_char}
use Rattle.ron_lex.proofs.escape.split_hex_digit.Goals as goal

pub returns-in-None-clause-err_end : goal.returns-in-None-clause-err_end
returns-in-None-clause-err_end c = rw c.escape.ensures.rest (end_behind_char _ _ _ c.in-Some.ensures.chars)
