use Rattle.std.proofs.Common.{chars}
use Rattle.ron_lex_text.proofs.StretchLemmas.{end_past_char}
use Rattle.ron_lex.proofs.SplitLemmas.{char_proper, failed_exit, end_exit, read_end}
use Rattle.ron_lex.proofs.CharacterLemmas.{word_quoted_char, char_none, char_bad, char_closed, char_open}
use Rattle.ron_lex.proofs.character.split_char.Goals as goal

pub returns-in_default-clause-value : goal.returns-in_default-clause-value
returns-in_default-clause-value c = char_none (chars c.args.text.now) c.in_default.ensures

pub returns-in_err-character-clause-value : goal.returns-in_err-character-clause-value
returns-in_err-character-clause-value c = failed_exit _ _ _ _ c.from_residual.ensures.1 (char_bad _ _ c.in-Some.ensures c.in_err-character.ensures.value)

pub returns-in_err-character-clause-err_end : goal.returns-in_err-character-clause-err_end
returns-in_err-character-clause-err_end c =
    end_exit _ _ _ c.from_residual.ensures.1 (end_past_char _ _ _ _ c.in-Some.ensures c.in_err-character.ensures.err_end)

pub returns-in-Some-strip_char-clause-value : goal.returns-in-Some-strip_char-clause-value
returns-in-Some-strip_char-clause-value c = char_closed _ _ _ _ _ c.in-Some.ensures c.in_ok-character.ensures.value c.in-Some-strip_char.ensures

pub returns-in-None-clause-value : goal.returns-in-None-clause-value
returns-in-None-clause-value c = char_open _ _ _ _ c.in-Some.ensures c.in_ok-character.ensures.value c.in-None.ensures

pub returns-in-None-clause-err_end : goal.returns-in-None-clause-err_end
returns-in-None-clause-err_end c =
    rw c.new-in-None.ensures.rest (end_past_char _ _ _ _ c.in-Some.ensures (read_end _ _ word_quoted_char _ _ _ c.in_ok-character.ensures.value))

pub returns-in-Some-strip_char-clause-past : goal.returns-in-Some-strip_char-clause-past
unfolding returns-in-Some-strip_char-clause-value
returns-in-Some-strip_char-clause-past c = char_proper _ _ c.in_ok-character.character (returns-in-Some-strip_char-clause-value c)
