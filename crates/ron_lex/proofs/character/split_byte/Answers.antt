use Rattle.std.proofs.Common.{chars}
use Rattle.ron_lex_text.proofs.StretchLemmas.{literals}
use Rattle.ron_lex.proofs.SplitLemmas.{byte_proper, failed_exit, end_exit, read_end, end_past_two}
use Rattle.ron_lex.proofs.CharacterLemmas.{word_quoted_byte, byte_none, byte_bad, byte_closed, byte_open}
use Rattle.ron_lex.proofs.character.split_byte.Goals as goal

pub returns-in_default-clause-value : goal.returns-in_default-clause-value
unfolding literals
returns-in_default-clause-value c = byte_none (chars c.args.text.now) c.in_default.ensures

pub returns-in_err-byte-clause-value : goal.returns-in_err-byte-clause-value
unfolding literals
returns-in_err-byte-clause-value c =
    failed_exit _ _ _ _ c.from_residual.ensures.1 (byte_bad (chars c.args.text.now) (chars c.in-Some.content.now) c.in-Some.ensures c.in_err-byte.ensures.value)

pub returns-in_err-byte-clause-err_end : goal.returns-in_err-byte-clause-err_end
unfolding literals
returns-in_err-byte-clause-err_end c =
    end_exit _ _ _ c.from_residual.ensures.1 (end_past_two 98 39 _ (chars c.in-Some.content.now) _ c.in-Some.ensures c.in_err-byte.ensures.err_end)

pub returns-in-Some-strip_char-clause-value : goal.returns-in-Some-strip_char-clause-value
unfolding literals
returns-in-Some-strip_char-clause-value c =
    byte_closed (chars c.args.text.now) (chars c.in-Some.content.now) _ _ _ c.in-Some.ensures c.in_ok-byte.ensures.value c.in-Some-strip_char.ensures

pub returns-in-None-clause-value : goal.returns-in-None-clause-value
unfolding literals
returns-in-None-clause-value c =
    byte_open (chars c.args.text.now) (chars c.in-Some.content.now) _ _ c.in-Some.ensures c.in_ok-byte.ensures.value c.in-None.ensures

pub returns-in-None-clause-err_end : goal.returns-in-None-clause-err_end
unfolding literals
returns-in-None-clause-err_end c = rw c.new-in-None.ensures.rest
    (end_past_two 98 39 _ (chars c.in-Some.content.now) _ c.in-Some.ensures (read_end _ _ word_quoted_byte _ _ _ c.in_ok-byte.ensures.value))

pub returns-in-Some-strip_char-clause-past : goal.returns-in-Some-strip_char-clause-past
unfolding literals returns-in-Some-strip_char-clause-value
returns-in-Some-strip_char-clause-past c = byte_proper _ _ c.in_ok-byte.byte (returns-in-Some-strip_char-clause-value c)
