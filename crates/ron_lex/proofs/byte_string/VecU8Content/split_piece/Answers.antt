use Rattle.std.proofs.Common.{chars, sym, ◌∙◌}
use Rattle.ron_lex_text.proofs.StretchLemmas.{literals}
use Rattle.ron_lex.proofs.SplitLemmas.{failed_exit}
use Rattle.ron_lex.proofs.PieceLemmas.{byte_piece_escaped, byte_hex_got, byte_hex_failed, byte_unicode_got, byte_unicode_failed, byte_escape_got}
use Rattle.ron_lex.proofs.PieceLemmas.{byte_escape_failed}
use Rattle.ron_lex.proofs.byte_string.VecU8Content.split_piece.Goals as goal

pub returns-in_err-byte-clause-value : goal.returns-in_err-byte-clause-value
unfolding literals
returns-in_err-byte-clause-value c =
    failed_exit _ _ _ _ c.from_residual.ensures.1 (byte_hex_failed _ (sym c.begins_with.ensures ∙ c.if-begins_with.true) c.in_err-byte.ensures.value)

pub returns-then-begins_with-clause-value : goal.returns-then-begins_with-clause-value
unfolding literals
returns-then-begins_with-clause-value c = byte_hex_got _ _ _ (sym c.begins_with.ensures ∙ c.if-begins_with.true) c.in_ok-byte.ensures.value

pub returns-in_err-character-clause-value : goal.returns-in_err-character-clause-value
unfolding literals
returns-in_err-character-clause-value c =
    failed_exit _ _ _ _ c.from_residual-in_err-character.ensures.1 (byte_piece_escaped (chars c.args.text.now) c.in_default.ensures
    ∙ byte_unicode_failed _ (sym c.begins_with-2.ensures ∙ c.if-begins_with-2.true) c.in_err-character.ensures.value)

pub returns-then-begins_with-2-clause-value : goal.returns-then-begins_with-2-clause-value
unfolding literals
returns-then-begins_with-2-clause-value c =
    byte_piece_escaped (chars c.args.text.now) c.in_default.ensures
    ∙ byte_unicode_got _ _ _ (sym c.begins_with-2.ensures ∙ c.if-begins_with-2.true) c.in_ok-character.ensures.value

pub returns-in_err-byte-2-clause-value : goal.returns-in_err-byte-2-clause-value
unfolding literals
returns-in_err-byte-2-clause-value c =
    failed_exit _ _ _ _ c.from_residual-in_err-byte-2.ensures.1 (byte_piece_escaped (chars c.args.text.now) c.in_default.ensures
    ∙ byte_escape_failed _ (sym c.begins_with-2.ensures ∙ c.if-begins_with-2.false) c.in_err-byte-2.ensures.value)

pub returns-clause-value : goal.returns-clause-value
unfolding literals
returns-clause-value c =
    byte_piece_escaped (chars c.args.text.now) c.in_default.ensures
    ∙ byte_escape_got _ _ _ (sym c.begins_with-2.ensures ∙ c.if-begins_with-2.false) c.in_ok-byte-2.ensures.value
