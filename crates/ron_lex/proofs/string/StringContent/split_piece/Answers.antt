use Rattle.std.proofs.Common.{chars, ◌∙◌}
use Rattle.ron_lex.proofs.SplitLemmas.{failed_exit}
use Rattle.ron_lex.proofs.PieceLemmas.{string_piece_escaped, string_escape_got, string_escape_failed}
use Rattle.ron_lex.proofs.string.StringContent.split_piece.Goals as goal

pub returns-in_err-character-clause-value : goal.returns-in_err-character-clause-value
returns-in_err-character-clause-value c =
    failed_exit _ _ _ _ c.from_residual.ensures.1
    (string_piece_escaped (chars c.args.text.now) c.in_default.ensures ∙ string_escape_failed _ c.in_err-character.ensures.value)

pub returns-clause-value : goal.returns-clause-value
returns-clause-value c = string_piece_escaped (chars c.args.text.now) c.in_default.ensures ∙ string_escape_got _ _ _ c.in_ok-character.ensures.value
