use Rattle.std.proofs.Common.{chars}
use Rattle.ron_lex_text.proofs.StretchLemmas.{literals, end_of_end}
use Rattle.ron_lex.proofs.SplitLemmas.{failed_exit, end_exit, end_behind_two, end_past_two, read_end}
use Rattle.ron_lex.proofs.EscapeLemmas.{word_digit, hex_none, hex_first, hex_second, hex_both}
use Rattle.ron_lex.proofs.escape.split_hex_byte.Goals as goal

pub returns-in_default-clause-value : goal.returns-in_default-clause-value
unfolding literals
returns-in_default-clause-value c = hex_none (chars c.args.text.now) c.in_default.ensures

pub returns-in_err-high-clause-value : goal.returns-in_err-high-clause-value
unfolding literals
returns-in_err-high-clause-value c =
    failed_exit _ _ _ _ c.from_residual.ensures.1 (hex_first (chars c.args.text.now) (chars c.in-Some.digits.now) c.in-Some.ensures c.in_err-high.ensures.value)

pub returns-in_err-high-clause-err_end : goal.returns-in_err-high-clause-err_end
unfolding literals
returns-in_err-high-clause-err_end c = end_exit _ _ _ c.from_residual.ensures.1
    (end_of_end _ _ _ c.in_err-high.ensures.err_end (end_behind_two 92 120 _ (chars c.in-Some.digits.now) c.in-Some.ensures))

pub returns-in_err-low-clause-value : goal.returns-in_err-low-clause-value
unfolding literals
returns-in_err-low-clause-value c = failed_exit _ _ _ _ c.from_residual-in_err-low.ensures.1
    (hex_second (chars c.args.text.now) (chars c.in-Some.digits.now) _ _ c.in-Some.ensures c.in_ok-high.ensures.value c.in_err-low.ensures.value)

pub returns-clause-value : goal.returns-clause-value
unfolding literals
returns-clause-value c =
    hex_both (chars c.args.text.now) (chars c.in-Some.digits.now) _ _ _ _ c.in-Some.ensures c.in_ok-high.ensures.value c.in_ok-low.ensures.value

pub returns-in_err-low-clause-err_end : goal.returns-in_err-low-clause-err_end
unfolding literals
returns-in_err-low-clause-err_end c =
    let middle = read_end _ _ word_digit _ _ _ c.in_ok-high.ensures.value in
    end_exit _ _ _ c.from_residual-in_err-low.ensures.1
    (end_of_end _ _ _ c.in_err-low.ensures.err_end (end_past_two 92 120 _ (chars c.in-Some.digits.now) _ c.in-Some.ensures middle))
