use Rattle.std.proofs.Common.{chars, ap, not, ◌∙◌, arith, rules}
use Rattle.std.proofs.lemmas.Bool.{false_from_ne_true}
use Rattle.ron_lex_text.proofs.StretchLemmas.{end_behind_char, end_of_end}
use Rattle.ron_lex.proofs.SplitLemmas.{failed_exit, end_exit, stripped, not_stripped, both}
use Rattle.ron_lex.proofs.EscapeLemmas.{one_digit_more, no_digit_next, digits_end, few_digits, digit_more, braced_is, braced_nameless, braced_stopped}
use Rattle.ron_lex.proofs.EscapeLemmas.{braced_long}
use Rattle.ron_lex.proofs.escape.split_braced.Goals as goal
use Rattle.ron_lex.proofs.escape.split_braced.Goals.{then-loop-count-test+else-is_none, else-loop-count-test}

pub returns-in_err-digit-clause-value : goal.returns-in_err-digit-clause-value
returns-in_err-digit-clause-value c =
    failed_exit _ _ _ _ c.from_residual.ensures.1 (braced_stopped _ _ _ _ c.loop-count.invariant.3 (not_stripped 125 (chars c.loop-count.rest.now) _
    c.strip_char.ensures (c.is_none.ensures ∙ ap not c.if-is_none.true)) (no_digit_next (chars c.loop-count.rest.now) c.in_err-digit.ensures.value))

pub returns-in_err-digit-clause-err_end : goal.returns-in_err-digit-clause-err_end
returns-in_err-digit-clause-err_end c =
    end_exit _ _ _ c.from_residual.ensures.1 (end_of_end _ _ _ c.in_err-digit.ensures.err_end (digits_end _ _ _ _ c.loop-count.invariant.3))

pub overflow_mul-value : goal.overflow_mul-value
overflow_mul-value c = omega (arith, few_digits c.loop-count.value c.loop-count.count c.loop-count.invariant.2 (omega arith))

pub overflow_add-value : goal.overflow_add-value
overflow_add-value c = omega (arith, few_digits c.loop-count.value c.loop-count.count c.loop-count.invariant.2 (omega arith), c.in_ok-digit.ensures.small)

pub loop-count-preserved : goal.loop-count-preserved
loop-count-preserved c = (
  search rules,
  omega arith,
  digit_more _ _ _ c.loop-count.invariant.2 c.in_ok-digit.ensures.small,
  one_digit_more _ _ _ _ _ _ c.loop-count.invariant.3 c.in_ok-digit.ensures.value,
)

pub returns-in_default-clause-value : goal.returns-in_default-clause-value
returns-in_default-clause-value c =
    elim c.loop-count-test.branch [
      | then-loop-count-test+else-is_none w ↦ absurd
          (both _ (stripped 125 (chars c.loop-count.rest.now) _ w.strip_char.ensures (w.is_none.ensures ∙ ap not w.if-is_none.false)) c.in_default.ensures)
      | else-loop-count-test w ↦ braced_long _ _ _ _ c.loop-count.invariant.3 (omega arith) c.in_default.ensures
    ]

pub returns-in-Some-from_u32-clause-value : goal.returns-in-Some-from_u32-clause-value
returns-in-Some-from_u32-clause-value c =
    let named = c.in-Some-from_u32.ensures.value in
    rw named.1 (braced_is _ _ _ _ _ c.loop-count.invariant.3 (omega arith) (omega arith) c.in-Some.ensures named.0)

pub returns-in-None-clause-value : goal.returns-in-None-clause-value
returns-in-None-clause-value c =
    braced_nameless _ _ _ _ _ c.loop-count.invariant.3 (omega arith) c.in-Some.ensures (false_from_ne_true _ c.in-None.ensures.value)

pub returns-in-None-clause-err_end : goal.returns-in-None-clause-err_end
returns-in-None-clause-err_end c =
    rw c.escape-in-None.ensures.rest (end_of_end _ _ _ (end_behind_char _ _ _ c.in-Some.ensures) (digits_end _ _ _ _ c.loop-count.invariant.3))
