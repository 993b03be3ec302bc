use Rattle.std.proofs.Common.{chars, refl, sym, ◌∙◌}
use Rattle.ron_lex_text.proofs.StretchLemmas.{past_is_end}
use Rattle.ron_spec_words.specs.AnyInteger.{past_sign}
use Rattle.ron_lex.proofs.NumeralLemmas.{base_bounds, digits_end, past_numeral, number_read, number_refused, number_large, number_ended, refused}
use Rattle.ron_lex.proofs.numeral.split_numeral.Goals as goal

pub returns-then-is_ended-clause-value : goal.returns-then-is_ended-clause-value
returns-then-is_ended-clause-value c = number_ended _ (sym c.is_ended.ensures ∙ c.if-is_ended.true)

pub split_digits-requires-clause-least : goal.split_digits-requires-clause-least
split_digits-requires-clause-least c = rw c.begin-begun.ensures.base (base_bounds (past_sign (chars c.args.text.now))).0

pub split_digits-requires-clause-most : goal.split_digits-requires-clause-most
split_digits-requires-clause-most c = rw c.begin-begun.ensures.base (base_bounds (past_sign (chars c.args.text.now))).1

pub with_sign-requires : goal.with_sign-requires
with_sign-requires c = record {
  start = rw c.in-Err.ensures.err_start (digits_end _ _ _ refl c.begin-begun.ensures.digits);
  end = rw c.in-Err.ensures.err_start c.in-Err.ensures.err_end;
}

pub returns-in-Err-clause-value : goal.returns-in-Err-clause-value
returns-in-Err-clause-value c =
    rw c.with_sign.ensures.fault (refused _ _ _ c.in-Err.ensures.fault
    (number_refused _ _ _ _ _ c.begin-begun.ensures.sign refl c.begin-begun.ensures.base c.begin-begun.ensures.digits c.in-Err.ensures.value))

pub before-requires : goal.before-requires
before-requires c =
    past_is_end _ _ (past_numeral _ _ _ _ (digits_end _ _ _ refl c.begin-begun.ensures.digits) c.in-Ok.ensures.past c.split_suffix-suffix.ensures.end)

pub returns-in-Some-magnitude-clause-value : goal.returns-in-Some-magnitude-clause-value
returns-in-Some-magnitude-clause-value c =
    number_read _ _ _ _ _ _ _ _ _ c.begin-begun.ensures.sign refl c.begin-begun.ensures.base c.begin-begun.ensures.digits
    (rw c.in-Some-magnitude.is at c.in-Ok.ensures.value) c.split_suffix-suffix.ensures.value

pub returns-in-Some-magnitude-clause-past : goal.returns-in-Some-magnitude-clause-past
returns-in-Some-magnitude-clause-past c =
    past_numeral _ _ _ _ (digits_end _ _ _ refl c.begin-begun.ensures.digits) c.in-Ok.ensures.past c.split_suffix-suffix.ensures.end

pub returns-in-None-clause-value : goal.returns-in-None-clause-value
returns-in-None-clause-value c =
    number_large _ _ _ _ _ _ _ _ c.begin-begun.ensures.sign refl c.begin-begun.ensures.base c.begin-begun.ensures.digits
    (rw c.in-None.is at c.in-Ok.ensures.value) c.split_suffix-suffix.ensures.value

pub returns-in-None-clause-err_end : goal.returns-in-None-clause-err_end
returns-in-None-clause-err_end c =
    past_is_end _ _ (past_numeral _ _ _ _ (digits_end _ _ _ refl c.begin-begun.ensures.digits) c.in-Ok.ensures.past c.split_suffix-suffix.ensures.end)
