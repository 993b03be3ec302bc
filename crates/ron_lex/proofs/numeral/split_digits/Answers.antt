use Rattle.std.proofs.Common.{rules, ◌≡◌, false, chars, sym, ◌∙◌, ap}
use Rattle.ron_spec_words.specs.Runs.{begins}
use Rattle.ron_spec_words.specs.Number.{in_number}
use Rattle.ron_lex_text.proofs.StretchLemmas.{end_behind_char, end_of_end}
use Rattle.ron_lex.proofs.NumeralLemmas.{digits_on-in_base, magnitude_at_end, ends_number, digit_refused, digit_taken, underscore_passed, past_digits}
use Rattle.ron_lex.proofs.numeral.split_digits.Goals as goal

pub returns-in_default-to_digit-clause-value : goal.returns-in_default-to_digit-clause-value
returns-in_default-to_digit-clause-value c =
    rw (digits_on-in_base _ _ (sym c.is_at_class.ensures ∙ c.if-not-is_at_class.false))
    (digit_refused _ _ _ _ _ _ c.in-Some.ensures.chars (sym c.is_ascii_hexdigit.ensures.value ∙ c.if-is_ascii_hexdigit.true) c.in_default-to_digit.ensures.value
    c.loop-first.invariant.value)

pub returns-then-first-ne95-clause-value : goal.returns-then-first-ne95-clause-value
returns-then-first-ne95-clause-value c =
    let ended = ends_number _ _ _ c.in-Some.ensures.chars (sym c.is_ascii_hexdigit.ensures.value ∙ c.if-is_ascii_hexdigit.false) c.if-first-ne95.true in
    rw (digits_on-in_base _ _ (sym c.is_at_class.ensures ∙ c.if-not-is_at_class.false)) (magnitude_at_end _ _ _ _ ended c.loop-first.invariant.value)

pub returns-then-first-ne95-clause-past : goal.returns-then-first-ne95-clause-past
returns-then-first-ne95-clause-past c =
    let ended = ends_number _ _ _ c.in-Some.ensures.chars (sym c.is_ascii_hexdigit.ensures.value ∙ c.if-is_ascii_hexdigit.false) c.if-first-ne95.true in
    past_digits _ _ (sym c.is_at_class.ensures ∙ c.if-not-is_at_class.false) ended c.loop-first.invariant.end

pub loop-first-preserved-in-Some-to_digit : goal.loop-first-preserved-in-Some-to_digit
loop-first-preserved-in-Some-to_digit c = record {
  utf8 = search rules;
  end = end_of_end _ _ _ (end_behind_char _ _ _ c.in-Some.ensures.chars) c.loop-first.invariant.end;
  value = digit_taken _ _ _ _ _ _ _ _ c.requires.least c.in-Some.ensures.chars (sym c.is_ascii_hexdigit.ensures.value ∙ c.if-is_ascii_hexdigit.true)
      c.in-Some-to_digit.ensures.value c.with_digit-value.ensures c.loop-first.invariant.value;
}

pub loop-first-preserved : goal.loop-first-preserved
loop-first-preserved c = record {
  utf8 = search rules;
  end = end_of_end _ _ _ (end_behind_char _ _ _ c.in-Some.ensures.chars) c.loop-first.invariant.end;
  value = underscore_passed _ _ _ _ _ _ c.in-Some.ensures.chars c.if-first-ne95.false c.loop-first.invariant.value;
}

pub returns-clause-value : goal.returns-clause-value
returns-clause-value c =
    let ended : begins in_number (chars c.loop-first.rest.now) ≡ false = ap (begins in_number) c.in_default.ensures.chars in
    rw (digits_on-in_base _ _ (sym c.is_at_class.ensures ∙ c.if-not-is_at_class.false)) (magnitude_at_end _ _ _ _ ended c.loop-first.invariant.value)
