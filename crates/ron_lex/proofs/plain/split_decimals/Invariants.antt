use Rattle.std.proofs.Common.{◌≡◌, chars, length}
use denote.Text.{Utf8}
use denote.Shadow.{shadow}
use Rattle.ron_spec_words.specs.Runs.{after_run}
use Rattle.ron_lex_text.specs.Stretch.{IsSuffix}
use Rattle.ron_lex.specs.Numeral.{digits_on}
use Rattle.ron_lex.specs.Untyped.{passes_digits, in_both}
use Rattle.ron_lex.proofs.plain.split_decimals.Given as goal

abbrev pub invariant-digits : goal.invariant-digits
invariant-digits l = record {
  utf8 : shadow (Utf8 l.rest);
  end : IsSuffix (chars l.rest) (chars l.text);
  value : digits_on 10 l.value (chars l.rest) ≡ digits_on 10 0 (chars l.text);
  float : passes_digits (chars l.rest) ≡ passes_digits (chars l.text);
  both : after_run in_both (chars l.rest) ≡ after_run in_both (chars l.text);
}

abbrev pub decreases-digits : goal.decreases-digits
decreases-digits l = length l.rest
