use Rattle.std.proofs.Common.{chars, length}
use denote.Text.{Utf8}
use denote.Shadow.{shadow}
use Rattle.ron_lex_text.specs.Stretch.{IsSuffix}
use Rattle.ron_lex.specs.Numeral.{digits_on}
use Rattle.ron_lex.proofs.NumeralLemmas.{GoesOn}
use Rattle.ron_lex.proofs.numeral.split_digits.Given as goal

abbrev pub invariant-loop-first : goal.invariant-loop-first
invariant-loop-first l = record {
  utf8 : shadow (Utf8 l.rest);
  end : IsSuffix (chars l.rest) (chars l.text);
  value : GoesOn l.base l.value (chars l.rest) (digits_on l.base 0 (chars l.text));
}

abbrev pub decreases-loop-first : goal.decreases-loop-first
decreases-loop-first l = length l.rest
