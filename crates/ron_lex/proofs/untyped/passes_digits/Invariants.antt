use Rattle.std.proofs.Common.{◌≡◌, chars, length}
use denote.Text.{Utf8}
use denote.Shadow.{shadow}
use Rattle.ron_spec_words.specs.Runs.{after_run}
use Rattle.ron_lex.specs.Untyped.{passes_digits, in_both}
use Rattle.ron_lex.proofs.untyped.passes_digits.Given as goal

-- what is answered from here on is what is answered from the start
abbrev pub invariant-loop-first : goal.invariant-loop-first
invariant-loop-first l = shadow (Utf8 l.rest) × (passes_digits (chars l.rest) ≡ passes_digits (chars l.fn.text))
    × (after_run in_both (chars l.rest) ≡ after_run in_both (chars l.fn.text))

abbrev pub decreases-loop-first : goal.decreases-loop-first
decreases-loop-first l = length l.rest
