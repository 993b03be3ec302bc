use Rattle.std.proofs.Common.{◌≡◌, ◌∷◌, false, chars, length}
use denote.Text.{Utf8}
use denote.Shadow.{shadow}
use Rattle.ron_spec_words.specs.Runs.{begins}
use Rattle.ron_spec_words.proofs.RawStrings.{ending_at}
use Rattle.ron_lex_text.specs.Stretch.{IsSuffix}
use Rattle.ron_lex.proofs.RawLemmas.{unquoted}
use Rattle.ron_lex.proofs.raw.split_at_ending.Given as goal

-- the first place of the ending is that from this quote on
abbrev pub invariant-loop-behind : goal.invariant-loop-behind
invariant-loop-behind l =
    shadow (Utf8 l.quote) × IsSuffix (chars l.quote) (chars l.text) × (begins unquoted (chars l.quote) ≡ false)
    × (ending_at (34 ∷ chars l.hashes) (chars l.text) ≡ ending_at (34 ∷ chars l.hashes) (chars l.quote))

abbrev pub decreases-loop-behind : goal.decreases-loop-behind
decreases-loop-behind l = length (chars l.quote)
