use Rattle.std.proofs.Common.{◌≡◌, ◌≤◌, ℕ, Fits, w8, chars, length, get_or}
use denote.Text.{Utf8}
use denote.Shadow.{shadow}
use Rattle.ron_spec_words.specs.Runs.{after_run}
use Rattle.ron_lex_text.specs.Stretch.{is_space}
use Rattle.ron_lex_text.proofs.text.skip_fours.Given as goal

-- what is left is a text, and its spaces end where those of the whole end
abbrev pub invariant-loop-four : goal.invariant-loop-four
invariant-loop-four l = shadow (Utf8 l.rest) × ((i : ℕ) → Fits w8 (get_or l.rest i 0)) × (length l.rest ≤ length l.text)
    × (after_run is_space (chars l.rest) ≡ after_run is_space (chars l.text))

abbrev pub decreases-loop-four : goal.decreases-loop-four
decreases-loop-four l = length l.rest
