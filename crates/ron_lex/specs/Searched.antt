-- What the searches of a string go over.
use Rattle.std.specs.Prelude.{ℕ, ◌≤◌, ◌+◌, ◌*◌, ◌-◌, ◌^◌, ◌==◌, if◌then◌else◌, min, [], ◌∷◌}
use Rattle.ron_spec_words.specs.Characters.{Text, double_quote, small_b}
use Rattle.ron_spec_words.specs.Runs.{after_run}
use Rattle.ron_lex_text.specs.declared.text.Class.TheVariants.{Unquoted, Plain}
use Rattle.ron_lex_text.specs.Stretch.{in_class}
use Rattle.ron_lex.specs.Quoted.{ends_plainly}
use Rattle.ron_lex.specs.Turns.{passed}

-- Behind the opening quote: what stands before the closing one, and once more what stands from the first backslash to the first quote. Of a slice, all of it
-- once more: who keeps it compares it with the source, or copies it.
abbrev pub searched : Text → Text → ℕ
searched content rest =
    passed content (double_quote ∷ rest)
    +
    (if ends_plainly content then passed content (double_quote ∷ rest) else passed (after_run (in_class Plain) content) (after_run (in_class Unquoted) content))

-- the same of a string; a raw one twice, since it is a slice
abbrev pub searched_string : Text → Text → ℕ
searched_string [] rest = 0
searched_string (c ∷ content) rest = if c == double_quote then searched content rest else 2 * passed (c ∷ content) rest

-- the same of a byte string
abbrev pub searched_bytes : Text → Text → ℕ
searched_bytes [] rest = 0
searched_bytes (c ∷ s) rest = if c == small_b then searched_string s rest else 0

-- the highest number of bytes that searches are said to have gone over
abbrev pub most_searched : ℕ
most_searched = 2 ^ 64 - 1

-- At least n are added to a number of bytes, which stays at the highest one.
abbrev pub Gains : ℕ → ℕ → ℕ → Type 0
Gains n old new = min (old + n) most_searched ≤ new
