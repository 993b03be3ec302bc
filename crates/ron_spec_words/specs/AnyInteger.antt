-- Where an integer is wanted: an integer, or a byte literal.
use Rattle.std.specs.Prelude.{◌≡◌, ℕ, nat_lt, Bool, false, not, ◌||◌, ◌==◌, ◌⊎◌, if◌then◌else◌, length, [], ◌∷◌, codes, Option, Some}
use Rattle.std.specs.Char.{is_ascii_digit}
use Rattle.ron_spec_words.specs.Characters.{Text, capital_e, dot, low_line, minus, plus, small_e, small_o, small_x}
use Rattle.ron_spec_words.specs.Runs.{begins, is_at, run_of, begins_with}
use Rattle.ron_spec_words.specs.Lang.{Lang, Means, Or, When}
use Rattle.ron_spec_words.specs.Reader.{bad, Reader, fail, means, pick}
use Rattle.ron_spec_words.specs.Directly.{stands}
use Rattle.ron_spec_words.specs.Number.{Suffix, u8, suffix_word, in_number, Numeral, numeral, Number, number}
use Rattle.ron_spec_words.specs.Quoted.{Byte, byte}

-- a byte literal spells what its byte with the suffix `u8` would
abbrev pub byte_numeral : ℕ → Option Numeral
byte_numeral b = numeral false b (Some u8)

-- a byte literal or an integer
abbrev pub AnyInteger : Lang Numeral
AnyInteger = Or (Means Byte byte_numeral) Number

-- its reader function
unfoldable pub any_integer : Reader Numeral
any_integer = pick (begins_with (codes "b'")) (means byte byte_numeral) number

-- ---- untyped, where no float stands

-- what a float is made of: digits, `e`, `E`, `.`, `+`, `-` and `_`
abbrev pub in_float : ℕ → Bool
in_float c = is_ascii_digit c || ((c == small_e) || ((c == capital_e) || ((c == dot) || ((c == plus) || ((c == minus) || (c == low_line))))))

-- the text behind an optional sign
abbrev pub past_sign : Text → Text
past_sign [] = []
past_sign (c ∷ s) = if (c == plus) || (c == minus) then s else c ∷ s

-- a text up to its first `..`
abbrev pub before_dots : Text → Text
before_dots [] = []
before_dots (c ∷ t) = if begins_with (codes "..") (c ∷ t) then [] else c ∷ before_dots t

-- A float stands there: behind an optional sign the run of what a float is made of, up to its first `..`, is longer than the run of hexadecimal digits and `_`.
abbrev pub is_float : Text → Bool
is_float s = nat_lt (length (run_of in_number (past_sign s))) (length (before_dots (run_of in_float (past_sign s))))

-- a byte literal or an integer, where no float stands
abbrev pub UntypedInteger : Lang Numeral
UntypedInteger = When (λ s. not (is_float s)) AnyInteger

-- a decimal digit, `+` or `-`
abbrev pub starts_integer : ℕ → Bool
starts_integer c = is_ascii_digit c || ((c == plus) || (c == minus))

-- one of these or `b'` stands here, with which each integer and byte literal begins
abbrev pub opens_integer : Text → Bool
opens_integer s = begins_with (codes "b'") s || begins starts_integer s

-- its reader function
unfoldable pub untyped_integer : Reader Numeral
untyped_integer = pick (λ s. not (is_float s)) any_integer (fail bad)

-- ---- what may not follow

-- `0`, perhaps behind a sign
abbrev pub IsLoneZero : Text → Type 0
IsLoneZero t = (t ≡ codes "0") ⊎ ((t ≡ codes "+0") ⊎ (t ≡ codes "-0"))

-- An integer without a suffix is followed by no hexadecimal digit, by no `_` and by no suffix, and a lone `0` by neither `o` nor `x`.
pub record NumberEnds (t next : Text) : Type 0 where
  pub no_digit : begins in_number next ≡ false
  pub no_suffix : (x : Suffix) → stands (suffix_word x) next ≡ false
  pub no_base : IsLoneZero t → (is_at small_o next ≡ false) × (is_at small_x next ≡ false)
