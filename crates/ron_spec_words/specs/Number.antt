-- Integers whole: perhaps a sign, perhaps a base, digits, and perhaps a suffix.
--
-- A suffix and a byte literal are one case. A byte literal spells the integer of its byte with the suffix `u8`. So an
-- integer shape has one rule: the suffix is none or the width's own, and the value fits.
--
-- An integer's end. The plain rule says of an integer that no hexadecimal digit, no `_` and no suffix follows. Here
-- its digits are the longest run of hexadecimal digits and `_` whatever the base, each of which has to be below the
-- base, and no suffix is spelled only where none stands. That none of these follows is then proved (clause
-- `number_ends`). So `12a` begins with no integer, and no text is related that the plain rule refuses.
use Rattle.std.specs.Prelude.{◌≡◌, ℕ, ◌+◌, ◌*◌, ◌^◌, nat_lt, Bool, true, false, not, ◌||◌, ◌==◌, if◌then◌else◌, filter, length, drop, List, [], ◌∷◌, codes, ℤ}
use Rattle.std.specs.Prelude.{pos, neg_ℤ, Option, Some, None}
use Rattle.std.specs.Char.{is_ascii_hexdigit, digit_value}
use Rattle.std.specs.List.{list_all}
use Rattle.ron_spec_words.specs.Characters.{Text, low_line, minus, plus, small_b, small_o, small_x, zero_digit}
use Rattle.ron_spec_words.specs.Runs.{is_at, begins_with}
use Rattle.ron_spec_words.specs.Lang.{Lang, Run, Behind, Means, Or, When}
use Rattle.ron_spec_words.specs.Reader.{got, bad, Got, Reader, fail, run, behind, means, pick}
use Rattle.ron_spec_words.specs.Directly.{Directly, FixedWord, directly, stands}

-- ---- suffixes

-- the width that a suffix names
pub data Suffix : Type 0 where
  i8 : Suffix
  i16 : Suffix
  i32 : Suffix
  i64 : Suffix
  i128 : Suffix
  u8 : Suffix
  u16 : Suffix
  u32 : Suffix
  u64 : Suffix
  u128 : Suffix

-- the word that names it
abbrev pub suffix_word : Suffix → Text
suffix_word i8 = codes "i8"
suffix_word i16 = codes "i16"
suffix_word i32 = codes "i32"
suffix_word i64 = codes "i64"
suffix_word i128 = codes "i128"
suffix_word u8 = codes "u8"
suffix_word u16 = codes "u16"
suffix_word u32 = codes "u32"
suffix_word u64 = codes "u64"
suffix_word u128 = codes "u128"

-- a suffix, or none where no suffix stands
abbrev pub OptSuffix : Lang (Option Suffix)
OptSuffix t next (Some x) = FixedWord (suffix_word x) x t next x
OptSuffix t next None = (t ≡ []) × ((x : Suffix) → stands (suffix_word x) next ≡ false)

-- ---- digits

-- what stands among the digits of an integer, whatever its base: a hexadecimal digit or `_`
abbrev pub in_number : ℕ → Bool
in_number c = is_ascii_hexdigit c || (c == low_line)

-- each digit is below the base
abbrev pub is_below : ℕ → Text → Bool
is_below base t = list_all (λ c. nat_lt (digit_value c) base) t

-- the sum of each digit times its power of the base
abbrev pub place_value : ℕ → Text → ℕ
place_value base [] = 0
place_value base (c ∷ t) = digit_value c * base ^ length t + place_value base t

-- the digits, without the `_` among them
abbrev pub digits_among : Text → Text
digits_among t = filter (λ c. not (c == low_line)) t

-- the number that these digits spell in this base
abbrev pub number_in : ℕ → Text → Option ℕ
number_in base t = if is_below base (digits_among t) then Some (place_value base (digits_among t)) else None

-- the longest run of hexadecimal digits and `_`, which begins with a digit, and each digit is below the base
abbrev pub InBase : ℕ → Lang ℕ
InBase base = Means (Run is_ascii_hexdigit in_number) (number_in base)

-- `0b`, `0o` or `0x`
abbrev pub opens_base : Text → Bool
opens_base s = begins_with (codes "0b") s || (begins_with (codes "0o") s || begins_with (codes "0x") s)

-- digits behind a base, or decimal digits where no base stands
abbrev pub Magnitude : Lang ℕ
Magnitude =
    Or (Behind 48 (Behind 98 (InBase 2)))
    (Or (Behind 48 (Behind 111 (InBase 8)))
    (Or (Behind 48 (Behind 120 (InBase 16)))
    (When (λ s. not (opens_base s)) (InBase 10))))

-- ---- whole

-- what an integer spells: whether a minus stands before it, its magnitude, and the width that its suffix names
pub record Numeral : Type 0 where
  pub minus : Bool
  pub magnitude : ℕ
  pub suffix : Option Suffix

-- a magnitude with its sign: `-0` is 0
abbrev pub signed : Bool → ℕ → ℤ
signed minus n = if minus then neg_ℤ (pos n) else pos n

-- the value of a numeral
abbrev pub numeral_value : Numeral → ℤ
numeral_value n = signed n.minus n.magnitude

-- what these spell together
abbrev pub numeral : Bool → ℕ → Option Suffix → Option Numeral
numeral minus n x = Some (record { minus = minus; magnitude = n; suffix = x })

-- a magnitude, and directly behind it a suffix or none
abbrev pub Unsigned : Bool → Lang Numeral
Unsigned minus = Directly Magnitude (λ n. Means OptSuffix (numeral minus n))

-- `+`, `-` or no sign, and directly behind it the rest
abbrev pub Number : Lang Numeral
Number = Or (Behind 43 (Unsigned false)) (Or (Behind 45 (Unsigned true)) (Unsigned false))

-- ---- reader functions

-- all suffixes
abbrev pub suffixes : List Suffix
suffixes = i8 ∷ i16 ∷ i32 ∷ i64 ∷ i128 ∷ u8 ∷ u16 ∷ u32 ∷ u64 ∷ u128 ∷ []

-- the first of these suffixes that stands at the start of the text
abbrev pub first_standing : List Suffix → Text → Option Suffix
first_standing [] s = None
first_standing (x ∷ xs) s = if stands (suffix_word x) s then Some x else first_standing xs s

-- what this suffix, or none, leaves of the text
abbrev pub past_suffix : Option Suffix → Text → Got (Option Suffix)
past_suffix (Some x) s = got (Some x) (drop (length (suffix_word x)) s)
past_suffix None s = got None s

-- a suffix or none
unfoldable pub opt_suffix : Reader (Option Suffix)
opt_suffix s = past_suffix (first_standing suffixes s) s

abbrev pub in_base : ℕ → Reader ℕ
in_base base = means (run is_ascii_hexdigit in_number) (number_in base)

unfoldable pub magnitude : Reader ℕ
magnitude =
    pick (begins_with (codes "0b")) (behind zero_digit (behind small_b (in_base 2)))
    (pick (begins_with (codes "0o")) (behind zero_digit (behind small_o (in_base 8)))
    (pick (begins_with (codes "0x")) (behind zero_digit (behind small_x (in_base 16)))
    (pick (λ s. not (opens_base s)) (in_base 10) (fail bad))))

abbrev pub unsigned : Bool → Reader Numeral
unsigned minus = directly magnitude (λ n. means opt_suffix (numeral minus n))

-- the reader function of integers
unfoldable pub number : Reader Numeral
number = pick (is_at plus) (behind plus (unsigned false)) (pick (is_at minus) (behind minus (unsigned true)) (unsigned false))
