-- What a numeral of the code stands for, where its digits begin, and what a fault says of the text.
use Rattle.std.specs.Prelude.{◌≡◌, ℕ, ◌≤◌, ◌^◌, ◌*◌, ◌+◌, ◌==◌, nat_lt, cond, if◌then◌else◌, [], ◌∷◌, drop, codes, Option, Some, None}
use Rattle.std.specs.Char.{is_ascii_hexdigit, digit_value}
use Rattle.ron_value_number.specs.declared.width.Width.{Width}
use Rattle.ron_value_number.specs.declared.width.Width.TheVariants.{I8, I16, I32, I64, I128, U8, U16, U32, U64, U128}
use Rattle.ron_spec_words.specs.Characters.{Text, low_line}
use Rattle.ron_spec_words.specs.Runs.{begins_with}
use Rattle.ron_spec_words.specs.Reader.{Got, got, failed, bad}
use Rattle.ron_spec_words.specs.Number as words
use Rattle.ron_spec_words.specs.Number.{Suffix, i8, i16, i32, i64, i128, u8, u16, u32, u64, u128, opens_base}
use Rattle.ron_lex.specs.declared.numeral.Numeral.{Numeral}
use Rattle.ron_lex.specs.declared.numeral.NumeralFault.{NumeralFault}
use Rattle.ron_lex.specs.declared.numeral.NumeralFault.TheVariants.{OutOfBounds}

-- the suffix that names a width
abbrev pub width_suffix : Width → Suffix
width_suffix I8 = i8
width_suffix I16 = i16
width_suffix I32 = i32
width_suffix I64 = i64
width_suffix I128 = i128
width_suffix U8 = u8
width_suffix U16 = u16
width_suffix U32 = u32
width_suffix U64 = u64
width_suffix U128 = u128

-- the suffix that names a width, or none
abbrev pub suffix_of : Option Width → Option Suffix
suffix_of (Some w) = Some (width_suffix w)
suffix_of None = None

-- what a numeral spells, without its base and its literal
abbrev pub numeral_view : Numeral → words.Numeral
numeral_view n = record { minus = n.is_negative; magnitude = n.magnitude; suffix = suffix_of n.suffix }

-- the base of the digits that stand at the start of a text
abbrev pub base_at : Text → ℕ
base_at s =
    if begins_with (codes "0b") s then 2 else
    (if begins_with (codes "0o") s then 8 else
    (if begins_with (codes "0x") s then 16 else 10))

-- the text from its digits on
abbrev pub past_base : Text → Text
past_base s = if opens_base s then drop 2 s else s

-- The number that the digits so far and then those of a text spell, and what follows them.
abbrev pub digits_on : ℕ → ℕ → Text → Got ℕ
digits_on base high [] = got high []
digits_on base high (c ∷ s) =
    cond (is_ascii_hexdigit c) (cond (nat_lt (digit_value c) base) (digits_on base (high * base + digit_value c) s) (failed bad))
    (cond (c == low_line) (digits_on base high s) (got high (c ∷ s)))

-- a number that passes 128 bits was read, and rest follows it
pub record IsLarge (answer : Got ℕ) (rest : Text) : Type 0 where
  pub number : ℕ
  pub is : answer ≡ got number rest
  pub large : 2 ^ 128 ≤ number

-- the number that was read, or none where it passes 128 bits
abbrev pub IsMagnitude : Got ℕ → Option ℕ → Text → Type 0
IsMagnitude answer (Some n) rest = answer ≡ got n rest
IsMagnitude answer None rest = IsLarge answer rest

-- an integer whose magnitude passes 128 bits was read, and rest follows it
pub record IsLargeNumeral (answer : Got words.Numeral) (rest : Text) : Type 0 where
  pub numeral : words.Numeral
  pub is : answer ≡ got numeral rest
  pub large : 2 ^ 128 ≤ numeral.magnitude

-- what is out of bounds is an integer that passes 128 bits, and for any other fault no integer stands there
abbrev pub RefusesNumeral : Got words.Numeral → NumeralFault → Text → Type 0
RefusesNumeral answer OutOfBounds rest = IsLargeNumeral answer rest
RefusesNumeral answer _ rest = answer ≡ failed bad
