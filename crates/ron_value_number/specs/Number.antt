-- A number as a width and a value.
use Rattle.std.specs.Prelude.{◌≡◌, ℕ, Bool, true, false, if◌then◌else◌, ℤ, pos, neg_ℤ, Option, MatchOption}
use Rattle.std.specs.declared.cmp.Ordering.{Ordering}
use Rattle.std.specs.Ordering.{on, then_cmp, nat_cmp, int_cmp}
use Rattle.ron_value_number.specs.declared.number.Number.{Number}
use Rattle.ron_value_number.specs.declared.number.Number.TheVariants as number
use Rattle.ron_value_number.specs.declared.width.Width.{Width}
use Rattle.ron_value_number.specs.declared.width.Width.TheVariants.{I8, I16, I32, I64, I128, U8, U16, U32, U64, U128}
use Rattle.ron_value_number.specs.Width.{fits, width_place}

-- a number's width
abbrev pub number_width : Number → Width
number_width (number.I8 n) = I8
number_width (number.I16 n) = I16
number_width (number.I32 n) = I32
number_width (number.I64 n) = I64
number_width (number.I128 n) = I128
number_width (number.U8 n) = U8
number_width (number.U16 n) = U16
number_width (number.U32 n) = U32
number_width (number.U64 n) = U64
number_width (number.U128 n) = U128

-- a number's value, whatever its width
abbrev pub number_value : Number → ℤ
number_value (number.I8 n) = n
number_value (number.I16 n) = n
number_value (number.I32 n) = n
number_value (number.I64 n) = n
number_value (number.I128 n) = n
number_value (number.U8 n) = pos n
number_value (number.U16 n) = pos n
number_value (number.U32 n) = pos n
number_value (number.U64 n) = pos n
number_value (number.U128 n) = pos n

-- the value that a sign and a magnitude stand for: `-0` is 0
abbrev pub signed : Bool → ℕ → ℤ
signed is_negative magnitude = if is_negative then neg_ℤ (pos magnitude) else pos magnitude

-- the number of this width and value, or none exactly where the value does not lie in the width
abbrev pub IsNumberIn : Width → ℤ → Option Number → Type 0
IsNumberIn w z answer = MatchOption answer (fits w z ≡ false) (λ n. (fits w z ≡ true) × (number_width n ≡ w) × (number_value n ≡ z))

-- numbers in order: by the width's place, then by value
abbrev pub number_cmp : Number → Number → Ordering
number_cmp = then_cmp (on (λ n. width_place (number_width n)) nat_cmp) (on number_value int_cmp)
