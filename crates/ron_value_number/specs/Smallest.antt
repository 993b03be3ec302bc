-- The smallest width that holds a value, and the width of a number that is written without a type.
use Rattle.std.specs.Prelude.{◌≡◌, ◌↔◌, ◌≤◌, Bool, true, false, if◌then◌else◌, find, ℤ, List, [], ◌∷◌, Option, Some, None}
use Rattle.ron_value_number.specs.declared.width.Width.{Width}
use Rattle.ron_value_number.specs.declared.width.Width.TheVariants.{I8, I16, I32, I64, I128, U8, U16, U32, U64, U128}
use Rattle.ron_value_number.specs.Width.{bits, is_signed, fits}

-- the widths with a sign, or those without one, the smallest first
abbrev pub widths_of : Bool → List Width
widths_of true = I8 ∷ I16 ∷ I32 ∷ I64 ∷ I128 ∷ []
widths_of false = U8 ∷ U16 ∷ U32 ∷ U64 ∷ U128 ∷ []

-- the smallest of them that holds the value, if one does
unfoldable pub smallest_width : Bool → ℤ → Option Width
smallest_width with_sign z = find (λ w. fits w z) (widths_of with_sign)

-- The width of a number that is written without a type: its suffix's, where that holds the value. Without a suffix it is the smallest one that does, with a
-- sign where a minus stands before the digits.
abbrev pub written_width : Option Width → Bool → ℤ → Option Width
written_width (Some w) minus z = if fits w z then Some w else None
written_width None minus z = smallest_width minus z

-- ---- what is claimed of it

-- a width with a sign, or one without, that holds the value, and none like it with fewer bits does
pub record IsSmallest (with_sign : Bool) (z : ℤ) (w : Width) : Type 0 where
  pub of_kind : is_signed w ≡ with_sign
  pub holds : fits w z ≡ true
  pub least : (v : Width) → is_signed v ≡ with_sign → fits v z ≡ true → bits w ≤ bits v

-- The width that is found is that one.
abbrev pub FindsSmallest : Type 0
FindsSmallest = (with_sign : Bool) (z : ℤ) (w : Width) → (smallest_width with_sign z ≡ Some w) ↔ IsSmallest with_sign z w
