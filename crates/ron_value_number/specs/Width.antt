-- The ten widths of integers, and which values fit them.
use Rattle.std.specs.Prelude.{ℕ, ◌-◌, ◌^◌, Bool, true, false, ◌&&◌, ◌==◌, if◌then◌else◌, List, codes, ℤ, pos, neg_ℤ, int_le}
use Rattle.ron_value_number.specs.declared.width.Width.{Width}
use Rattle.ron_value_number.specs.declared.width.Width.TheVariants.{I8, I16, I32, I64, I128, U8, U16, U32, U64, U128}

-- how many bits a value takes
abbrev pub bits : Width → ℕ
bits I8 = 8
bits I16 = 16
bits I32 = 32
bits I64 = 64
bits I128 = 128
bits U8 = 8
bits U16 = 16
bits U32 = 32
bits U64 = 64
bits U128 = 128

-- whether values below zero belong to it
abbrev pub is_signed : Width → Bool
is_signed I8 = true
is_signed I16 = true
is_signed I32 = true
is_signed I64 = true
is_signed I128 = true
is_signed _ = false

-- the word that names it
abbrev pub width_word : Width → List ℕ
width_word I8 = codes "i8"
width_word I16 = codes "i16"
width_word I32 = codes "i32"
width_word I64 = codes "i64"
width_word I128 = codes "i128"
width_word U8 = codes "u8"
width_word U16 = codes "u16"
width_word U32 = codes "u32"
width_word U64 = codes "u64"
width_word U128 = codes "u128"

-- the least value of a width
abbrev pub least : Width → ℤ
least w = if is_signed w then neg_ℤ (pos (2 ^ (bits w - 1))) else pos 0

-- the greatest value of a width
abbrev pub greatest : Width → ℤ
greatest w = if is_signed w then pos (2 ^ (bits w - 1) - 1) else pos (2 ^ bits w - 1)

-- the value lies in the width
abbrev pub fits : Width → ℤ → Bool
fits w n = int_le (least w) n && int_le n (greatest w)

-- a width's place among the ten
abbrev pub width_place : Width → ℕ
width_place I8 = 0
width_place I16 = 1
width_place I32 = 2
width_place I64 = 3
width_place I128 = 4
width_place U8 = 5
width_place U16 = 6
width_place U32 = 7
width_place U64 = 8
width_place U128 = 9

-- the two widths are the same
abbrev pub same_width : Width → Width → Bool
same_width v w = width_place v == width_place w
