-- The shape of integers of a width.
use Rattle.std.specs.Prelude.{Bool, true, ◌&&◌, Option, Some, None, if◌then◌else◌}
use Rattle.ron_spec_words.specs.Lang.{Lang, Means}
use Rattle.ron_spec_words.specs.Reader.{Reader, means}
use Rattle.ron_spec_words.specs.Number.{Suffix, i8, i16, i32, i64, i128, u8, u16, u32, u64, u128, Numeral, numeral_value}
use Rattle.ron_spec_words.specs.AnyInteger.{AnyInteger, any_integer}
use Rattle.ron_spec_grammar.specs.Data.{Data, int_of}
use Rattle.ron_value_number.specs.declared.width.Width.{Width}
use Rattle.ron_value_number.specs.declared.width.Width.TheVariants.{I8, I16, I32, I64, I128, U8, U16, U32, U64, U128}
use Rattle.ron_value_number.specs.Width.{fits, same_width}
use Rattle.ron_spec_grammar.specs.Rule.{Plain, plain}

-- the width that a suffix names
abbrev pub suffix_width : Suffix → Width
suffix_width i8 = I8
suffix_width i16 = I16
suffix_width i32 = I32
suffix_width i64 = I64
suffix_width i128 = I128
suffix_width u8 = U8
suffix_width u16 = U16
suffix_width u32 = U32
suffix_width u64 = U64
suffix_width u128 = U128

-- no suffix, or one that names the width
abbrev pub suits : Width → Option Suffix → Bool
suits w None = true
suits w (Some x) = same_width (suffix_width x) w

-- the integer, where its suffix is none or the width's, and its value lies in the width
abbrev pub in_width : Width → Numeral → Option Data
in_width w n = if suits w n.suffix && fits w (numeral_value n) then Some (int_of w (numeral_value n)) else None

-- such an integer; for `u8` also a byte literal, which has that suffix's width
abbrev pub IntText : Width → Bool → Lang Data
IntText w bare = Plain bare (Means AnyInteger (in_width w))

-- its reader function
abbrev pub read_int : Width → Bool → Reader Data
read_int w bare = plain bare (means any_integer (in_width w))
