-- The shape of bytes.
--
-- A list of bytes is read by the rule of an integer. Its items are integers of width U8, byte literals among them,
-- with the errors of those.
use Rattle.std.specs.Prelude.{ℕ, Bool, List, Option, Some, None, ℤ, pos, negsuc, ◌&&◌, if◌then◌else◌}
use Rattle.ron_spec_words.specs.Characters.{left_bracket, right_bracket}
use Rattle.ron_spec_words.specs.Runs.{is_at}
use Rattle.ron_spec_words.specs.Lang.{Lang, Means, Or, Items, Group, Needs}
use Rattle.ron_spec_words.specs.Reader.{Reader, means, pick, items, group, needs}
use Rattle.ron_spec_words.specs.Number.{Numeral, numeral_value}
use Rattle.ron_spec_words.specs.AnyInteger.{AnyInteger, any_integer}
use Rattle.ron_spec_words.specs.Quoted.{ByteString, byte_string}
use Rattle.ron_value_number.specs.declared.width.Width.TheVariants.{U8}
use Rattle.ron_value_number.specs.Width.{fits}
use Rattle.ron_spec_grammar.specs.Data.{Data, bytes_of}
use Rattle.ron_spec_grammar.specs.Rule.{Plain, plain}
use Rattle.ron_spec_grammar.specs.Shapes.Int.{suits}

-- these bytes, whichever they are
abbrev pub bytes_data : List ℕ → Option Data
bytes_data bs = Some (bytes_of bs)

-- the natural number that an integer is
abbrev pub natural : ℤ → Option ℕ
natural (pos n) = Some n
natural (negsuc n) = None

-- the byte that an integer of the shape `u8` is
abbrev pub as_byte : Numeral → Option ℕ
as_byte n = if suits U8 n.suffix && fits U8 (numeral_value n) then natural (numeral_value n) else None

-- ---- the text

-- an item of a list of bytes: an integer of the shape `u8`, one level below the list's own
abbrev pub ByteItem : ℕ → Lang ℕ
ByteItem room = Needs 2 room (Means AnyInteger as_byte)

-- `[`, the bytes with a comma between neighbours and perhaps a last comma, and `]`; entering the list takes one level
abbrev pub ByteList : ℕ → Lang Data
ByteList room = Group left_bracket right_bracket (λ gap. Needs 1 room (Means (Items (λ seen before. ByteItem room) gap) bytes_data))

-- a byte string, quoted or raw, or a list of bytes
abbrev pub BytesText : ℕ → Bool → Lang Data
BytesText room bare = Plain bare (Or (ByteList room) (Means ByteString bytes_data))

-- ---- its reader function

-- a byte
abbrev pub byte_item : ℕ → Reader ℕ
byte_item room = needs 2 room (means any_integer as_byte)

-- the list
abbrev pub byte_list : ℕ → Reader Data
byte_list room = group left_bracket right_bracket (λ gap. needs 1 room (means (items (λ seen before. byte_item room) right_bracket gap) bytes_data))

-- the bytes
abbrev pub read_bytes : ℕ → Bool → Reader Data
read_bytes room bare = plain bare (pick (is_at left_bracket) (byte_list room) (means byte_string bytes_data))
