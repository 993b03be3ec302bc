-- The text of a string that was read, and the bytes of a byte string.
use Rattle.std.specs.Prelude.{ℕ, Bool, true, false, List, chars}
use Rattle.std.specs.String.{string_bytes}
use Rattle.ron_spec_words.specs.Characters.{Text}
use Rattle.ron_lex_text.specs.declared.parsed.ParsedStr.{ParsedStr}
use Rattle.ron_lex_text.specs.declared.parsed.ParsedStr.TheVariants as text
use Rattle.ron_lex_text.specs.declared.parsed.ParsedByteStr.{ParsedByteStr}
use Rattle.ron_lex_text.specs.declared.parsed.ParsedByteStr.TheVariants as bytes

-- the UTF-8 of a text that was read
abbrev pub text_bytes : ParsedStr → List ℕ
text_bytes (text.Slice s) = s.now
text_bytes (text.Allocated s) = string_bytes s

-- its characters
abbrev pub parsed_text : ParsedStr → Text
parsed_text p = chars (text_bytes p)

-- it is a slice of the source
abbrev pub is_slice : ParsedStr → Bool
is_slice (text.Slice s) = true
is_slice (text.Allocated s) = false

-- the bytes of a byte string that was read
abbrev pub parsed_bytes : ParsedByteStr → List ℕ
parsed_bytes (bytes.Slice s) = s.now
parsed_bytes (bytes.Allocated v) = v.items

-- it is a slice of the source
abbrev pub is_byte_slice : ParsedByteStr → Bool
is_byte_slice (bytes.Slice s) = true
is_byte_slice (bytes.Allocated v) = false
