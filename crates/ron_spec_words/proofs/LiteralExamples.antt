-- Words of the code, char and byte literals, strings and byte strings that compute, with what the format says of them.
use Rattle.std.proofs.Common.{◌≡◌, true, false, [], ◌∷◌, codes, refl}
use Rattle.std.specs.Str.{is_utf8, chars}
use lib.Utf8.{encode}
use Rattle.unicode_ident.proofs.Computing.{unicode_ident}
use Rattle.ron_spec_words.specs.Reader.{bad, got, failed}
use Rattle.ron_spec_words.specs.Lang.{done}
use Rattle.ron_spec_words.specs.Directly.{fixed_word}
use Rattle.ron_spec_words.specs.Escape.{hex_character, hex_byte, unicode_escape, plain_escape, continuation}
use Rattle.ron_spec_words.specs.Quoted.{char, byte, string_escape, byte_string_escape, quoted_string, quoted_bytes, raw, string, byte_string, holds_escape}

true_word : fixed_word (codes "true") done (codes "true,") ≡ got done (codes ",")
unfolding unicode_ident
true_word = refl

longer_word : fixed_word (codes "true") done (codes "true_") ≡ failed bad
unfolding unicode_ident
longer_word = refl

quote_itself : char (codes "'''") ≡ got (39) ([])
unfolding char hex_byte unicode_escape plain_escape
quote_itself = refl

ascii_by_byte : char (codes "'\\x41'") ≡ got (0x41) ([])
unfolding char hex_byte unicode_escape plain_escape
ascii_by_byte = refl

byte_above_ascii : char (codes "'\\x80'") ≡ failed bad
unfolding char hex_byte unicode_escape plain_escape
byte_above_ascii = refl

by_number : char (codes "'\\u{e9}'") ≡ got (0xE9) ([])
unfolding char hex_byte unicode_escape plain_escape
by_number = refl

escaped_quote : char (codes "'\\''") ≡ got (39) ([])
unfolding char hex_byte unicode_escape plain_escape
escaped_quote = refl

empty_char : char (codes "''") ≡ failed bad
unfolding char hex_byte unicode_escape plain_escape
empty_char = refl

unclosed_char : char (codes "'\\'") ≡ failed bad
unfolding char hex_byte unicode_escape plain_escape
unclosed_char = refl

two_characters : char (codes "'ab'") ≡ failed bad
unfolding char hex_byte unicode_escape plain_escape
two_characters = refl

no_continuation_in_char : char (codes "'\\\n'") ≡ failed bad
unfolding char hex_byte unicode_escape plain_escape
no_continuation_in_char = refl

byte_ff : byte (codes "b'\\xff'") ≡ got (0xFF) ([])
unfolding byte hex_byte plain_escape
byte_ff = refl

byte_quote : byte (codes "b'''") ≡ got (39) ([])
unfolding byte hex_byte plain_escape
byte_quote = refl

no_number_in_byte : byte (codes "b'\\u{41}'") ≡ failed bad
unfolding byte hex_byte plain_escape
no_number_in_byte = refl

no_ascii_byte : byte (codes "b'é'") ≡ failed bad
unfolding byte hex_byte plain_escape
no_ascii_byte = refl

zero_byte : byte (codes "b'\\0'") ≡ got (0) ([])
unfolding byte hex_byte plain_escape
zero_byte = refl

plain_string : string (codes "\"é\n\", 1") ≡ got (codes "é\n") (codes ", 1")
unfolding string quoted_string string_escape raw hex_character hex_byte unicode_escape plain_escape continuation is_utf8 chars encode
plain_string = refl

continuation_lf : string (codes "\"a\\\n   b\"") ≡ got (codes "ab") ([])
unfolding string quoted_string string_escape raw hex_character hex_byte unicode_escape plain_escape continuation is_utf8 chars encode
continuation_lf = refl

continuation_crlf : string (codes "\"a\\\r\n \n\t\rb\"") ≡ got (codes "ab") ([])
unfolding string quoted_string string_escape raw hex_character hex_byte unicode_escape plain_escape continuation is_utf8 chars encode
continuation_crlf = refl

continuation_cr : string (codes "\"a\\\rb\"") ≡ failed bad
unfolding string quoted_string string_escape raw hex_character hex_byte unicode_escape plain_escape continuation is_utf8 chars encode
continuation_cr = refl

continuation_to_end : string (codes "\"a\\\n\"") ≡ got (codes "a") ([])
unfolding string quoted_string string_escape raw hex_character hex_byte unicode_escape plain_escape continuation is_utf8 chars encode
continuation_to_end = refl

four_bytes : string (codes "\"\\xf0\\x9f\\xa6\\x80\"") ≡ got (0x1F980 ∷ []) ([])
unfolding string quoted_string string_escape raw hex_character hex_byte unicode_escape plain_escape continuation is_utf8 chars encode
four_bytes = refl

one_byte_short : string (codes "\"\\xc3\"") ≡ failed bad
unfolding string quoted_string string_escape raw hex_character hex_byte unicode_escape plain_escape continuation is_utf8 chars encode
one_byte_short = refl

two_bytes : string (codes "\"\\xc3\\xa9\"") ≡ got (0xE9 ∷ []) ([])
unfolding string quoted_string string_escape raw hex_character hex_byte unicode_escape plain_escape continuation is_utf8 chars encode
two_bytes = refl

two_of_three_bytes : string (codes "\"\\xe2\\x82\"") ≡ failed bad
unfolding string quoted_string string_escape raw hex_character hex_byte unicode_escape plain_escape continuation is_utf8 chars encode
two_of_three_bytes = refl

two_ascii_bytes : string (codes "\"\\x41\\x42\"") ≡ got (codes "AB") ([])
unfolding string quoted_string string_escape raw hex_character hex_byte unicode_escape plain_escape continuation is_utf8 chars encode
two_ascii_bytes = refl

no_first_byte : string (codes "\"\\xff\"") ≡ failed bad
unfolding string quoted_string string_escape raw hex_character hex_byte unicode_escape plain_escape continuation is_utf8 chars encode
no_first_byte = refl

raw_string : string (codes "r##\"a\"#b\"##") ≡ got (codes "a\"#b") ([])
unfolding string quoted_string string_escape raw hex_character hex_byte unicode_escape plain_escape continuation is_utf8 chars encode
raw_string = refl

raw_backslash : string (codes "r\"a\\\"") ≡ got (codes "a\\") ([])
unfolding string quoted_string string_escape raw hex_character hex_byte unicode_escape plain_escape continuation is_utf8 chars encode
raw_backslash = refl

raw_without_end : string (codes "r\"") ≡ failed bad
unfolding string quoted_string string_escape raw hex_character hex_byte unicode_escape plain_escape continuation is_utf8 chars encode
raw_without_end = refl

raw_with_one_hash_too_few : string (codes "r#\"a\"") ≡ failed bad
unfolding string quoted_string string_escape raw hex_character hex_byte unicode_escape plain_escape continuation is_utf8 chars encode
raw_with_one_hash_too_few = refl

raw_hash_left : string (codes "r\"a\"#") ≡ got (codes "a") (codes "#")
unfolding string quoted_string string_escape raw hex_character hex_byte unicode_escape plain_escape continuation is_utf8 chars encode
raw_hash_left = refl

slash_at_end : string (codes "\"a\\") ≡ failed bad
unfolding string quoted_string string_escape raw hex_character hex_byte unicode_escape plain_escape continuation is_utf8 chars encode
slash_at_end = refl

unclosed_string : string (codes "\"a") ≡ failed bad
unfolding string quoted_string string_escape raw hex_character hex_byte unicode_escape plain_escape continuation is_utf8 chars encode
unclosed_string = refl

no_such_escape : string (codes "\"\\q\"") ≡ failed bad
unfolding string quoted_string string_escape raw hex_character hex_byte unicode_escape plain_escape continuation is_utf8 chars encode
no_such_escape = refl

no_second_digit : string (codes "\"\\x4\"") ≡ failed bad
unfolding string quoted_string string_escape raw hex_character hex_byte unicode_escape plain_escape continuation is_utf8 chars encode
no_second_digit = refl

no_hexadecimal_digit : string (codes "\"\\x4g\"") ≡ failed bad
unfolding string quoted_string string_escape raw hex_character hex_byte unicode_escape plain_escape continuation is_utf8 chars encode
no_hexadecimal_digit = refl

no_brace : string (codes "\"\\u41\"") ≡ failed bad
unfolding string quoted_string string_escape raw hex_character hex_byte unicode_escape plain_escape continuation is_utf8 chars encode
no_brace = refl

no_digits : string (codes "\"\\u{}\"") ≡ failed bad
unfolding string quoted_string string_escape raw hex_character hex_byte unicode_escape plain_escape continuation is_utf8 chars encode
no_digits = refl

seven_digits : string (codes "\"\\u{0000041}\"") ≡ failed bad
unfolding string quoted_string string_escape raw hex_character hex_byte unicode_escape plain_escape continuation is_utf8 chars encode
seven_digits = refl

six_digits : string (codes "\"\\u{000041}\"") ≡ got (codes "A") ([])
unfolding string quoted_string string_escape raw hex_character hex_byte unicode_escape plain_escape continuation is_utf8 chars encode
six_digits = refl

surrogate : string (codes "\"\\u{d800}\"") ≡ failed bad
unfolding string quoted_string string_escape raw hex_character hex_byte unicode_escape plain_escape continuation is_utf8 chars encode
surrogate = refl

beyond_unicode : string (codes "\"\\u{110000}\"") ≡ failed bad
unfolding string quoted_string string_escape raw hex_character hex_byte unicode_escape plain_escape continuation is_utf8 chars encode
beyond_unicode = refl

all_plain_escapes : string (codes "\"\\'\\\"\\\\\\n\\r\\t\\0\"") ≡ got (39 ∷ 34 ∷ 92 ∷ 10 ∷ 13 ∷ 9 ∷ 0 ∷ []) ([])
unfolding string quoted_string string_escape raw hex_character hex_byte unicode_escape plain_escape continuation is_utf8 chars encode
all_plain_escapes = refl

byte_string_ff : byte_string (codes "b\"\\xff\\xc3\"") ≡ got (0xFF ∷ 0xC3 ∷ []) ([])
unfolding byte_string quoted_bytes byte_string_escape raw hex_byte unicode_escape plain_escape continuation encode
byte_string_ff = refl

byte_string_character : byte_string (codes "b\"é\"") ≡ got (0xC3 ∷ 0xA9 ∷ []) ([])
unfolding byte_string quoted_bytes byte_string_escape raw hex_byte unicode_escape plain_escape continuation encode
byte_string_character = refl

byte_string_by_number : byte_string (codes "b\"\\u{e9}\"") ≡ got (0xC3 ∷ 0xA9 ∷ []) ([])
unfolding byte_string quoted_bytes byte_string_escape raw hex_byte unicode_escape plain_escape continuation encode
byte_string_by_number = refl

byte_string_continuation : byte_string (codes "b\"a\\\n  b\"") ≡ got (codes "ab") ([])
unfolding byte_string quoted_bytes byte_string_escape raw hex_byte unicode_escape plain_escape continuation encode
byte_string_continuation = refl

raw_byte_string : byte_string (codes "br#\"#\"#") ≡ got (35 ∷ []) ([])
unfolding byte_string quoted_bytes byte_string_escape raw hex_byte unicode_escape plain_escape continuation encode
raw_byte_string = refl

raw_byte_string_character : byte_string (codes "br\"é\"") ≡ got (0xC3 ∷ 0xA9 ∷ []) ([])
unfolding byte_string quoted_bytes byte_string_escape raw hex_byte unicode_escape plain_escape continuation encode
raw_byte_string_character = refl

-- U+D800 has no UTF-8
surrogate_bytes : string (codes "\"\\xed\\xa0\\x80\"") ≡ failed bad
unfolding string quoted_string string_escape raw hex_character hex_byte unicode_escape plain_escape continuation is_utf8 chars encode
surrogate_bytes = refl

-- U+0000 has one byte, not two
too_many_bytes : string (codes "\"\\xc0\\x80\"") ≡ failed bad
unfolding string quoted_string string_escape raw hex_character hex_byte unicode_escape plain_escape continuation is_utf8 chars encode
too_many_bytes = refl

-- four bytes that begin no character
beyond_unicode_bytes : string (codes "\"\\xf4\\x90\\x80\\x80\"") ≡ failed bad
unfolding string quoted_string string_escape raw hex_character hex_byte unicode_escape plain_escape continuation is_utf8 chars encode
beyond_unicode_bytes = refl

byte_and_number : string (codes "\"\\xf0\\x9f\\xa6\\u{80}\"") ≡ failed bad
unfolding string quoted_string string_escape raw hex_character hex_byte unicode_escape plain_escape continuation is_utf8 chars encode
byte_and_number = refl

no_hexadecimal_digit_in_braces : string (codes "\"\\u{4g}\"") ≡ failed bad
unfolding string quoted_string string_escape raw hex_character hex_byte unicode_escape plain_escape continuation is_utf8 chars encode
no_hexadecimal_digit_in_braces = refl

slice : holds_escape (codes "\"a b\"") ≡ false
slice = refl

escaped_string : holds_escape (codes "\"a\\nb\"") ≡ true
escaped_string = refl

raw_slice : holds_escape (codes "r\"a\\b\"") ≡ false
raw_slice = refl
