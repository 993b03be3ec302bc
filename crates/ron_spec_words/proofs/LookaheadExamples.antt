-- What the lookahead answers, computed.
use Rattle.std.proofs.Common.{◌≡◌, true, false, codes, refl}
use Rattle.std.specs.Str.{is_utf8, chars}
use lib.Utf8.{encode}
use Rattle.unicode_ident.proofs.Computing.{unicode_ident}
use Rattle.ron_spec_words.specs.Gap.{after_comment, skip_from, skip}
use Rattle.ron_spec_words.specs.Escape.{hex_character, hex_byte, unicode_escape, plain_escape, continuation}
use Rattle.ron_spec_words.specs.Quoted.{char, byte, string_escape, byte_string_escape, quoted_string, quoted_bytes, raw, string, byte_string}
use Rattle.ron_spec_words.specs.Name.{name, untyped_name}
use Rattle.ron_spec_words.specs.Scan.{token}
use Rattle.ron_spec_words.specs.Lookahead.{opens_field, opens_named_group, seek, holds_several}

-- ---- several items, or one

-- two items
two : holds_several (codes "1,2)") ≡ true
unfolding holds_several seek token skip skip_from after_comment char byte string byte_string quoted_string quoted_bytes string_escape byte_string_escape raw
    hex_character hex_byte unicode_escape plain_escape continuation is_utf8 chars encode unicode_ident
two = refl

-- one item, with its last comma
one_comma : holds_several (codes "1,)") ≡ false
unfolding holds_several seek token skip skip_from after_comment char byte string byte_string quoted_string quoted_bytes string_escape byte_string_escape raw
    hex_character hex_byte unicode_escape plain_escape continuation is_utf8 chars encode unicode_ident
one_comma = refl

-- without it
one : holds_several (codes "1)") ≡ false
unfolding holds_several seek token skip skip_from after_comment char byte string byte_string quoted_string quoted_bytes string_escape byte_string_escape raw
    hex_character hex_byte unicode_escape plain_escape continuation is_utf8 chars encode unicode_ident
one = refl

gap_behind_comma : holds_several (codes "1, /*c*/ )") ≡ false
unfolding holds_several seek token skip skip_from after_comment char byte string byte_string quoted_string quoted_bytes string_escape byte_string_escape raw
    hex_character hex_byte unicode_escape plain_escape continuation is_utf8 chars encode unicode_ident
gap_behind_comma = refl

-- the text ends before anything does
nothing : holds_several (codes "") ≡ false
unfolding holds_several seek token skip skip_from after_comment char byte string byte_string quoted_string quoted_bytes string_escape byte_string_escape raw
    hex_character hex_byte unicode_escape plain_escape continuation is_utf8 chars encode unicode_ident
nothing = refl

-- more than a gap and `)` follows, which is then refused
ends_behind_comma : holds_several (codes "1,") ≡ true
unfolding holds_several seek token skip skip_from after_comment char byte string byte_string quoted_string quoted_bytes string_escape byte_string_escape raw
    hex_character hex_byte unicode_escape plain_escape continuation is_utf8 chars encode unicode_ident
ends_behind_comma = refl

in_brackets : holds_several (codes "[1,2],)") ≡ false
unfolding holds_several seek token skip skip_from after_comment char byte string byte_string quoted_string quoted_bytes string_escape byte_string_escape raw
    hex_character hex_byte unicode_escape plain_escape continuation is_utf8 chars encode unicode_ident
in_brackets = refl

behind_brackets : holds_several (codes "(1,2),{3:4,5:6})") ≡ true
unfolding holds_several seek token skip skip_from after_comment char byte string byte_string quoted_string quoted_bytes string_escape byte_string_escape raw
    hex_character hex_byte unicode_escape plain_escape continuation is_utf8 chars encode unicode_ident
behind_brackets = refl

-- any closing bracket ends it
other_closing : holds_several (codes "1],2)") ≡ false
unfolding holds_several seek token skip skip_from after_comment char byte string byte_string quoted_string quoted_bytes string_escape byte_string_escape raw
    hex_character hex_byte unicode_escape plain_escape continuation is_utf8 chars encode unicode_ident
other_closing = refl

in_string : holds_several (codes "\",),\")") ≡ false
unfolding holds_several seek token skip skip_from after_comment char byte string byte_string quoted_string quoted_bytes string_escape byte_string_escape raw
    hex_character hex_byte unicode_escape plain_escape continuation is_utf8 chars encode unicode_ident
in_string = refl

behind_string : holds_several (codes "\"),\\\",\",1)") ≡ true
unfolding holds_several seek token skip skip_from after_comment char byte string byte_string quoted_string quoted_bytes string_escape byte_string_escape raw
    hex_character hex_byte unicode_escape plain_escape continuation is_utf8 chars encode unicode_ident
behind_string = refl

in_raw_string : holds_several (codes "r#\",\",\"#)") ≡ false
unfolding holds_several seek token skip skip_from after_comment char byte string byte_string quoted_string quoted_bytes string_escape byte_string_escape raw
    hex_character hex_byte unicode_escape plain_escape continuation is_utf8 chars encode unicode_ident
in_raw_string = refl

in_byte_string : holds_several (codes "b\",\")") ≡ false
unfolding holds_several seek token skip skip_from after_comment char byte string byte_string quoted_string quoted_bytes string_escape byte_string_escape raw
    hex_character hex_byte unicode_escape plain_escape continuation is_utf8 chars encode unicode_ident
in_byte_string = refl

in_char : holds_several (codes "',')") ≡ false
unfolding holds_several seek token skip skip_from after_comment char byte string byte_string quoted_string quoted_bytes string_escape byte_string_escape raw
    hex_character hex_byte unicode_escape plain_escape continuation is_utf8 chars encode unicode_ident
in_char = refl

behind_chars : holds_several (codes "''','\\'')") ≡ true
unfolding holds_several seek token skip skip_from after_comment char byte string byte_string quoted_string quoted_bytes string_escape byte_string_escape raw
    hex_character hex_byte unicode_escape plain_escape continuation is_utf8 chars encode unicode_ident
behind_chars = refl

in_byte : holds_several (codes "b',')") ≡ false
unfolding holds_several seek token skip skip_from after_comment char byte string byte_string quoted_string quoted_bytes string_escape byte_string_escape raw
    hex_character hex_byte unicode_escape plain_escape continuation is_utf8 chars encode unicode_ident
in_byte = refl

behind_byte : holds_several (codes "b'\\xff','x')") ≡ true
unfolding holds_several seek token skip skip_from after_comment char byte string byte_string quoted_string quoted_bytes string_escape byte_string_escape raw
    hex_character hex_byte unicode_escape plain_escape continuation is_utf8 chars encode unicode_ident
behind_byte = refl

in_comment : holds_several (codes "1/*,2*/)") ≡ false
unfolding holds_several seek token skip skip_from after_comment char byte string byte_string quoted_string quoted_bytes string_escape byte_string_escape raw
    hex_character hex_byte unicode_escape plain_escape continuation is_utf8 chars encode unicode_ident
in_comment = refl

in_line : holds_several (codes "1//,2\n)") ≡ false
unfolding holds_several seek token skip skip_from after_comment char byte string byte_string quoted_string quoted_bytes string_escape byte_string_escape raw
    hex_character hex_byte unicode_escape plain_escape continuation is_utf8 chars encode unicode_ident
in_line = refl

-- what is broken ends the lookahead
unclosed_string : holds_several (codes "\",1)") ≡ false
unfolding holds_several seek token skip skip_from after_comment char byte string byte_string quoted_string quoted_bytes string_escape byte_string_escape raw
    hex_character hex_byte unicode_escape plain_escape continuation is_utf8 chars encode unicode_ident
unclosed_string = refl

unclosed_comment : holds_several (codes "1/*,2") ≡ false
unfolding holds_several seek token skip skip_from after_comment char byte string byte_string quoted_string quoted_bytes string_escape byte_string_escape raw
    hex_character hex_byte unicode_escape plain_escape continuation is_utf8 chars encode unicode_ident
unclosed_comment = refl

unknown_escape : holds_several (codes "'\\q',1)") ≡ false
unfolding holds_several seek token skip skip_from after_comment char byte string byte_string quoted_string quoted_bytes string_escape byte_string_escape raw
    hex_character hex_byte unicode_escape plain_escape continuation is_utf8 chars encode unicode_ident
unknown_escape = refl

-- what is broken behind the comma does not
broken_behind : holds_several (codes "1,\"") ≡ true
unfolding holds_several seek token skip skip_from after_comment char byte string byte_string quoted_string quoted_bytes string_escape byte_string_escape raw
    hex_character hex_byte unicode_escape plain_escape continuation is_utf8 chars encode unicode_ident
broken_behind = refl

raw_name : holds_several (codes "r#r,b,br,r)") ≡ true
unfolding holds_several seek token skip skip_from after_comment char byte string byte_string quoted_string quoted_bytes string_escape byte_string_escape raw
    hex_character hex_byte unicode_escape plain_escape continuation is_utf8 chars encode unicode_ident
raw_name = refl

-- neither a raw string nor a raw identifier begins at `r#:`
no_raw_name : holds_several (codes "r#:,1)") ≡ true
unfolding holds_several seek token skip skip_from after_comment char byte string byte_string quoted_string quoted_bytes string_escape byte_string_escape raw
    hex_character hex_byte unicode_escape plain_escape continuation is_utf8 chars encode unicode_ident
no_raw_name = refl

-- ---- fields, and groups with a name

field : opens_field (codes "a /*b*/ :1") ≡ true
unfolding opens_field name skip skip_from after_comment unicode_ident
field = refl

raw_field : opens_field (codes "r#a:42") ≡ true
unfolding opens_field name skip skip_from after_comment unicode_ident
raw_field = refl

-- a field may have the name of a word
word_field : opens_field (codes "true:1") ≡ true
unfolding opens_field name skip skip_from after_comment unicode_ident
word_field = refl

no_field : opens_field (codes "a(b:1)") ≡ false
unfolding opens_field name skip skip_from after_comment unicode_ident
no_field = refl

no_name : opens_field (codes "r#:42") ≡ false
unfolding opens_field name skip skip_from after_comment unicode_ident
no_name = refl

named_group : opens_named_group (codes "r (42)") ≡ true
unfolding opens_named_group untyped_name skip skip_from after_comment unicode_ident
named_group = refl

option : opens_named_group (codes "Some(42)") ≡ false
unfolding opens_named_group untyped_name skip skip_from after_comment unicode_ident
option = refl

raw_option : opens_named_group (codes "r#Some(42)") ≡ true
unfolding opens_named_group untyped_name skip skip_from after_comment unicode_ident
raw_option = refl

float : opens_named_group (codes "inf(1)") ≡ false
unfolding opens_named_group untyped_name skip skip_from after_comment unicode_ident
float = refl
