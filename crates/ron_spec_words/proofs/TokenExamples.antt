-- Tokens and walks that compute.
use Rattle.std.proofs.Common.{◌≡◌, true, false, [], codes, Some, None, refl}
use Rattle.std.specs.Str.{is_utf8, chars}
use lib.Utf8.{encode}
use Rattle.unicode_ident.proofs.Computing.{unicode_ident}
use Rattle.ron_spec_words.specs.Gap.{after_comment, skip_from, skip}
use Rattle.ron_spec_words.specs.Escape.{hex_character, hex_byte, unicode_escape, plain_escape, continuation}
use Rattle.ron_spec_words.specs.Quoted.{char, byte, string_escape, byte_string_escape, quoted_string, quoted_bytes, raw, string, byte_string}
use Rattle.ron_spec_words.specs.Scan.{token, ends, Walk, here, on}

-- ---- gaps

blanks_and_comments : token (codes " /*,/*(*/*/ // )\n,1") ≡ Some (codes ",1")
unfolding token skip skip_from after_comment
blanks_and_comments = refl

unclosed_comment : token (codes "/* a") ≡ None
unfolding token skip skip_from after_comment
unclosed_comment = refl

lone_slash : token (codes "/a") ≡ None
unfolding token skip skip_from after_comment
lone_slash = refl

nothing_left : token [] ≡ None
unfolding token
nothing_left = refl

-- ---- strings and byte strings

comma_in_string : token (codes "\",)\",1") ≡ Some (codes ",1")
unfolding token string quoted_string string_escape raw hex_character hex_byte unicode_escape plain_escape continuation is_utf8 chars encode
comma_in_string = refl

escaped_quote : token (codes "\"\\\",\",1") ≡ Some (codes ",1")
unfolding token string quoted_string string_escape raw hex_character hex_byte unicode_escape plain_escape continuation is_utf8 chars encode
escaped_quote = refl

raw_string : token (codes "r##\"),\"#,\"##,1") ≡ Some (codes ",1")
unfolding token string quoted_string string_escape raw hex_character hex_byte unicode_escape plain_escape continuation is_utf8 chars encode
raw_string = refl

unclosed_string : token (codes "\",") ≡ None
unfolding token string quoted_string string_escape raw hex_character hex_byte unicode_escape plain_escape continuation is_utf8 chars encode
unclosed_string = refl

unknown_escape : token (codes "\"\\q\",1") ≡ None
unfolding token string quoted_string string_escape raw hex_character hex_byte unicode_escape plain_escape continuation is_utf8 chars encode
unknown_escape = refl

surrogate : token (codes "\"\\u{d800}\",1") ≡ None
unfolding token string quoted_string string_escape raw hex_character hex_byte unicode_escape plain_escape continuation is_utf8 chars encode
surrogate = refl

bytes : token (codes "b\",(\",1") ≡ Some (codes ",1")
unfolding token byte_string quoted_bytes byte_string_escape raw hex_byte unicode_escape plain_escape continuation encode
bytes = refl

raw_bytes : token (codes "br#\"(\",\"#,1") ≡ Some (codes ",1")
unfolding token byte_string quoted_bytes byte_string_escape raw hex_byte unicode_escape plain_escape continuation encode
raw_bytes = refl

unclosed_bytes : token (codes "br\",") ≡ None
unfolding token byte_string quoted_bytes byte_string_escape raw hex_byte unicode_escape plain_escape continuation encode
unclosed_bytes = refl

-- ---- char and byte literals

quote_itself : token (codes "''',1") ≡ Some (codes ",1")
unfolding token char hex_byte unicode_escape plain_escape
quote_itself = refl

comma_in_char : token (codes "',',1") ≡ Some (codes ",1")
unfolding token char hex_byte unicode_escape plain_escape
comma_in_char = refl

opening_in_char : token (codes "'\\u{28}',1") ≡ Some (codes ",1")
unfolding token char hex_byte unicode_escape plain_escape
opening_in_char = refl

two_characters : token (codes "'ab'") ≡ None
unfolding token char hex_byte unicode_escape plain_escape
two_characters = refl

byte_literal : token (codes "b'(',1") ≡ Some (codes ",1")
unfolding token byte hex_byte plain_escape
byte_literal = refl

no_byte_literal : token (codes "b'é'") ≡ None
unfolding token byte hex_byte plain_escape
no_byte_literal = refl

-- ---- identifiers and runs

plain_name : token (codes "name, 1") ≡ Some (codes ", 1")
unfolding token unicode_ident
plain_name = refl

-- where a name is wanted, the mark refuses it; a token it is
before_mark : token (codes "a.b") ≡ Some (codes ".b")
unfolding token unicode_ident
before_mark = refl

raw_name : token (codes "r#b.c-d,1") ≡ Some (codes ",1")
unfolding token unicode_ident
raw_name = refl

name_r : token (codes "r,1") ≡ Some (codes ",1")
unfolding token unicode_ident
name_r = refl

-- neither a raw string nor a raw identifier begins here
no_raw_name : token (codes "r#:") ≡ Some (codes "#:")
unfolding token unicode_ident
no_raw_name = refl

run_then_string : token (codes "abr\"),\"") ≡ Some (codes "\"),\"")
unfolding token unicode_ident
run_then_string = refl

-- all of it, also where an integer is a front of it
digits : token (codes "12ab_,1") ≡ Some (codes ",1")
unfolding token unicode_ident
digits = refl

based : token (codes "0xFFu8)") ≡ Some (codes ")")
unfolding token unicode_ident
based = refl

fraction : token (codes "1.5") ≡ Some (codes ".5")
unfolding token unicode_ident
fraction = refl

-- ---- other characters

sign : token (codes "-1") ≡ Some (codes "1")
unfolding token unicode_ident
sign = refl

dots : token (codes "..=2") ≡ Some (codes ".=2")
unfolding token unicode_ident
dots = refl

opening : token (codes "(a)") ≡ Some (codes "a)")
unfolding token unicode_ident
opening = refl

-- ---- walks

list : Walk false 0 (codes "[1,(a)],") 0 (codes ",")
unfolding token unicode_ident
list =
    on 0 91 [] (codes "1,(a)],") _ _ refl refl (on 1 49 [] (codes ",(a)],") _ _ refl refl (on 1 44 [] (codes "(a)],") _ _ refl refl
    (on 1 40 [] (codes "a)],") _ _ refl refl
    (on 2 97 [] (codes ")],") _ _ refl refl (on 2 41 [] (codes "],") _ _ refl refl (on 1 93 [] (codes ",") _ _ refl refl (here 0 (codes ","))))))))

-- one bracket more is open behind it
to_an_opening : Walk false 0 (codes "Some(x)") 1 (codes "x)")
unfolding token unicode_ident
to_an_opening = on 0 83 (codes "ome") (codes "(x)") _ _ refl refl (on 0 40 [] (codes "x)") _ _ refl refl (here 1 (codes "x)")))

-- bare content, where commas may stand
bare : Walk true 0 (codes "1,2,)") 0 (codes ")")
unfolding token unicode_ident
bare = on 0 49 [] (codes ",2,)") _ _ refl refl
    (on 0 44 [] (codes "2,)") _ _ refl refl (on 0 50 [] (codes ",)") _ _ refl refl (on 0 44 [] (codes ")") _ _ refl refl (here 0 (codes ")")))))

-- where they may not, one is the end
comma_ends : ends false 0 44 ≡ true
comma_ends = refl

closing_ends : ends true 0 41 ≡ true
closing_ends = refl

within_brackets : ends false 1 44 ≡ false
within_brackets = refl
