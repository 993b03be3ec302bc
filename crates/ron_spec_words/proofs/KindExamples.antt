-- Kinds and tables of kinds, computed.
use Rattle.std.proofs.Common.{◌≡◌, [], ◌∷◌, codes, refl}
use Rattle.std.specs.Str.{is_utf8, chars}
use lib.Utf8.{encode}
use Rattle.unicode_ident.proofs.Computing.{unicode_ident}
use Rattle.ron_spec_words.specs.Gap.{after_comment, skip_from, skip}
use Rattle.ron_spec_words.specs.Escape.{hex_character, hex_byte, unicode_escape, plain_escape, continuation}
use Rattle.ron_spec_words.specs.Quoted.{char, byte, string_escape, byte_string_escape, quoted_string, quoted_bytes, raw, string, byte_string}
use Rattle.ron_spec_words.specs.Name.{name}
use Rattle.ron_spec_words.specs.Scan.{token}
use Rattle.ron_spec_words.specs.Lookahead.{opens_field, seek}
use Rattle.ron_spec_words.specs.Kind.{named_fields, many_items, newtype_item, broken, kind}
use Rattle.ron_spec_words.specs.KindTable.{kinds_from, kinds, fill_from, kind_table}

-- what kinds compute by
unfoldable by_tokens : Unit {0}
unfolding kind opens_field name seek token skip skip_from after_comment char byte string byte_string quoted_string quoted_bytes string_escape byte_string_escape
    raw hex_character hex_byte unicode_escape plain_escape continuation is_utf8 chars encode unicode_ident kinds_from fill_from
by_tokens = tt

-- ---- named fields

field : kind (codes "a: 1)") ≡ named_fields
unfolding by_tokens
field = refl

raw_field : kind (codes " r#a /* c */ : 1)") ≡ named_fields
unfolding by_tokens
raw_field = refl

-- told before anything closes or breaks
open_field : kind (codes "a:\"") ≡ named_fields
unfolding by_tokens
open_field = refl

-- a mark that a plain name may not hold
no_plain_name : kind (codes "a.b:1)") ≡ newtype_item
unfolding by_tokens
no_plain_name = refl

later_colon : kind (codes "1,a:1)") ≡ many_items
unfolding by_tokens
later_colon = refl

-- ---- items

two : kind (codes "1, 2)") ≡ many_items
unfolding by_tokens
two = refl

one_comma : kind (codes "1,)") ≡ newtype_item
unfolding by_tokens
one_comma = refl

gaps_around_comma : kind (codes "1 , /*,*/ )") ≡ newtype_item
unfolding by_tokens
gaps_around_comma = refl

in_string : kind (codes "\"a,b\")") ≡ newtype_item
unfolding by_tokens
in_string = refl

in_byte : kind (codes "b',')") ≡ newtype_item
unfolding by_tokens
in_byte = refl

in_char : kind (codes "',')") ≡ newtype_item
unfolding by_tokens
in_char = refl

in_brackets : kind (codes "(1,2))") ≡ newtype_item
unfolding by_tokens
in_brackets = refl

behind_brackets : kind (codes "[1,2],3)") ≡ many_items
unfolding by_tokens
behind_brackets = refl

-- nothing before the closing bracket
empty_group : kind (codes ")") ≡ newtype_item
unfolding by_tokens
empty_group = refl

-- any closing bracket ends it
other_closing : kind (codes "1],2)") ≡ newtype_item
unfolding by_tokens
other_closing = refl

-- ---- broken ones

nothing : kind (codes "") ≡ broken
unfolding by_tokens
nothing = refl

no_end : kind (codes "1 (2,3)") ≡ broken
unfolding by_tokens
no_end = refl

open_string : kind (codes "\"a,1)") ≡ broken
unfolding by_tokens
open_string = refl

open_raw_string : kind (codes "r\",1)") ≡ broken
unfolding by_tokens
open_raw_string = refl

open_comment : kind (codes "1 /*,2)") ≡ broken
unfolding by_tokens
open_comment = refl

-- a comma behind a broken token
unknown_escape : kind (codes "'\\q',1)") ≡ broken
unfolding by_tokens
unknown_escape = refl

-- a broken token behind the comma
broken_behind : kind (codes "1,\"") ≡ many_items
unfolding by_tokens
broken_behind = refl

-- ---- tables

nested : kind_table (codes "Some(a:1,(2,3),[4])") ≡ named_fields ∷ many_items ∷ newtype_item ∷ []
unfolding by_tokens
nested = refl

nested_kinds : kinds (codes "Some(a:1,(2,3),[4])") ≡ named_fields ∷ many_items ∷ newtype_item ∷ []
unfolding by_tokens
nested_kinds = refl

-- a field's name behind gaps, and one that a raw identifier spells
names : kind_table (codes "{ a /*b*/ : (r#c:1), d: (e, f:1) }") ≡ named_fields ∷ named_fields ∷ many_items ∷ []
unfolding by_tokens
names = refl

no_names : kind_table (codes "(a.b:1)(1 a:2)(a b:3)([c]:4)") ≡ newtype_item ∷ newtype_item ∷ newtype_item ∷ newtype_item ∷ newtype_item ∷ []
unfolding by_tokens
no_names = refl

-- what is open where the text ends or breaks, and is not told before
left_open : kind_table (codes "(1,(2)[(3") ≡ many_items ∷ newtype_item ∷ broken ∷ broken ∷ []
unfolding by_tokens
left_open = refl

behind_broken : kind_table (codes "[(1)(\"a,2)(3)]") ≡ broken ∷ newtype_item ∷ broken ∷ []
unfolding by_tokens
behind_broken = refl

-- what closes nothing is passed
not_open : kind_table (codes "),}(1)") ≡ newtype_item ∷ []
unfolding by_tokens
not_open = refl
