-- Worked values that become data of a schema, or don't, each answered by computing.
use Rattle.std.proofs.Common.{◌≡◌, ℕ, pos, negsuc, true, List, [], ◌∷◌, Option, Some, None, codes, chars, refl}
use Rattle.std.proofs.lemmas.Str.{chars-encodes}
use lib.Utf8.{encode}
use Rattle.ron_spec_words.specs.Characters.{Text}
use Rattle.ron_value_number.specs.declared.width.Width.TheVariants.{I8, I32, U8, U16}
use Rattle.ron_value.specs.Tree.{Tree, items_from, pairs_from}
use Rattle.ron_value.specs.Tree as tree
use Rattle.ron_spec_grammar.specs.Data.{Data, bool_of, int_of, char_of, str_of, bytes_of, the_unit, the_none, some_of, unit_struct_of, list_of, tuple_of}
use Rattle.ron_spec_grammar.specs.Data.{tuple_struct_of, map_of, newtype_of, struct_of, value_of, datas, no_pairs, pair_and, no_fields, field_and}
use Rattle.ron_spec_grammar.specs.Schema.{Shape, Variant, bool, int, char, str, bytes, unit, optional, unit_struct, seq, tuple, tuple_struct, map, newtype}
use Rattle.ron_spec_grammar.specs.Schema.{struct, enum, any_value, only, field}
use Rattle.ron_spec_grammar.specs.Equal.{equal_data}
use Rattle.ron_spec_grammar.specs.Values.Conversion.{into}

-- what a value becomes by the first of these shapes
abbrev becomes : List Shape → Tree → Option Data
becomes schema t = into schema 0 t

-- numbers of eight bits, unsigned and signed
abbrev small : ℕ → Tree
small n = tree.number U8 (pos n)

abbrev signed : ℕ → Tree
signed n = tree.number I8 (pos n)

abbrev list : List Tree → Tree
list ts = tree.sequence (items_from ts)

-- ---- values that hold no others

boolean : becomes (bool ∷ []) (tree.boolean true) ≡ Some (bool_of true)
boolean = refl

character : becomes (char ∷ []) (tree.character 97) ≡ Some (char_of 97)
character = refl

a_text : (bs : List ℕ) → becomes (str ∷ []) (tree.text bs) ≡ Some (str_of (chars bs))
a_text bs = refl

the_unit_value : becomes (unit ∷ []) tree.unit ≡ Some the_unit
the_unit_value = refl

unit_as_unit_struct : becomes (unit_struct (codes "U") ∷ []) tree.unit ≡ Some (unit_struct_of (codes "U"))
unit_as_unit_struct = refl

boolean_as_character : becomes (char ∷ []) (tree.boolean true) ≡ None
boolean_as_character = refl

nothing_as_unit : becomes (unit ∷ []) tree.none ≡ None
nothing_as_unit = refl

-- ---- numbers

number_of_the_width : becomes (int U8 ∷ []) (small 255) ≡ Some (int_of U8 (pos 255))
number_of_the_width = refl

number_of_another_width : becomes (int I32 ∷ []) (small 255) ≡ Some (int_of I32 (pos 255))
number_of_another_width = refl

negative_of_another_width : becomes (int I32 ∷ []) (tree.number I8 (negsuc 0)) ≡ Some (int_of I32 (negsuc 0))
negative_of_another_width = refl

number_out_of_width : becomes (int U8 ∷ []) (tree.number U16 (pos 256)) ≡ None
number_out_of_width = refl

negative_out_of_width : becomes (int U8 ∷ []) (tree.number I8 (negsuc 0)) ≡ None
negative_out_of_width = refl

-- ---- bytes

bytes_themselves : becomes (bytes ∷ []) (tree.bytes (1 ∷ 255 ∷ [])) ≡ Some (bytes_of (1 ∷ 255 ∷ []))
bytes_themselves = refl

list_as_bytes : becomes (bytes ∷ []) (list (small 1 ∷ tree.number U16 (pos 255) ∷ [])) ≡ Some (bytes_of (1 ∷ 255 ∷ []))
list_as_bytes = refl

empty_list_as_bytes : becomes (bytes ∷ []) (list []) ≡ Some (bytes_of [])
empty_list_as_bytes = refl

list_past_bytes : becomes (bytes ∷ []) (list (small 1 ∷ tree.number U16 (pos 256) ∷ [])) ≡ None
list_past_bytes = refl

list_with_a_negative : becomes (bytes ∷ []) (list (tree.number I8 (negsuc 0) ∷ [])) ≡ None
list_with_a_negative = refl

list_of_booleans_as_bytes : becomes (bytes ∷ []) (list (tree.boolean true ∷ [])) ≡ None
list_of_booleans_as_bytes = refl

bytes_as_list : becomes (seq 1 ∷ int U8 ∷ []) (tree.bytes (1 ∷ [])) ≡ None
bytes_as_list = refl

-- ---- options

none_as_option : becomes (optional 1 ∷ bool ∷ []) tree.none ≡ Some the_none
none_as_option = refl

some_as_option : becomes (optional 1 ∷ bool ∷ []) (tree.some (tree.boolean true)) ≡ Some (some_of (bool_of true))
some_as_option = refl

bare_value_as_option : becomes (optional 1 ∷ bool ∷ []) (tree.boolean true) ≡ None
bare_value_as_option = refl

-- ---- lists, tuples and newtypes

list_as_list : becomes (seq 1 ∷ int U8 ∷ []) (list (small 1 ∷ small 2 ∷ [])) ≡ Some (list_of (datas (int_of U8 (pos 1) ∷ int_of U8 (pos 2) ∷ [])))
list_as_list = refl

list_with_another_item : becomes (seq 1 ∷ int U8 ∷ []) (list (small 1 ∷ tree.boolean true ∷ [])) ≡ None
list_with_another_item = refl

list_as_tuple : becomes (tuple (1 ∷ 2 ∷ []) ∷ int U8 ∷ bool ∷ []) (list (small 1 ∷ tree.boolean true ∷ []))
    ≡ Some (tuple_of (datas (int_of U8 (pos 1) ∷ bool_of true ∷ [])))
list_as_tuple = refl

list_as_tuple_struct : becomes (tuple_struct (codes "T") (1 ∷ 2 ∷ []) ∷ int U8 ∷ bool ∷ []) (list (small 1 ∷ tree.boolean true ∷ []))
    ≡ Some (tuple_struct_of (codes "T") (datas (int_of U8 (pos 1) ∷ bool_of true ∷ [])))
list_as_tuple_struct = refl

list_too_short : becomes (tuple (1 ∷ 1 ∷ []) ∷ int U8 ∷ []) (list (small 1 ∷ [])) ≡ None
list_too_short = refl

list_too_long : becomes (tuple (1 ∷ []) ∷ int U8 ∷ []) (list (small 1 ∷ small 2 ∷ [])) ≡ None
list_too_long = refl

unit_as_empty_tuple : becomes (tuple [] ∷ []) tree.unit ≡ None
unit_as_empty_tuple = refl

list_as_newtype : becomes (newtype (codes "N") 1 ∷ int U8 ∷ []) (list (small 1 ∷ [])) ≡ Some (newtype_of (codes "N") (int_of U8 (pos 1)))
list_as_newtype = refl

empty_list_as_newtype : becomes (newtype (codes "N") 1 ∷ int U8 ∷ []) (list []) ≡ None
empty_list_as_newtype = refl

list_of_two_as_newtype : becomes (newtype (codes "N") 1 ∷ int U8 ∷ []) (list (small 1 ∷ small 2 ∷ [])) ≡ None
list_of_two_as_newtype = refl

content_as_newtype : becomes (newtype (codes "N") 1 ∷ int U8 ∷ []) (small 1) ≡ None
content_as_newtype = refl

-- ---- maps

map_as_map : becomes (map 1 2 ∷ int U8 ∷ bool ∷ []) (tree.mapping (pairs_from ((small 1, tree.boolean true) ∷ [])))
    ≡ Some (map_of (pair_and (int_of U8 (pos 1)) (bool_of true) no_pairs))
map_as_map = refl

-- keys of two widths are two keys, and one behind the conversion: it keeps the first place and takes the last value
equal_keys : becomes (map 1 1 ∷ int U8 ∷ []) (tree.mapping (pairs_from ((signed 1, small 2) ∷ (signed 3, small 4) ∷ (small 1, small 5) ∷ [])))
    ≡ Some (map_of (pair_and (int_of U8 (pos 1)) (int_of U8 (pos 5)) (pair_and (int_of U8 (pos 3)) (int_of U8 (pos 4)) no_pairs)))
unfolding equal_data
equal_keys = refl

map_with_another_key : becomes (map 1 1 ∷ int U8 ∷ []) (tree.mapping (pairs_from ((tree.unit, small 2) ∷ []))) ≡ None
map_with_another_key = refl

-- ---- structs

-- a text of one character as a key
abbrev x_key : Tree
x_key = tree.text (120 ∷ [])

abbrev y_key : Tree
y_key = tree.text (121 ∷ [])

abbrev z_key : Tree
z_key = tree.text (122 ∷ [])

x_named : chars (120 ∷ []) ≡ codes "x"
unfolding encode
x_named = chars-encodes (codes "x") refl

y_named : chars (121 ∷ []) ≡ codes "y"
unfolding encode
y_named = chars-encodes (codes "y") refl

z_named : chars (122 ∷ []) ≡ codes "z"
unfolding encode
z_named = chars-encodes (codes "z") refl

-- x must be there, y may be missing
abbrev point : List Shape
point = struct (codes "P") (only (field (codes "x") 1 ∷ record (field (codes "y") 1) { may_be_missing = true } ∷ [])) ∷ int U8 ∷ []

abbrev named : List (Tree × Tree) → Option Data
named ps = becomes point (tree.mapping (pairs_from ps))

abbrev of_x_and_y : Data
of_x_and_y = struct_of (codes "P") (field_and (codes "x") (int_of U8 (pos 1)) (field_and (codes "y") (int_of U8 (pos 2)) no_fields))

map_as_struct : named ((x_key, small 1) ∷ (y_key, small 2) ∷ []) ≡ Some of_x_and_y
map_as_struct = rw (x_named, y_named) refl

fields_in_another_order : named ((y_key, small 2) ∷ (x_key, small 1) ∷ []) ≡ Some of_x_and_y
fields_in_another_order = rw (x_named, y_named) refl

field_that_may_be_missing : named ((x_key, small 1) ∷ []) ≡ Some (struct_of (codes "P") (field_and (codes "x") (int_of U8 (pos 1)) no_fields))
field_that_may_be_missing = rw x_named refl

field_that_must_be_there : named ((y_key, small 2) ∷ []) ≡ None
field_that_must_be_there = rw y_named refl

unknown_field : named ((x_key, small 1) ∷ (z_key, small 3) ∷ []) ≡ None
unknown_field = rw (x_named, z_named) refl

field_of_another_shape : named ((x_key, tree.boolean true) ∷ []) ≡ None
field_of_another_shape = rw x_named refl

key_that_is_no_text : named ((small 120, small 1) ∷ []) ≡ None
key_that_is_no_text = refl

empty_map_as_empty_struct : becomes (struct (codes "E") (only []) ∷ []) (tree.mapping (pairs_from [])) ≡ Some (struct_of (codes "E") no_fields)
empty_map_as_empty_struct = refl

list_as_struct : becomes point (list (small 1 ∷ small 2 ∷ [])) ≡ None
list_as_struct = refl

-- x, and whatever else
skipping_struct : becomes (struct (codes "P") (record { fields = field (codes "x") 1 ∷ []; skips_unknown = true }) ∷ int U8 ∷ [])
    (tree.mapping (pairs_from ((x_key, small 1) ∷ (z_key, tree.boolean true) ∷ [])))
    ≡ Some (struct_of (codes "P") (field_and (codes "x") (int_of U8 (pos 1)) no_fields))
skipping_struct = rw (x_named, z_named) refl

-- ---- aliases

abbrev left_key : Tree
left_key = tree.text (108 ∷ 101 ∷ 102 ∷ 116 ∷ [])

left_named : chars (108 ∷ 101 ∷ 102 ∷ 116 ∷ []) ≡ codes "left"
unfolding encode
left_named = chars-encodes (codes "left") refl

-- x, which may be called left too, and y
abbrev aliased : List (Tree × Tree) → Option Data
aliased ps = becomes (struct (codes "P") (only (record (field (codes "x") 1) { aliases = codes "left" ∷ [] } ∷ field (codes "y") 1 ∷ [])) ∷ int U8 ∷ [])
    (tree.mapping (pairs_from ps))

key_by_alias : aliased ((left_key, small 1) ∷ (y_key, small 2) ∷ []) ≡ Some of_x_and_y
key_by_alias = rw (left_named, y_named) refl

key_by_name : aliased ((x_key, small 1) ∷ (y_key, small 2) ∷ []) ≡ Some of_x_and_y
key_by_name = rw (x_named, y_named) refl

alias_and_name : aliased ((left_key, small 1) ∷ (x_key, small 1) ∷ (y_key, small 2) ∷ []) ≡ None
alias_and_name = rw (left_named, x_named) refl

no_alias : aliased ((y_key, small 2) ∷ (z_key, small 1) ∷ []) ≡ None
no_alias = rw (y_named, z_named) refl

-- ---- values

value_as_itself : becomes (any_value ∷ []) tree.unit ≡ Some (value_of tree.unit)
value_as_itself = refl

-- ---- enums

-- nothing becomes an enum
no_enum : (schema : List Shape) (name : Text) (variants : List Variant) (t : Tree) → becomes (enum name variants ∷ schema) t ≡ None
no_enum schema name variants (tree.boolean b) = refl
no_enum schema name variants (tree.character c) = refl
no_enum schema name variants (tree.mapping ps) = refl
no_enum schema name variants (tree.number w n) = refl
no_enum schema name variants tree.none = refl
no_enum schema name variants (tree.some t) = refl
no_enum schema name variants (tree.text bs) = refl
no_enum schema name variants (tree.bytes bs) = refl
no_enum schema name variants (tree.sequence ts) = refl
no_enum schema name variants tree.unit = refl
