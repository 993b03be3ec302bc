-- Worked texts with ranges, each answered by computing the reader function.
use Rattle.std.proofs.Common.{◌≡◌, ℕ, Bool, true, false, List, [], ◌∷◌, codes, pos, negsuc, refl}
use Rattle.ron_spec_words.specs.Characters.{Text}
use Rattle.ron_spec_words.specs.Reader.{deep, bad}
use Rattle.ron_value_number.specs.declared.width.Width.TheVariants.{I8, I16, U8, U16, U32}
use Rattle.ron_value.specs.Tree.{Tree, items_from, pairs_from}
use Rattle.ron_value.specs.Tree as tree
use Rattle.ron_spec_grammar.specs.Data.{int_of, unit_struct_of, some_of, struct_of, tuple_of, newtype_variant_of, value_of, raw_of, list_of, no_datas, data_and}
use Rattle.ron_spec_grammar.specs.Data.{no_fields, field_and}
use Rattle.ron_spec_grammar.specs.Schema.{Shape, Variant, newtype_variant, any_value, any_raw, seq, int, unit_struct, optional, tuple, struct, enum, only}
use Rattle.ron_spec_grammar.specs.Schema.{is_well_formed, field}
use Rattle.ron_spec_grammar.specs.Rule.{Extensions}
use Rattle.ron_spec_grammar.specs.Document.{Answer, ok, err, answer_document}
use Rattle.ron_spec_grammar.proofs.Computing.{reading}

-- these extensions: unwrap_newtypes, implicit_some, unwrap_variant_newtypes, explicit_struct_names
abbrev with : Bool → Bool → Bool → Bool → Extensions
with a b c d = record { unwrap_newtypes = a; implicit_some = b; unwrap_variant_newtypes = c; explicit_struct_names = d }

-- a table of shapes whose root is the first, within a limit
abbrev reads : Extensions → List Shape → ℕ → Text → Answer
reads x schema limit text = answer_document x schema 0 limit text

-- a variant that holds one shape
abbrev holding : Text → ℕ → Variant
holding n i = record { name = n; content = newtype_variant i }

-- maps of texts `start` and `end`, in key order
abbrev of_start : Tree → Tree
of_start a = tree.mapping (pairs_from ((tree.text (codes "start"), a) ∷ []))

abbrev of_end : Tree → Tree
of_end b = tree.mapping (pairs_from ((tree.text (codes "end"), b) ∷ []))

abbrev of_both : Tree → Tree → Tree
of_both a b = tree.mapping (pairs_from ((tree.text (codes "end"), b) ∷ (tree.text (codes "start"), a) ∷ []))

-- ---- schemas

-- no field of a range struct may be missing
may_be_missing : is_well_formed
    (struct (codes "Range") (only (field (codes "start") 1 ∷ record (field (codes "end") 1) { may_be_missing = true } ∷ [])) ∷ int U8 ∷ []) 0 ≡ false
may_be_missing = refl

none_missing : is_well_formed (struct (codes "Range") (only (field (codes "start") 1 ∷ field (codes "end") 1 ∷ [])) ∷ int U8 ∷ []) 0 ≡ true
none_missing = refl

of_another_name : is_well_formed
    (struct (codes "Rang") (only (field (codes "start") 1 ∷ record (field (codes "end") 1) { may_be_missing = true } ∷ [])) ∷ int U8 ∷ []) 0 ≡ true
of_another_name = refl

-- ---- structs

to_last : reads (with false false false false) ((struct (codes "RangeToInclusive") (only (field (codes "last") 1 ∷ []))) ∷ int U8 ∷ []) 128 (codes "..=5")
    ≡ ok (struct_of (codes "RangeToInclusive") (field_and (codes "last") (int_of U8 (pos 5)) no_fields))
unfolding reading
to_last = refl

from_one : reads (with false false false false) ((struct (codes "RangeFrom") (only (field (codes "start") 1 ∷ []))) ∷ int U8 ∷ []) 128 (codes "1..")
    ≡ ok (struct_of (codes "RangeFrom") (field_and (codes "start") (int_of U8 (pos 1)) no_fields))
unfolding reading
from_one = refl

to_end : reads (with false false false false) ((struct (codes "RangeTo") (only (field (codes "end") 1 ∷ []))) ∷ int U8 ∷ []) 128 (codes "..5")
    ≡ ok (struct_of (codes "RangeTo") (field_and (codes "end") (int_of U8 (pos 5)) no_fields))
unfolding reading
to_end = refl

inclusive : reads (with false false false false)
    ((struct (codes "RangeInclusive") (only (field (codes "start") 1 ∷ field (codes "last") 1 ∷ []))) ∷ int U8 ∷ []) 128 (codes "1..=5")
    ≡ ok (struct_of (codes "RangeInclusive") (field_and (codes "start") (int_of U8 (pos 1)) (field_and (codes "last") (int_of U8 (pos 5)) no_fields)))
unfolding reading
inclusive = refl

-- a range goes by the fields' names, whatever else a text may call them
by_alias : reads (with false false false false)
    (struct (codes "RangeFrom") (only (record (field (codes "from") 1) { aliases = codes "start" ∷ [] } ∷ [])) ∷ int U8 ∷ []) 128 (codes "1..") ≡ err bad
unfolding reading
by_alias = refl

beside_alias : reads (with false false false false) (struct (codes "RangeFrom") (only (record (field (codes "start") 1) { aliases = codes "from" ∷ [] } ∷ []))
    ∷ int U8 ∷ []) 128 (codes "1..") ≡ ok (struct_of (codes "RangeFrom") (field_and (codes "start") (int_of U8 (pos 1)) no_fields))
unfolding reading
beside_alias = refl

full : reads (with false false false false) (unit_struct (codes "RangeFull") ∷ []) 128 (codes "..") ≡ ok (unit_struct_of (codes "RangeFull"))
unfolding reading
full = refl

full_as_value : reads (with false false false false) (any_value ∷ []) 128 (codes "..") ≡ ok (value_of tree.unit)
unfolding reading
full_as_value = refl

gap_before_dots : reads (with false false false false) ((struct (codes "Range") (only (field (codes "start") 1 ∷ field (codes "end") 1 ∷ []))) ∷ int U8 ∷ [])
    128 (codes "1 ..2") ≡ err bad
unfolding reading
gap_before_dots = refl

other_dots : reads (with false false false false) ((struct (codes "Range") (only (field (codes "start") 1 ∷ field (codes "end") 1 ∷ []))) ∷ int U8 ∷ []) 128
    (codes "1..=2") ≡ err bad
unfolding reading
other_dots = refl

too_great : reads (with false false false false) ((struct (codes "Range") (only (field (codes "start") 1 ∷ field (codes "end") 1 ∷ []))) ∷ int U8 ∷ []) 128
    (codes "300..5") ≡ err bad
unfolding reading
too_great = refl

below_zero : reads (with false false false false) ((struct (codes "Range") (only (field (codes "start") 1 ∷ field (codes "end") 1 ∷ []))) ∷ int U8 ∷ []) 128
    (codes "-1..5") ≡ err bad
unfolding reading
below_zero = refl

in_struct_form : reads (with false false false false) ((struct (codes "Range") (only (field (codes "start") 1 ∷ field (codes "end") 1 ∷ []))) ∷ int U8 ∷ []) 128
    (codes "Range(start:1,end:5)")
    ≡ ok (struct_of (codes "Range") (field_and (codes "start") (int_of U8 (pos 1)) (field_and (codes "end") (int_of U8 (pos 5)) no_fields)))
unfolding reading
in_struct_form = refl

last_of_open_range : reads (with false false false false)
    ((struct (codes "Range") (only (field (codes "start") 1 ∷ field (codes "last") 1 ∷ []))) ∷ int U8 ∷ []) 128 (codes "1..5") ≡ err bad
unfolding reading
last_of_open_range = refl

end_of_open_range : reads (with false false false false) ((struct (codes "RangeTo") (only (field (codes "last") 1 ∷ []))) ∷ int U8 ∷ []) 128 (codes "..5")
    ≡ err bad
unfolding reading
end_of_open_range = refl

inclusive_end : reads (with false false false false) ((struct (codes "RangeToInclusive") (only (field (codes "end") 1 ∷ []))) ∷ int U8 ∷ []) 128 (codes "..=5")
    ≡ ok (struct_of (codes "RangeToInclusive") (field_and (codes "end") (int_of U8 (pos 5)) no_fields))
unfolding reading
inclusive_end = refl

number_alone : reads (with false false false false) ((struct (codes "Range") (only (field (codes "start") 1 ∷ field (codes "end") 1 ∷ []))) ∷ int U8 ∷ []) 128
    (codes "1") ≡ err bad
unfolding reading
number_alone = refl

-- ---- values

in_list : reads (with false false false false) (any_value ∷ []) 128 (codes "[1..,2]")
    ≡ ok (value_of (tree.sequence (items_from ((of_start (tree.number U8 (pos 1))) ∷ (tree.number U8 (pos 2)) ∷ []))))
unfolding reading
in_list = refl

to_minus : reads (with false false false false) (any_value ∷ []) 128 (codes "..-15") ≡ ok (value_of (of_end (tree.number I8 (negsuc 14))))
unfolding reading
to_minus = refl

-- ---- bare

bare : reads (with false false true false)
    ((enum (codes "E") (holding (codes "V") 1 ∷ [])) ∷ (struct (codes "Range") (only (field (codes "start") 2 ∷ field (codes "end") 2 ∷ []))) ∷ int U32 ∷ [])
    128 (codes "V(1..5)") ≡ ok (newtype_variant_of (codes "E") (codes "V")
    (struct_of (codes "Range") (field_and (codes "start") (int_of U32 (pos 1)) (field_and (codes "end") (int_of U32 (pos 5)) no_fields))))
unfolding reading
bare = refl

bare_with_comma : reads (with false false true false)
    ((enum (codes "E") (holding (codes "V") 1 ∷ [])) ∷ (struct (codes "Range") (only (field (codes "start") 2 ∷ field (codes "end") 2 ∷ []))) ∷ int U32 ∷ [])
    128 (codes "V( 1..5 , )") ≡ ok (newtype_variant_of (codes "E") (codes "V")
    (struct_of (codes "Range") (field_and (codes "start") (int_of U32 (pos 1)) (field_and (codes "end") (int_of U32 (pos 5)) no_fields))))
unfolding reading
bare_with_comma = refl

bare_fields : reads (with false false true false)
    ((enum (codes "E") (holding (codes "V") 1 ∷ [])) ∷ (struct (codes "Range") (only (field (codes "start") 2 ∷ field (codes "end") 2 ∷ []))) ∷ int U32 ∷ [])
    128 (codes "V(start: 1, end: 5)") ≡ ok (newtype_variant_of (codes "E") (codes "V")
    (struct_of (codes "Range") (field_and (codes "start") (int_of U32 (pos 1)) (field_and (codes "end") (int_of U32 (pos 5)) no_fields))))
unfolding reading
bare_fields = refl

not_bare : reads (with false false false false)
    ((enum (codes "E") (holding (codes "V") 1 ∷ [])) ∷ (struct (codes "Range") (only (field (codes "start") 2 ∷ field (codes "end") 2 ∷ []))) ∷ int U32 ∷ [])
    128 (codes "V(1..5)") ≡ ok (newtype_variant_of (codes "E") (codes "V")
    (struct_of (codes "Range") (field_and (codes "start") (int_of U32 (pos 1)) (field_and (codes "end") (int_of U32 (pos 5)) no_fields))))
unfolding reading
not_bare = refl

bare_full : reads (with false false true false) ((enum (codes "E") (holding (codes "V") 1 ∷ [])) ∷ unit_struct (codes "RangeFull") ∷ []) 128 (codes "V(..)")
    ≡ ok (newtype_variant_of (codes "E") (codes "V") (unit_struct_of (codes "RangeFull")))
unfolding reading
bare_full = refl

bare_full_empty : reads (with false false true false) ((enum (codes "E") (holding (codes "V") 1 ∷ [])) ∷ unit_struct (codes "RangeFull") ∷ []) 128 (codes "V()")
    ≡ ok (newtype_variant_of (codes "E") (codes "V") (unit_struct_of (codes "RangeFull")))
unfolding reading
bare_full_empty = refl

bare_full_comma : reads (with false false true false) ((enum (codes "E") (holding (codes "V") 1 ∷ [])) ∷ unit_struct (codes "RangeFull") ∷ []) 128
    (codes "V(..,)") ≡ ok (newtype_variant_of (codes "E") (codes "V") (unit_struct_of (codes "RangeFull")))
unfolding reading
bare_full_comma = refl

-- ---- fields

options_in_struct_form : reads (with false false false false) ((struct (codes "Range") (only (field (codes "start") 1 ∷ field (codes "end") 1 ∷ [])))
    ∷ optional 2 ∷ int U8 ∷ []) 128 (codes "(start: Some(1), end: Some(5))")
    ≡ ok (struct_of (codes "Range") (field_and (codes "start") (some_of (int_of U8 (pos 1))) (field_and (codes "end") (some_of (int_of U8 (pos 5))) no_fields)))
unfolding reading
options_in_struct_form = refl

options_as_range : reads (with false false false false)
    ((struct (codes "Range") (only (field (codes "start") 1 ∷ field (codes "end") 1 ∷ []))) ∷ optional 2 ∷ int U8 ∷ []) 128 (codes "1..5") ≡ err bad
unfolding reading
options_as_range = refl

options_as_range_implicit : reads (with false true false false)
    ((struct (codes "Range") (only (field (codes "start") 1 ∷ field (codes "end") 1 ∷ []))) ∷ optional 2 ∷ int U8 ∷ []) 128 (codes "1..5") ≡ err bad
unfolding reading
options_as_range_implicit = refl

no_level : reads (with false false false false) ((struct (codes "Range") (only (field (codes "start") 1 ∷ field (codes "end") 1 ∷ []))) ∷ int U32 ∷ []) 0
    (codes "1..5") ≡ ok (struct_of (codes "Range") (field_and (codes "start") (int_of U32 (pos 1)) (field_and (codes "end") (int_of U32 (pos 5)) no_fields)))
unfolding reading
no_level = refl

level_in_struct_form : reads (with false false false false)
    ((struct (codes "Range") (only (field (codes "start") 1 ∷ field (codes "end") 1 ∷ []))) ∷ int U32 ∷ []) 1 (codes "(start:1,end:5)") ≡ err deep
unfolding reading
level_in_struct_form = refl

other_suffix : reads (with false false false false) ((struct (codes "Range") (only (field (codes "start") 1 ∷ field (codes "end") 1 ∷ []))) ∷ int U32 ∷ []) 128
    (codes "5u8..9") ≡ ok (struct_of (codes "Range") (field_and (codes "start") (int_of U32 (pos 5)) (field_and (codes "end") (int_of U32 (pos 9)) no_fields)))
unfolding reading
other_suffix = refl

outside_of_suffix : reads (with false false false false) ((struct (codes "Range") (only (field (codes "start") 1 ∷ field (codes "end") 1 ∷ []))) ∷ int U32 ∷ [])
    128 (codes "300u8..400") ≡ err bad
unfolding reading
outside_of_suffix = refl

minus_zero : reads (with false false false false) ((struct (codes "Range") (only (field (codes "start") 1 ∷ field (codes "end") 1 ∷ []))) ∷ int U8 ∷ []) 128
    (codes "-0..1") ≡ ok (struct_of (codes "Range") (field_and (codes "start") (int_of U8 (pos 0)) (field_and (codes "end") (int_of U8 (pos 1)) no_fields)))
unfolding reading
minus_zero = refl

value_fields : reads (with false false false false) ((struct (codes "Range") (only (field (codes "start") 1 ∷ field (codes "end") 1 ∷ []))) ∷ any_value ∷ [])
    128 (codes "1i16..2") ≡ ok (struct_of (codes "Range")
    (field_and (codes "start") (value_of (tree.number I16 (pos 1))) (field_and (codes "end") (value_of (tree.number U8 (pos 2))) no_fields)))
unfolding reading
value_fields = refl

other_order : reads (with false false false false) ((struct (codes "Range") (only (field (codes "end") 1 ∷ field (codes "start") 1 ∷ []))) ∷ int U8 ∷ []) 128
    (codes "1..2") ≡ err bad
unfolding reading
other_order = refl

explicit_names : reads (with false false false true) ((struct (codes "Range") (only (field (codes "start") 1 ∷ field (codes "end") 1 ∷ []))) ∷ int U8 ∷ []) 128
    (codes "1..2") ≡ ok (struct_of (codes "Range") (field_and (codes "start") (int_of U8 (pos 1)) (field_and (codes "end") (int_of U8 (pos 2)) no_fields)))
unfolding reading
explicit_names = refl

name_before : reads (with false false false false) ((struct (codes "Range") (only (field (codes "start") 1 ∷ field (codes "end") 1 ∷ []))) ∷ int U8 ∷ []) 128
    (codes "Range 1..2") ≡ err bad
unfolding reading
name_before = refl

in_parentheses : reads (with false false false false) ((struct (codes "Range") (only (field (codes "start") 1 ∷ field (codes "end") 1 ∷ []))) ∷ int U8 ∷ []) 128
    (codes "(1..2)") ≡ err bad
unfolding reading
in_parentheses = refl

implied_some : reads (with false true false false)
    (optional 1 ∷ (struct (codes "Range") (only (field (codes "start") 2 ∷ field (codes "end") 2 ∷ []))) ∷ int U8 ∷ []) 128 (codes "1..2")
    ≡ ok (some_of (struct_of (codes "Range") (field_and (codes "start") (int_of U8 (pos 1)) (field_and (codes "end") (int_of U8 (pos 2)) no_fields))))
unfolding reading
implied_some = refl

-- ---- numbers

bases : reads (with false false false false) (any_value ∷ []) 128 (codes "0x10..0b11")
    ≡ ok (value_of (of_both (tree.number U8 (pos 16)) (tree.number U8 (pos 3))))
unfolding reading
bases = refl

signs : reads (with false false false false) (any_value ∷ []) 128 (codes "-5..5") ≡ ok (value_of (of_both (tree.number I8 (negsuc 4)) (tree.number U8 (pos 5))))
unfolding reading
signs = refl

suffix_and_width : reads (with false false false false) (any_value ∷ []) 128 (codes "1u8..300")
    ≡ ok (value_of (of_both (tree.number U8 (pos 1)) (tree.number U16 (pos 300))))
unfolding reading
suffix_and_width = refl

suffix_at_end : reads (with false false false false) (any_value ∷ []) 128 (codes "..=255u8") ≡ ok (value_of (of_end (tree.number U8 (pos 255))))
unfolding reading
suffix_at_end = refl

byte_literals : reads (with false false false false) (any_value ∷ []) 128 (codes "b'a'..=b'z'")
    ≡ ok (value_of (of_both (tree.number U8 (pos 97)) (tree.number U8 (pos 122))))
unfolding reading
byte_literals = refl

in_tuple : reads (with false false false false) (any_value ∷ []) 128 (codes "(1..2,)")
    ≡ ok (value_of (tree.sequence (items_from ((of_both (tree.number U8 (pos 1)) (tree.number U8 (pos 2))) ∷ []))))
unfolding reading
in_tuple = refl

in_typed_tuple : reads (with false false false false)
    ((tuple (1 ∷ 2 ∷ [])) ∷ (struct (codes "Range") (only (field (codes "start") 2 ∷ field (codes "end") 2 ∷ []))) ∷ int U8 ∷ []) 128 (codes "(1..2, 3)")
    ≡ ok (tuple_of (data_and (struct_of (codes "Range") (field_and (codes "start") (int_of U8 (pos 1)) (field_and (codes "end") (int_of U8 (pos 2)) no_fields)))
    (data_and (int_of U8 (pos 3)) no_datas)))
unfolding reading
in_typed_tuple = refl

map_key : reads (with false false false false) (any_value ∷ []) 128 (codes "{1..2:3}")
    ≡ ok (value_of (tree.mapping (pairs_from (((of_both (tree.number U8 (pos 1)) (tree.number U8 (pos 2))), (tree.number U8 (pos 3))) ∷ []))))
unfolding reading
map_key = refl

bare_value : reads (with false false true false) (any_value ∷ []) 128 (codes "Some(1..2)")
    ≡ ok (value_of (tree.some (of_both (tree.number U8 (pos 1)) (tree.number U8 (pos 2)))))
unfolding reading
bare_value = refl

bare_values : reads (with false false true false) (any_value ∷ []) 128 (codes "Some(1..2,..)")
    ≡ ok (value_of (tree.some (tree.sequence (items_from ((of_both (tree.number U8 (pos 1)) (tree.number U8 (pos 2))) ∷ tree.unit ∷ [])))))
unfolding reading
bare_values = refl

value_no_level : reads (with false false false false) (any_value ∷ []) 0 (codes "1..2")
    ≡ ok (value_of (of_both (tree.number U8 (pos 1)) (tree.number U8 (pos 2))))
unfolding reading
value_no_level = refl

gap : reads (with false false false false) (any_value ∷ []) 128 (codes "1 ..2") ≡ err bad
unfolding reading
gap = refl

gap_behind : reads (with false false false false) (any_value ∷ []) 128 (codes "1.. 2") ≡ err bad
unfolding reading
gap_behind = refl

three_dots : reads (with false false false false) (any_value ∷ []) 128 (codes "1...2") ≡ err bad
unfolding reading
three_dots = refl

no_end : reads (with false false false false) (any_value ∷ []) 128 (codes "1..=") ≡ err bad
unfolding reading
no_end = refl

no_numbers : reads (with false false false false) (any_value ∷ []) 128 (codes "..=") ≡ err bad
unfolding reading
no_numbers = refl

characters : reads (with false false false false) (any_value ∷ []) 128 (codes "'a'..'b'") ≡ err bad
unfolding reading
characters = refl

float : reads (with false false false false) (any_value ∷ []) 128 (codes "1.5..2") ≡ err bad
unfolding reading
float = refl

float_end : reads (with false false false false) (any_value ∷ []) 128 (codes "1..2.5") ≡ err bad
unfolding reading
float_end = refl

twice : reads (with false false false false) (any_value ∷ []) 128 (codes "1..2..3") ≡ err bad
unfolding reading
twice = refl

raw_ranges : reads (with false false false false) ((seq 1) ∷ any_raw ∷ []) 128 (codes "[ 1..2 , .. ]")
    ≡ ok (list_of (data_and (raw_of (codes "1..2")) (data_and (raw_of (codes "..")) no_datas)))
unfolding reading
raw_ranges = refl

infinite : reads (with false false false false) (any_value ∷ []) 128 (codes "1..inf") ≡ err bad
unfolding reading
infinite = refl

integer_before_dots : reads (with false false false false) (int U8 ∷ []) 128 (codes "1..2") ≡ err bad
unfolding reading
integer_before_dots = refl
