-- Worked texts of data as ranges, by computing.
use Rattle.std.proofs.Common.{◌≡◌, false, true, codes, pos, negsuc, Some, None, refl}
use Rattle.std.specs.Fmt.{digits}
use Rattle.ron_spec_words.specs.Characters.{Text}
use Rattle.ron_value_number.specs.declared.width.Width.TheVariants.{I8, U8, U32}
use Rattle.ron_value.specs.Tree as tree
use Rattle.ron_spec_grammar.specs.Data.{Data, int_of, value_of, some_of, unit_struct_of, struct_of, no_fields, field_and}
use Rattle.ron_spec_layout.specs.Ranges.{range_text}

abbrev two : Text → Text → Text → Data → Data → Data
two name a b d e = struct_of name (field_and a d (field_and b e no_fields))

abbrev one : Text → Text → Data → Data
one name a d = struct_of name (field_and a d no_fields)

abbrev range : Data
range = two (codes "Range") (codes "start") (codes "end") (int_of U32 (pos 1)) (int_of U32 (pos 5))

both : range_text false range ≡ Some (codes "1..5")
unfolding digits
both = refl

with_suffixes : range_text true range ≡ Some (codes "1u32..5u32")
unfolding digits
with_suffixes = refl

options : range_text false (two (codes "Range") (codes "start") (codes "end") (some_of (int_of U8 (pos 1))) (some_of (int_of U8 (pos 5)))) ≡ None
unfolding digits
options = refl

inclusive : range_text false (two (codes "RangeInclusive") (codes "start") (codes "end") (value_of (tree.number I8 (negsuc 0))) (int_of U8 (pos 5)))
    ≡ Some (codes "-1..=5")
unfolding digits
inclusive = refl

last : range_text false (two (codes "RangeInclusive") (codes "start") (codes "last") (int_of U8 (pos 1)) (int_of U8 (pos 5))) ≡ None
unfolding digits
last = refl

other_order : range_text false (two (codes "Range") (codes "end") (codes "start") (int_of U8 (pos 1)) (int_of U8 (pos 5))) ≡ None
unfolding digits
other_order = refl

from : range_text false (one (codes "RangeFrom") (codes "start") (int_of U8 (pos 1))) ≡ Some (codes "1..")
unfolding digits
from = refl

to : range_text false (one (codes "RangeTo") (codes "end") (int_of U8 (pos 1))) ≡ Some (codes "..1")
unfolding digits
to = refl

up_to : range_text false (one (codes "RangeToInclusive") (codes "end") (int_of U8 (pos 1))) ≡ Some (codes "..=1")
unfolding digits
up_to = refl

up_to_last : range_text false (one (codes "RangeToInclusive") (codes "last") (int_of U8 (pos 1))) ≡ None
unfolding digits
up_to_last = refl

full : range_text false (unit_struct_of (codes "RangeFull")) ≡ Some (codes "..")
full = refl

other_unit : range_text false (unit_struct_of (codes "Range")) ≡ None
other_unit = refl

no_value : range_text false (one (codes "RangeFrom") (codes "start") (value_of tree.unit)) ≡ None
unfolding digits
no_value = refl

other_name : range_text false (two (codes "Pair") (codes "start") (codes "end") (int_of U8 (pos 1)) (int_of U8 (pos 5))) ≡ None
unfolding digits
other_name = refl
