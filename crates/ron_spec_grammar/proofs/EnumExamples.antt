-- Worked texts of enums, each answered by computing the reader function.
use Rattle.std.proofs.Common.{◌≡◌, ℕ, true, false, List, [], ◌∷◌, codes, pos, refl}
use Rattle.ron_spec_words.specs.Characters.{Text}
use Rattle.ron_spec_words.specs.Reader.{deep, bad}
use Rattle.ron_value_number.specs.declared.width.Width.TheVariants.{U8}
use Rattle.ron_spec_grammar.specs.Data.{Data, bool_of, int_of, the_unit, the_none, some_of, newtype_of, tuple_of, struct_of, unit_variant_of}
use Rattle.ron_spec_grammar.specs.Data.{newtype_variant_of, tuple_variant_of, struct_variant_of, no_datas, data_and, no_fields, field_and}
use Rattle.ron_spec_grammar.specs.Schema.{Shape, Variant, VariantShape, unit_variant, newtype_variant, tuple_variant, struct_variant, bool, int, unit, optional}
use Rattle.ron_spec_grammar.specs.Schema.{newtype, tuple, struct, enum, is_well_formed, only, field}
use Rattle.ron_spec_grammar.specs.Rule.{Extensions}
use Rattle.ron_spec_grammar.specs.Document.{Answer, ok, err, answer}
use Rattle.ron_spec_grammar.proofs.Computing.{reading}

abbrev none : Extensions
none = record { unwrap_newtypes = false; implicit_some = false; unwrap_variant_newtypes = false; explicit_struct_names = false }

-- a newtype variant's content is bare
abbrev bare : Extensions
bare = record { unwrap_newtypes = false; implicit_some = false; unwrap_variant_newtypes = true; explicit_struct_names = false }

abbrev variant : Text → VariantShape → Variant
variant n c = record { name = n; content = c }

abbrev small : ℕ → Data
small n = int_of U8 (pos n)

-- one variant of each kind
abbrev kinds : List Shape
kinds = enum (codes "E") (variant (codes "A") unit_variant ∷ variant (codes "V") (newtype_variant 1) ∷ variant (codes "T") (tuple_variant (1 ∷ 2 ∷ []))
    ∷ variant (codes "S") (struct_variant (only (field (codes "x") 1 ∷ []))) ∷ []) ∷ int U8 ∷ bool ∷ []

abbrev reads : Text → Answer
reads text = answer none kinds 0 3 text

unit_kind : reads (codes " A ") ≡ ok (unit_variant_of (codes "E") (codes "A"))
unfolding reading
unit_kind = refl

newtype_kind : reads (codes "V ( 5 , )") ≡ ok (newtype_variant_of (codes "E") (codes "V") (small 5))
unfolding reading
newtype_kind = refl

tuple_kind : reads (codes "T (5,true,)") ≡ ok (tuple_variant_of (codes "E") (codes "T") (data_and (small 5) (data_and (bool_of true) no_datas)))
unfolding reading
tuple_kind = refl

struct_kind : reads (codes "S(x:5)") ≡ ok (struct_variant_of (codes "E") (codes "S") (field_and (codes "x") (small 5) no_fields))
unfolding reading
struct_kind = refl

raw_name : reads (codes "r#A") ≡ ok (unit_variant_of (codes "E") (codes "A"))
unfolding reading
raw_name = refl

no_such_variant : reads (codes "C") ≡ err bad
unfolding reading
no_such_variant = refl

unit_kind_with_brackets : reads (codes "A()") ≡ err bad
unfolding reading
unit_kind_with_brackets = refl

newtype_kind_without_brackets : reads (codes "V") ≡ err bad
unfolding reading
newtype_kind_without_brackets = refl

-- an enum takes a level, and its variant's name another
unit_kind_at_limit_2 : answer none kinds 0 2 (codes "A") ≡ ok (unit_variant_of (codes "E") (codes "A"))
unfolding reading
unit_kind_at_limit_2 = refl

unit_kind_at_limit_1 : answer none kinds 0 1 (codes "A") ≡ err deep
unfolding reading
unit_kind_at_limit_1 = refl

newtype_kind_at_limit_2 : answer none kinds 0 2 (codes "V(5)") ≡ ok (newtype_variant_of (codes "E") (codes "V") (small 5))
unfolding reading
newtype_kind_at_limit_2 = refl

tuple_kind_at_limit_2 : answer none kinds 0 2 (codes "T(5,true)") ≡ err deep
unfolding reading
tuple_kind_at_limit_2 = refl

-- ---- bare content

-- V of the shape at index 1
abbrev holding : List Shape → List Shape
holding shapes = enum (codes "E") (variant (codes "V") (newtype_variant 1) ∷ []) ∷ shapes

abbrev holds : List Shape → Text → Answer
holds shapes text = answer bare (holding shapes) 0 128 text

abbrev v_of : Data → Data
v_of d = newtype_variant_of (codes "E") (codes "V") d

bare_tuple : holds (tuple (2 ∷ []) ∷ int U8 ∷ []) (codes "V(1,)") ≡ ok (v_of (tuple_of (data_and (small 1) no_datas)))
unfolding reading
bare_tuple = refl

bare_tuple_two_commas : holds (tuple (2 ∷ []) ∷ int U8 ∷ []) (codes "V(1,,)") ≡ err bad
unfolding reading
bare_tuple_two_commas = refl

bare_unit_and_comma : holds (unit ∷ []) (codes "V(,)") ≡ ok (v_of the_unit)
unfolding reading
bare_unit_and_comma = refl

bare_empty_struct : holds (struct (codes "S") (only []) ∷ []) (codes "V()") ≡ ok (v_of (struct_of (codes "S") no_fields))
unfolding reading
bare_empty_struct = refl

bare_empty_struct_and_comma : holds (struct (codes "S") (only []) ∷ []) (codes "V(,)") ≡ err bad
unfolding reading
bare_empty_struct_and_comma = refl

-- ---- well-formed enums

name_twice : is_well_formed (enum (codes "E") (variant (codes "A") unit_variant ∷ variant (codes "A") (newtype_variant 0) ∷ []) ∷ []) 0 ≡ false
name_twice = refl

-- an enum may hold itself
holding_itself : is_well_formed (enum (codes "E") (variant (codes "A") unit_variant ∷ variant (codes "B") (newtype_variant 0) ∷ []) ∷ []) 0 ≡ true
holding_itself = refl

-- ---- variants under several extensions

-- an enum's newtype variant V of the shape behind it, by implicit Somes, bare content and names as they are asked for
abbrev holds_under : Extensions → List Shape → Text → Answer
holds_under x shapes text = answer x (enum (codes "E") (variant (codes "V") (newtype_variant 1) ∷ []) ∷ shapes) 0 8 text

-- implicit_some and unwrap_variant_newtypes
abbrev implicit_and_bare : Extensions
implicit_and_bare = record { unwrap_newtypes = false; implicit_some = true; unwrap_variant_newtypes = true; explicit_struct_names = false }

-- unwrap_variant_newtypes and explicit_struct_names
abbrev bare_and_named : Extensions
bare_and_named = record { unwrap_newtypes = false; implicit_some = false; unwrap_variant_newtypes = true; explicit_struct_names = true }

option_of_a_pair : holds_under implicit_and_bare (optional 2 ∷ tuple (3 ∷ 4 ∷ []) ∷ optional 4 ∷ int U8 ∷ []) (codes "V(Some(None,2))")
    ≡ ok (v_of (some_of (tuple_of (data_and the_none (data_and (small 2) no_datas)))))
unfolding reading
option_of_a_pair = refl

option_of_one_option : holds_under implicit_and_bare (optional 2 ∷ tuple (3 ∷ []) ∷ optional 4 ∷ int U8 ∷ []) (codes "V(Some(None))")
    ≡ ok (v_of (some_of (tuple_of (data_and the_none no_datas))))
unfolding reading
option_of_one_option = refl

bare_point : holds_under bare_and_named (struct (codes "Point") (only (field (codes "x") 2 ∷ field (codes "y") 2 ∷ [])) ∷ int U8 ∷ []) (codes "V(x:1,y:2)")
    ≡ ok (v_of (struct_of (codes "Point") (field_and (codes "x") (small 1) (field_and (codes "y") (small 2) no_fields))))
unfolding reading
bare_point = refl

newtype_of_a_pair : holds_under bare (newtype (codes "N") 2 ∷ tuple (3 ∷ 3 ∷ []) ∷ int U8 ∷ []) (codes "V((1,2))")
    ≡ ok (v_of (newtype_of (codes "N") (tuple_of (data_and (small 1) (data_and (small 2) no_datas)))))
unfolding reading
newtype_of_a_pair = refl
