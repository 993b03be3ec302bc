-- Worked layouts of enums, each computed; and that some are read back, by the law.
use Rattle.std.proofs.Common.{◌≡◌, ℕ, Bool, true, false, List, [], ◌∷◌, codes, Some, pos, refl}
use Rattle.unicode_ident.proofs.Computing.{unicode_ident}
use Rattle.ron_value_number.specs.declared.width.Width.TheVariants.{U8}
use Rattle.ron_spec_grammar.specs.Data.{Data, bool_of, int_of, the_none, some_of, tuple_of, newtype_of, struct_of, unit_variant_of, newtype_variant_of}
use Rattle.ron_spec_grammar.specs.Data.{tuple_variant_of, struct_variant_of, no_datas, data_and, no_fields, field_and}
use Rattle.ron_spec_grammar.specs.Schema.{Shape, newtype_variant, unit_variant, int, optional, tuple, enum}
use Rattle.ron_spec_grammar.specs.Rule.{Extensions}
use Rattle.ron_spec_grammar.specs.Document.{Document}
use Rattle.ron_spec_layout.specs.Name.{first_refused}
use Rattle.ron_spec_layout.proofs.Computing.{laying, plain}
use Rattle.ron_spec_layout.proofs.Readable.{read_back}

-- these extensions: unwrap_newtypes, implicit_some, unwrap_variant_newtypes, explicit_struct_names
abbrev with : Bool → Bool → Bool → Bool → Extensions
with a b c d = record { unwrap_newtypes = a; implicit_some = b; unwrap_variant_newtypes = c; explicit_struct_names = d }

abbrev none : Extensions
none = with false false false false

abbrev small : ℕ → Data
small n = int_of U8 (pos n)

abbrev pair : Data → Data → Data
pair d e = tuple_of (data_and d (data_and e no_datas))

abbrev v_of : Data → Data
v_of d = newtype_variant_of (codes "E") (codes "V") d

-- ---- the four kinds

unit_kind : plain none false (unit_variant_of (codes "E") (codes "A")) ≡ codes "A"
unfolding laying
unit_kind = refl

newtype_kind : plain none false (v_of (pair (small 1) (small 2))) ≡ codes "V((1,2))"
unfolding laying
newtype_kind = refl

tuple_kind : plain none false (tuple_variant_of (codes "E") (codes "T") (data_and (small 1) (data_and (bool_of true) no_datas))) ≡ codes "T(1,true)"
unfolding laying
tuple_kind = refl

struct_kind : plain none false (struct_variant_of (codes "E") (codes "S") (field_and (codes "x") (small 1) no_fields)) ≡ codes "S(x:1)"
unfolding laying
struct_kind = refl

variant_none : plain none false (unit_variant_of (codes "F") (codes "None")) ≡ codes "r#None"
unfolding laying
variant_none = refl

-- an enum's own name is checked and not written
enum_name_refused : first_refused (unit_variant_of [] (codes "A")) ≡ Some []
unfolding unicode_ident
enum_name_refused = refl

-- ---- bare content

bare_struct : plain (with false false true true) false
    (v_of (struct_of (codes "Point") (field_and (codes "x") (small 1) (field_and (codes "y") (small 2) no_fields)))) ≡ codes "V(x:1,y:2)"
unfolding laying
bare_struct = refl

bare_newtype : plain (with false false true false) false (v_of (newtype_of (codes "N") (pair (small 1) (small 2)))) ≡ codes "V((1,2))"
unfolding laying
bare_newtype = refl

option_of_a_pair : plain (with false true true false) false (v_of (some_of (pair the_none (small 2)))) ≡ codes "V(Some(None,2))"
unfolding laying
option_of_a_pair = refl

option_of_one_option : plain (with false true true false) false (v_of (some_of (tuple_of (data_and the_none no_datas)))) ≡ codes "V(Some(None))"
unfolding laying
option_of_one_option = refl

-- ---- reading back

-- V of an option of a pair of an option and a number
abbrev options : List Shape
options = enum (codes "E") (record { name = codes "V"; content = newtype_variant 1 } ∷ []) ∷ optional 2 ∷ tuple (3 ∷ 4 ∷ []) ∷ optional 4 ∷ int U8 ∷ []

pair_is_read_back : (room : ℕ) × Document (with false true true false) options 0 room (codes "V(Some(None,2))") (v_of (some_of (pair the_none (small 2))))
unfolding laying
pair_is_read_back = read_back (with false true true false) options 0 (v_of (some_of (pair the_none (small 2)))) refl
    (1, (_, refl, refl), (2, refl, (3 ∷ 4 ∷ [], refl, ((4, refl), ((refl, refl), tt))))) refl refl refl

-- an enum with a variant whose name is that of the absent value
abbrev absent : List Shape
absent = optional 1 ∷ enum (codes "F") (record { name = codes "None"; content = unit_variant } ∷ []) ∷ []

name_is_read_back : (room : ℕ) × Document (with false true false false) absent 0 room (codes "r#None") (some_of (unit_variant_of (codes "F") (codes "None")))
unfolding laying
name_is_read_back =
    read_back (with false true false false) absent 0 (some_of (unit_variant_of (codes "F") (codes "None"))) refl (1, refl, (_, refl, refl)) refl refl refl
