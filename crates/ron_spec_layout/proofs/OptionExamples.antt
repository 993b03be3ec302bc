-- Worked layouts of options and newtypes, each computed; and that some are read back, by the law.
use Rattle.std.proofs.Common.{◌≡◌, ℕ, Bool, true, false, [], ◌∷◌, codes, pos, refl}
use Rattle.ron_value_number.specs.declared.width.Width.TheVariants.{U8}
use Rattle.ron_spec_grammar.specs.Data.{Data, int_of, the_unit, the_none, some_of, tuple_of, newtype_of, no_datas, data_and}
use Rattle.ron_spec_grammar.specs.Schema.{int, unit, optional, newtype}
use Rattle.ron_spec_grammar.specs.Rule.{Extensions}
use Rattle.ron_spec_grammar.specs.Document.{Document}
use Rattle.ron_spec_layout.proofs.Computing.{laying, plain}
use Rattle.ron_spec_layout.proofs.Readable.{read_back}

-- these extensions: unwrap_newtypes, implicit_some, unwrap_variant_newtypes, explicit_struct_names
abbrev with : Bool → Bool → Bool → Bool → Extensions
with a b c d = record { unwrap_newtypes = a; implicit_some = b; unwrap_variant_newtypes = c; explicit_struct_names = d }

abbrev none : Extensions
none = with false false false false

abbrev implicit : Extensions
implicit = with false true false false

abbrev five : Data
five = int_of U8 (pos 5)

-- ---- options

a_value : plain none false (some_of five) ≡ codes "Some(5)"
unfolding laying
a_value = refl

value_not_written : plain implicit false (some_of (some_of five)) ≡ codes "5"
unfolding laying
value_not_written = refl

-- around `None` the pending Somes are written out
none_in_somes : plain implicit false (some_of (some_of the_none)) ≡ codes "Some(Some(None))"
unfolding laying
none_in_somes = refl

unit_in_somes : plain implicit false (some_of (some_of the_unit)) ≡ codes "()"
unfolding laying
unit_in_somes = refl

-- ---- bare content

abbrev both : Extensions
both = with false true true false

-- a pair of an option and a number
abbrev pair_with : Data → Data
pair_with d = tuple_of (data_and d (data_and five no_datas))

bare_pair : plain (with false false true false) false (some_of (pair_with (some_of five))) ≡ codes "Some(Some(5),5)"
unfolding laying
bare_pair = refl

-- a bare tuple that would be taken for an option has them written out too
bare_pair_like_an_option : plain both true (some_of (pair_with the_none)) ≡ codes "Some(None,5)"
unfolding laying
bare_pair_like_an_option = refl

bare_pair_unlike_one : plain both true (some_of (pair_with (some_of five))) ≡ codes "5,5"
unfolding laying
bare_pair_unlike_one = refl

pair_in_brackets : plain both false (some_of (pair_with the_none)) ≡ codes "(None,5)"
unfolding laying
pair_in_brackets = refl

-- ---- newtypes

abbrev wrapped : Data
wrapped = newtype_of (codes "N") five

in_brackets : plain none false wrapped ≡ codes "(5)"
unfolding laying
in_brackets = refl

behind_its_name : plain (with false false false true) false wrapped ≡ codes "N(5)"
unfolding laying
behind_its_name = refl

unwrapped : plain (with true false false true) false wrapped ≡ codes "5"
unfolding laying
unwrapped = refl

bare_newtype : plain (with false false true false) false (some_of (newtype_of (codes "N") (pair_with the_none))) ≡ codes "Some((None,5))"
unfolding laying
bare_newtype = refl

-- Somes stay pending through an unwrapped newtype
through_a_newtype : plain (with true true false false) false (some_of (newtype_of (codes "N") the_none)) ≡ codes "Some(None)"
unfolding laying
through_a_newtype = refl

-- ---- reading back

nones_are_read_back : (room : ℕ) × Document implicit (optional 1 ∷ optional 2 ∷ unit ∷ []) 0 room (codes "Some(None)") (some_of the_none)
unfolding laying
nones_are_read_back = read_back implicit (optional 1 ∷ optional 2 ∷ unit ∷ []) 0 (some_of the_none) refl (1, refl, (2, refl)) refl refl refl

newtype_is_read_back : (room : ℕ) × Document (with true true true true) (optional 1 ∷ newtype (codes "N") 2 ∷ int U8 ∷ []) 0 room (codes "5") (some_of wrapped)
unfolding laying
newtype_is_read_back = read_back (with true true true true) (optional 1 ∷ newtype (codes "N") 2 ∷ int U8 ∷ []) 0 (some_of wrapped) refl
    (1, refl, (2, refl, (refl, refl))) refl refl refl
