-- Worked layouts of values that stand in data, each computed; and that some are read back, by the law.
use Rattle.std.proofs.Common.{◌≡◌, ℕ, Bool, true, false, List, [], ◌∷◌, codes, pos, refl}
use Rattle.std.specs.Str.{chars, is_utf8}
use lib.Utf8.{encode}
use Rattle.ron_value_number.specs.declared.width.Width.TheVariants.{U8, U16}
use Rattle.ron_value_number.specs.Smallest.{smallest_width}
use Rattle.ron_value.specs.Tree.{Tree, items_from, pairs_from}
use Rattle.ron_value.specs.Tree as tree
use Rattle.ron_spec_grammar.specs.Data.{Data, some_of, value_of, struct_of, no_fields, field_and}
use Rattle.ron_spec_grammar.specs.Schema.{Shape, optional, struct, any_value, field}
use Rattle.ron_spec_grammar.specs.Rule.{Extensions}
use Rattle.ron_spec_grammar.specs.Document.{Document}
use Rattle.ron_spec_layout.specs.Encodable.{is_encodable}
use Rattle.ron_spec_layout.specs.Config.{no_config}
use Rattle.ron_spec_layout.specs.Depth.{writer_depth}
use Rattle.ron_spec_layout.specs.Normal.{norm_with}
use Rattle.ron_spec_layout.proofs.Computing.{laying, plain}
use Rattle.ron_spec_layout.proofs.Readable.{read_back}

-- with implicit_some or not
abbrev with : Bool → Extensions
with implicit = record { unwrap_newtypes = false; implicit_some = implicit; unwrap_variant_newtypes = false; explicit_struct_names = false }

abbrev number : ℕ → Tree
number n = tree.number U8 (pos n)

abbrev five : Tree
five = tree.number U16 (pos 5)

-- ---- texts

abbrev several : Data
several = value_of (tree.sequence (items_from (number 1 ∷ tree.text (97 ∷ []) ∷ tree.none ∷ [])))

list_written : plain (with false) false several ≡ codes "[1,\"a\",None]"
unfolding laying
list_written = refl

abbrev ascending : Data
ascending = value_of (tree.mapping (pairs_from ((number 1, tree.unit) ∷ (number 2, tree.some tree.none) ∷ [])))

-- in the order of the keys
map_written : plain (with false) false ascending ≡ codes "{1:(),2:Some(None)}"
unfolding laying
map_written = refl

-- pending Somes around a value are written out around `None` alone
none_in_some : plain (with true) false (some_of (value_of tree.none)) ≡ codes "Some(None)"
unfolding laying
none_in_some = refl

five_in_some : plain (with true) false (some_of (value_of five)) ≡ codes "5"
unfolding laying
five_in_some = refl

-- ---- what can be encoded, the normal form, and the depth

-- under implicit_some a Some in a value would be left out
some_refused : is_encodable true (value_of (tree.some five)) ≡ false
some_refused = refl

some_encoded : is_encodable false (value_of (tree.some five)) ≡ true
some_encoded = refl

-- 255 begins no character
not_utf8 : is_encodable false (value_of (tree.text (255 ∷ []))) ≡ false
unfolding is_utf8 chars encode
not_utf8 = refl

width_lost : norm_with false (value_of five) ≡ value_of (number 5)
unfolding smallest_width
width_lost = refl

two_deep : writer_depth no_config ascending ≡ 2
two_deep = refl

-- ---- reading back

list_is_read_back : (room : ℕ) × Document (with false) (any_value ∷ []) 0 room (codes "[1,\"a\",None]") several
unfolding laying smallest_width
list_is_read_back =
    read_back (with false) (any_value ∷ []) 0 several refl (refl, record { ordered = (tt, (tt, (tt, tt))); in_width = (refl, (tt, (tt, tt))) }) refl refl refl

none_is_read_back : (room : ℕ) × Document (with true) (optional 1 ∷ any_value ∷ []) 0 room (codes "Some(None)") (some_of (value_of tree.none))
unfolding laying
none_is_read_back = read_back (with true) (optional 1 ∷ any_value ∷ []) 0 (some_of (value_of tree.none)) refl
    (1, refl, (refl, record { ordered = tt; in_width = tt })) refl refl refl

five_is_read_back : (room : ℕ) × Document (with true) (optional 1 ∷ any_value ∷ []) 0 room (codes "5") (some_of (value_of (number 5)))
unfolding laying smallest_width
five_is_read_back = read_back (with true) (optional 1 ∷ any_value ∷ []) 0 (some_of (value_of five)) refl
    (1, refl, (refl, record { ordered = tt; in_width = refl })) refl refl refl

-- S(a: any value), where other fields are skipped
abbrev skipping : List Shape
skipping = struct (codes "S") (record { fields = field (codes "a") 1 ∷ []; skips_unknown = true }) ∷ any_value ∷ []

abbrev field_a : Data
field_a = struct_of (codes "S") (field_and (codes "a") (value_of (number 5)) no_fields)

field_is_read_back : (room : ℕ) × Document (with false) skipping 0 room (codes "(a:5)") field_a
unfolding laying smallest_width
field_is_read_back =
    read_back (with false) skipping 0 field_a refl (_, refl, refl, (_, refl, (refl, record { ordered = tt; in_width = refl }), tt)) refl refl refl
