-- Worked layouts of values without a schema, and their normal forms, each computed; and that one is read back, by the law.
use Rattle.std.proofs.Common.{◌≡◌, ℕ, Bool, true, false, [], ◌∷◌, codes, pos, neg_ℤ, refl}
use Rattle.ron_value_number.specs.declared.width.Width.TheVariants.{I8, I64, U8, U16, U64}
use Rattle.ron_value_number.specs.Smallest.{smallest_width}
use Rattle.ron_value.specs.Tree.{Tree, items_from, pairs_from}
use Rattle.ron_value.specs.Tree as tree
use Rattle.ron_spec_grammar.specs.Rule.{Extensions}
use Rattle.ron_spec_grammar.specs.Values.Trees.{lift, normal}
use Rattle.ron_spec_layout.specs.Config.{no_config}
use Rattle.ron_spec_layout.specs.ValueStatement.{ValueDocument}
use Rattle.ron_spec_layout.proofs.Computing.{laying, plain}
use Rattle.ron_spec_layout.proofs.ValueReadBack.{value_read_back}

-- these extensions: implicit_some and unwrap_variant_newtypes
abbrev with : Bool → Bool → Extensions
with a b = record { unwrap_newtypes = false; implicit_some = a; unwrap_variant_newtypes = b; explicit_struct_names = false }

abbrev five : Tree
five = tree.number U16 (pos 5)

no_items : plain (with false false) false (lift (tree.sequence tree.no_items)) ≡ codes "[]"
unfolding laying
no_items = refl

one_item : plain (with false false) false (lift (tree.sequence (items_from (five ∷ [])))) ≡ codes "[5]"
unfolding laying
one_item = refl

pairs : plain (with false false) false (lift (tree.mapping (pairs_from ((five, tree.unit) ∷ (tree.unit, five) ∷ [])))) ≡ codes "{5:(),():5}"
unfolding laying
pairs = refl

in_somes : plain (with false false) false (lift (tree.some (tree.some five))) ≡ codes "Some(Some(5))"
unfolding laying
in_somes = refl

bytes_escaped : plain (with false false) false (lift (tree.bytes (97 ∷ 34 ∷ 255 ∷ []))) ≡ codes "b\"a\\\"\\xff\""
unfolding laying
bytes_escaped = refl

character_escaped : plain (with false false) false (lift (tree.character 39)) ≡ codes "'\\''"
unfolding laying
character_escaped = refl

-- bare, the unit is nothing, and a list keeps its brackets
bare_unit : plain (with false true) false (lift (tree.some tree.unit)) ≡ codes "Some()"
unfolding laying
bare_unit = refl

bare_list : plain (with false true) false (lift (tree.some (tree.sequence (items_from (five ∷ five ∷ []))))) ≡ codes "Some([5,5])"
unfolding laying
bare_list = refl

-- under implicit_some the text of a Some is that of what it holds, so it is not told
not_told : plain (with true false) false (lift (tree.some five)) ≡ codes "5"
unfolding laying
not_told = refl

none_alone : plain (with true false) false (lift tree.none) ≡ codes "None"
unfolding laying
none_alone = refl

-- ---- normal forms

width_lost : normal false (tree.number U64 (pos 256)) ≡ tree.number U16 (pos 256)
unfolding smallest_width
width_lost = refl

negative : normal false (tree.number I64 (neg_ℤ (pos 128))) ≡ tree.number I8 (neg_ℤ (pos 128))
unfolding smallest_width
negative = refl

sign_lost : normal false (tree.number I64 (pos 5)) ≡ tree.number U8 (pos 5)
unfolding smallest_width
sign_lost = refl

-- two keys of one value in different widths become one, and the last one's value stays
keys_join : normal false (tree.mapping (pairs_from ((tree.number U8 (pos 1), tree.none) ∷ (tree.number U16 (pos 1), tree.unit) ∷ [])))
    ≡ tree.mapping (pairs_from ((tree.number U8 (pos 1), tree.unit) ∷ []))
unfolding smallest_width
keys_join = refl

-- ---- reading back

somes_are_read_back : (room : ℕ) × ValueDocument (with false true) room (codes "Some(-5)") (tree.some (tree.number I8 (neg_ℤ (pos 5))))
unfolding laying smallest_width
somes_are_read_back = value_read_back no_config (with false true) (tree.some (tree.number I64 (neg_ℤ (pos 5)))) refl (record { ordered = tt; in_width = refl })
    (record { texts = tt; encodable = refl }) (λ i. absurd (cc))

no_unit_is_read_back : (room : ℕ) × ValueDocument (with false true) room (codes "Some()") (tree.some tree.unit)
unfolding laying
no_unit_is_read_back = value_read_back no_config (with false true) (tree.some tree.unit) refl (record { ordered = tt; in_width = tt })
    (record { texts = tt; encodable = refl }) (λ i. absurd (cc))

list_is_read_back : (room : ℕ) × ValueDocument (with true false) room (codes "[None,5]") (tree.sequence (items_from (tree.none ∷ tree.number U8 (pos 5) ∷ [])))
unfolding laying smallest_width
list_is_read_back = value_read_back no_config (with true false) (tree.sequence (items_from (tree.none ∷ five ∷ []))) refl
    (record { ordered = (tt, (tt, tt)); in_width = (tt, (refl, tt)) }) (record { texts = (tt, (tt, tt)); encodable = refl }) (λ i. refl)
