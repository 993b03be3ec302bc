-- The reader function of maps a turn at a time: one equation for each case, for code that reads in the same order.
use Rattle.std.proofs.Common.{◌≡◌, ℕ, true, false, List, [], ◌∷◌, Some, slice_get, refl, arith}
use Rattle.ron_spec_words.specs.Characters.{Text, left_brace, right_brace, colon}
use Rattle.ron_spec_words.specs.Gap.{skip}
use Rattle.ron_spec_words.specs.Lang.{done}
use Rattle.ron_spec_words.specs.Reader.{Fault, bad, got, failed, Reader, given, mark, in_sequence, means, after_gap, needs}
use Rattle.ron_spec_words.specs.Runs.{is_at}
use Rattle.ron_spec_words.specs.Turns.{all_items}
use Rattle.ron_spec_words.proofs.Room.{shrinks}
use Rattle.ron_spec_words.proofs.Turns.{Shrinks, group_opened, group_over, group_failed, group_last, group_not_closed, group_more}
use Rattle.ron_spec_grammar.specs.Data.{Data}
use Rattle.ron_spec_grammar.specs.Schema.{Shape, map}
use Rattle.ron_spec_grammar.specs.Rule.{Extensions, below}
use Rattle.ron_spec_grammar.specs.Grammar.{Rule, nothing_spelled}
use Rattle.ron_spec_grammar.specs.Reading.{rule, too_deep, read, read_at}
use Rattle.ron_spec_grammar.specs.Shapes.Map.{pair_with, map_data, pair_item}
use Rattle.ron_spec_grammar.proofs.ElementTurns.{no_group}
use Rattle.ron_spec_grammar.proofs.Levels.{below_fit}
use Rattle.ron_spec_grammar.proofs.Room.{no_ranks, size, size_within}
use Rattle.ron_spec_grammar.proofs.Shapes.Map.{part_pair}
use Rattle.ron_spec_grammar.specs.Turns.{read_field_value, read_pair, read_pairs}

-- the colon behind a key, and the value of that key
abbrev pub value_behind : Extensions → List Shape → ℕ → ℕ → Data → Reader (Data × Data)
value_behind x schema room v key = in_sequence (mark colon done) (λ _ gap. means (read_field_value x schema room v gap) (pair_with key))

module _ (x : Extensions) (schema : List Shape) (room k v : ℕ) where
  -- ---- a pair

  module _ (before s : Text) where
    pub pair_without_key : (f : Fault) → read_field_value x schema room k before s ≡ failed f → read_pair x schema room k v before s ≡ failed f
    unfolding read_pair read_field_value
    pair_without_key f e = rw e refl

    module _ (key : Data) (rest : Text) (e : read_field_value x schema room k before s ≡ got key rest) where
      pub pair_behind_key : read_pair x schema room k v before s ≡ after_gap (λ _. value_behind x schema room v key) rest
      unfolding read_pair read_field_value
      pair_behind_key = rw e refl

  -- ---- the pairs, and the brace that closes them

  abbrev reader : List (Data × Data) → Text → Reader (Data × Data)
  reader seen = pair_item k v (below (rule x schema) too_deep room 1 false)

  pairs_shrink : Shrinks reader
  pairs_shrink = record {
    at_most =
        λ seen gap t p rest e. shrinks _ _ (part_pair schema room (below (rule x schema) too_deep room 1 false) (below (rule x schema) too_deep room 1 false)
        (below (Rule x schema) nothing_spelled room 1 false) (below_fit x schema (no_ranks schema room) room room 1 (omega arith) (omega arith) false)
        (size schema (λ i. room) true 0) (λ j. size_within schema (no_ranks schema room) 0 j) k v gap).exact.sound t p rest e;
  }

  module _ (seen : List (Data × Data)) (before s : Text) where
    pub pairs_over : (u : Text) → s ≡ right_brace ∷ u → read_pairs x schema room k v seen before s ≡ given (map_data (all_items seen [])) u
    unfolding read_pairs
    pairs_over = group_over reader right_brace map_data (refl, refl, refl) pairs_shrink seen before s

    module _ (open_still : is_at right_brace s ≡ false) where
      pub pairs_failed : (f : Fault) → read_pair x schema room k v before s ≡ failed f → read_pairs x schema room k v seen before s ≡ failed f
      unfolding read_pair read_pairs
      pairs_failed = group_failed reader right_brace map_data (refl, refl, refl) pairs_shrink seen before s open_still

      module _ (p : Data × Data) (rest : Text) (e : read_pair x schema room k v before s ≡ got p rest) where
        pub pairs_last : (u : Text) → skip rest ≡ right_brace ∷ u → read_pairs x schema room k v seen before s ≡ given (map_data (all_items (p ∷ seen) [])) u
        unfolding read_pair read_pairs
        pairs_last = group_last reader right_brace map_data (refl, refl, refl) pairs_shrink seen before s open_still p rest e

        pub pairs_not_closed : is_at 44 (skip rest) ≡ false → is_at right_brace (skip rest) ≡ false → read_pairs x schema room k v seen before s ≡ failed bad
        unfolding read_pair read_pairs
        pairs_not_closed = group_not_closed reader right_brace map_data (refl, refl, refl) pairs_shrink seen before s open_still p rest e

        pub pairs_more : (u : Text) → skip rest ≡ 44 ∷ u → read_pairs x schema room k v seen before s ≡ after_gap (read_pairs x schema room k v (p ∷ seen)) u
        unfolding read_pair read_pairs
        pairs_more = group_more reader right_brace map_data (refl, refl, refl) pairs_shrink seen before s open_still p rest e

  -- ---- at an index of the table

  module _ (i : ℕ) (before s : Text) (is_map : slice_get schema i ≡ Some (map k v)) where
    pub map_opened : (u : Text) → s ≡ left_brace ∷ u
        → read x schema room false i before s ≡ after_gap (λ gap. needs 1 room (read_pairs x schema room k v [] gap)) u
    unfolding read_at read_pairs
    map_opened u o = rw (is_map, o) (group_opened (λ _. pair_item k v (below (rule x schema) too_deep room 1 false)) right_brace map_data left_brace 1 room u)

    pub map_not_opened : is_at left_brace s ≡ false → read x schema room false i before s ≡ failed bad
    unfolding read_at
    map_not_opened o = rw is_map (no_group left_brace s _ o)
