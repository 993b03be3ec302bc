-- What the rule of maps owes: pairs between braces are read exactly.
use Rattle.std.proofs.Common.{◌≡◌, ℕ, ◌+◌, ◌≤◌, Bool, true, false, List, ◌++◌, Some, slice_get, refl, arith}
use Rattle.std.specs.List.{list_all}
use Rattle.ron_spec_words.specs.Characters.{Text, left_brace, right_brace, colon}
use Rattle.ron_spec_words.specs.Lang.{done, Means, Items, Needs}
use Rattle.ron_spec_words.specs.Reader.{means, items, needs}
use Rattle.ron_spec_words.specs.Exact.{Before, FollowsValue}
use Rattle.ron_spec_words.proofs.Words.{word_mark}
use Rattle.ron_spec_words.proofs.Exactly.{Opens, first_then, first_mark, stops_gap}
use Rattle.ron_spec_words.proofs.Classes.{Solid, solid_mark}
use Rattle.ron_spec_words.proofs.Values.{Each}
use Rattle.ron_spec_words.proofs.WordsPass.{passes_colon}
use Rattle.ron_spec_words.proofs.Parts.{Part, part_more, part_means, part_needs, part_chain, part_behind, part_items, part_group}
use Rattle.ron_spec_grammar.specs.Data.{Data, map_of, Pairs, no_pairs, pair_and}
use Rattle.ron_spec_grammar.specs.Schema.{Shape, map, has_distinct_names, PairsOfShape}
use Rattle.ron_spec_grammar.specs.Equal.{folded}
use Rattle.ron_spec_grammar.specs.Rule.{Langs, Readers}
use Rattle.ron_spec_grammar.specs.Room.{step}
use Rattle.ron_spec_grammar.specs.Shapes.Map.{pair_with, map_data, PairItem, MapText, pair_item, read_map}
use Rattle.ron_spec_grammar.proofs.Room.{Sizes, size, size_within, size_inside}
use Rattle.ron_spec_grammar.proofs.Rule.{After, IsDataOf, Fit, part_plain}
use Rattle.ron_spec_grammar.proofs.Pairs.{ArePairs, folded_are}

module _ (schema : List Shape) (room k v : ℕ) where
  -- a key and a value of their shapes, two levels down
  abbrev IsPair : Data × Data → Type 0
  IsPair p = IsDataOf schema room 2 k p.0 × IsDataOf schema room 2 v p.1

  pairs_are : (ps : Pairs) → ArePairs (IsDataOf schema room 2 k) (IsDataOf schema room 2 v) ps → list_all has_distinct_names schema ≡ true
      → PairsOfShape schema k v ps
  pairs_are no_pairs h = (λ _. tt)
  pairs_are (pair_and key d ps) h =
      let z = pairs_are ps h.2 in
      (λ formed. (h.0.of_shape formed, h.1.of_shape formed, z formed))

-- ---- the text

-- of readers two levels down
module _ (schema : List Shape) (room : ℕ) {base : ℕ → ℕ} (q r : Readers) (L : Langs) (h : Fit schema base room 2 q r L) (e : ℕ)
    (wide : (j : ℕ) → size schema base false j + 2 ≤ e) (k v : ℕ) where
  pub part_pair : (before : Text)
      → Part room (step schema) false (IsPair schema room k v) (pair_item k v q before) (pair_item k v r before) (PairItem k v L before) FollowsValue e
  part_pair before = part_chain (part_more (h.part false k before) (wide k))
      (λ key _. part_behind (word_mark colon done) (first_mark _ colon done (λ s. refl)) (passes_colon done)
      (λ gap.
      part_means (pair_with key) (λ d pair p e is_key. let same : (key, d) ≡ pair = cc in rw (← same) (is_key, p)) (part_more (h.part false v gap) (wide v))))
      (λ a gap right next b g z f. stops_gap gap (right ++ next) g (rw (z.split, z.first.0) refl))

module _ {schema : List Shape} {room top : ℕ} {base : ℕ → ℕ} (sizes : Sizes schema top base) (m : ℕ) (le : m ≤ room) (q r : ℕ → Readers) (L : ℕ → Langs)
    (h : Fit schema base room 2 (q 1) (r 1) (L 1)) (k v i : ℕ) (s : slice_get schema i ≡ Some (map k v)) where
  is_map : (ps : List (Data × Data)) (d : Data) → Each (IsPair schema room k v) ps → map_data ps ≡ Some d → 1 ≤ room → IsDataOf schema room 0 i d
  is_map ps d items e le =
      let same : map_of (folded ps) ≡ d = cc in
      let z = pairs_are schema room k v (folded ps) (folded_are _ _ ps items) in
      rw (← same) (record { of_shape = λ formed. (k, v, s, z formed) })

  content : (gap : Text)
      → Part room (step schema) true (IsDataOf schema room 0 i) (needs 1 m (means (items (λ _. pair_item k v (q 1)) right_brace gap) map_data))
      (needs 1 room (means (items (λ _. pair_item k v (r 1)) right_brace gap) map_data))
      (Needs 1 room (Means (Items (λ _. PairItem k v (L 1)) gap) map_data)) (Before right_brace) (size schema base true i)
  content gap = let w = size_within schema sizes i i in
      part_needs 1 m le (omega (arith, w)) (part_means map_data (λ ps d. is_map ps d)
      (part_items (λ _. pair_item k v (q 1)) (λ _. pair_item k v (r 1)) (λ _. PairItem k v (L 1)) right_brace refl refl
      (λ _ before. first_then (h.opens k before))
      (λ _ before. part_pair schema room (q 1) (r 1) (L 1) h (size schema base true i) (λ j. size_within schema sizes i j) k v before) gap))

  pub part_map : (bare : Bool) → Part room (step schema) bare (IsDataOf schema room 0 i) (read_map k v m q bare) (read_map k v room r bare)
      (MapText k v room L bare) (After bare) (size schema base bare i)
  part_map bare = part_plain bare (part_group left_brace right_brace (size schema base bare i) refl refl content (size_inside schema sizes bare i))

pub map_opens : (k v room : ℕ) (L : ℕ → Langs) → Opens (MapText k v room L false)
map_opens k v room L = first_then (first_mark Solid left_brace done (λ s. solid_mark left_brace s refl refl refl))
