-- What the rule of lists owes: items between brackets are read exactly.
use Rattle.std.proofs.Common.{◌≡◌, ℕ, ◌≤◌, Bool, true, false, List, [], ◌∷◌, Some, slice_get, refl, arith}
use Rattle.std.specs.List.{list_all}
use Rattle.ron_spec_words.specs.Characters.{Text, left_bracket, right_bracket}
use Rattle.ron_spec_words.specs.Lang.{done, Means, Items, Needs}
use Rattle.ron_spec_words.specs.Reader.{means, items, needs}
use Rattle.ron_spec_words.specs.Exact.{Before}
use Rattle.ron_spec_words.proofs.Exactly.{Opens, first_then, first_mark}
use Rattle.ron_spec_words.proofs.Classes.{Solid, solid_mark}
use Rattle.ron_spec_words.proofs.Values.{Each}
use Rattle.ron_spec_words.proofs.Parts.{Part, part_more, part_means, part_needs, part_items, part_group}
use Rattle.ron_spec_grammar.specs.Data.{Data, list_of, datas}
use Rattle.ron_spec_grammar.specs.Schema.{Shape, seq, has_distinct_names, AllOfShape}
use Rattle.ron_spec_grammar.specs.Rule.{Langs, Readers}
use Rattle.ron_spec_grammar.specs.Room.{step}
use Rattle.ron_spec_grammar.specs.Shapes.Seq.{list_data, SeqText, read_seq}
use Rattle.ron_spec_grammar.proofs.Room.{Sizes, size, size_within, size_inside}
use Rattle.ron_spec_grammar.proofs.Rule.{After, IsDataOf, Fit, part_plain}

all_are : (schema : List Shape) (room j : ℕ) (ds : List Data) → Each (IsDataOf schema room 2 j) ds → list_all has_distinct_names schema ≡ true
    → AllOfShape schema j (datas ds)
all_are schema room j [] h = (λ _. tt)
all_are schema room j (d ∷ ds) h = let k = all_are schema room j ds h.1 in (λ formed. (h.0.of_shape formed, k formed))

module _ {schema : List Shape} {room top : ℕ} {base : ℕ → ℕ} (sizes : Sizes schema top base) (m : ℕ) (le : m ≤ room) (q r : ℕ → Readers) (L : ℕ → Langs)
    (h : Fit schema base room 2 (q 1) (r 1) (L 1)) (j i : ℕ) (s : slice_get schema i ≡ Some (seq j)) where
  is_list : (ds : List Data) (d : Data) → Each (IsDataOf schema room 2 j) ds → list_data ds ≡ Some d → 1 ≤ room → IsDataOf schema room 0 i d
  is_list ds d items e le =
      let same : list_of (datas ds) ≡ d = cc in
      let k = all_are schema room j ds items in
      rw (← same) (record { of_shape = λ formed. (j, s, k formed) })

  content : (gap : Text)
      → Part room (step schema) true (IsDataOf schema room 0 i) (needs 1 m (means (items (λ _ before. q 1 false j before) right_bracket gap) list_data))
      (needs 1 room (means (items (λ _ before. r 1 false j before) right_bracket gap) list_data))
      (Needs 1 room (Means (Items (λ _ before. L 1 false j before) gap) list_data)) (Before right_bracket) (size schema base true i)
  content gap = let w = size_within schema sizes i i in
      part_needs 1 m le (omega (arith, w)) (part_means list_data (λ ds d. is_list ds d)
      (part_items (λ _ before. q 1 false j before) (λ _ before. r 1 false j before) (λ _ before. L 1 false j before) right_bracket refl refl
      (λ _ before. h.opens j before) (λ _ before. part_more (h.part false j before) (size_within schema sizes i j)) gap))

  pub part_seq : (bare : Bool) → Part room (step schema) bare (IsDataOf schema room 0 i) (read_seq j m q bare) (read_seq j room r bare) (SeqText j room L bare)
      (After bare) (size schema base bare i)
  part_seq bare = part_plain bare (part_group left_bracket right_bracket (size schema base bare i) refl refl content (size_inside schema sizes bare i))

pub seq_opens : (j room : ℕ) (L : ℕ → Langs) → Opens (SeqText j room L false)
seq_opens j room L = first_then (first_mark Solid left_bracket done (λ s. solid_mark left_bracket s refl refl refl))
