-- What code's parts answer, as the reader function of the whole: each lemma takes what the parts promise.
use Rattle.std.proofs.Common.{◌≡◌, ℕ, suc, ◌<◌, ◌≤◌, ◌&&◌, Bool, true, false, nat_lt, List, [], ◌∷◌, length, map, Some, None, Result, Ok, Err, Vec, Global}
use Rattle.std.proofs.Common.{refl, sym, ap, subst, ◌∙◌, arith}
use Rattle.std.proofs.lemmas.Bool.{ltb-true}
use Rattle.ron_spec_words.specs.Characters.{Text}
use Rattle.ron_spec_words.specs.Lang.{done}
use Rattle.ron_spec_words.specs.Reader.{deep, bad, Got, got, failed, Reader, given, meant, mark, in_sequence, and_then, after_gap}
use Rattle.ron_base.specs.declared.error.Error.{Error}
use Rattle.ron_base.specs.Class.{class_of}
use Rattle.ron_base.specs.Limit.{one_deeper}
use Rattle.ron_lex.specs.Place.{Place}
use Rattle.ron_value.specs.declared.value.Value.{Value}
use Rattle.ron_value.specs.declared.map.Map.{Map as ValueMap}
use Rattle.ron_value.specs.declared.value.Value.TheVariants as value
use Rattle.ron_value.specs.Tree.{Tree}
use Rattle.ron_value.specs.View.{tree_of, pair_tree, entries}
use Rattle.ron_value.specs.Entries.{with_entries}
use Rattle.ron_value.proofs.ValueTrees.{tree_of-Seq}
use Rattle.ron_spec_grammar.specs.Values.Grammar.{list_value, entry_with, read_any}
use Rattle.ron_spec_grammar.specs.Values.Trees.{Entry, mapped}
use Rattle.ron_spec_grammar.specs.Values.Statement.{enough_for_value}
use Rattle.ron_de_steps.proofs.ErrorLemmas.{is_fault, fault_of, memory_or_more}
use Rattle.ron_de_steps.proofs.RoomLemmas.{RoomBelow, room_less, room_below, room_ended}
use Rattle.ron_de_steps.proofs.StepLemmas.{closing, closing_at, with_last, last_at, ends_at, behind_colon, no_colon}
use Rattle.ron_de_steps.specs.Conditions.{Conditions, IsDeeper}
use Rattle.ron_de_steps.specs.Errors.{IsMemoryOr}
use Rattle.ron_de_steps.specs.Reads.{IsFaultOf, Reads}
use Rattle.ron_de_steps.specs.Room.{IsRoom}
use Rattle.ron_de_steps.specs.Steps.{past_mark, past_colon, past_close, past_last_comma}
use Rattle.ron_de_untyped.specs.declared.entries.Keys.{Keys}
use Rattle.ron_de_untyped.specs.declared.entries.Keys.TheVariants.{Names, Values}
use Rattle.ron_de_untyped.specs.declared.groups.Brackets.{Brackets}
use Rattle.ron_de_untyped.specs.Group.{open_mark, close_mark}
use Rattle.ron_de_untyped.specs.Keys.{are_names}
use Rattle.ron_de_untyped.specs.Reading.{read_below, read_items, items_value, read_sequence, read_entry, value_of, read_entries, read_mapping, read_inside}
use Rattle.ron_de_untyped.specs.Reading.{read_group}
use Rattle.ron_de_untyped.specs.Room.{enough_for_items, enough_for_list, enough_inside}
use Rattle.ron_de_untyped.specs.Values.{unwraps, ReadsAny, ReadsBelow, ReadsInside, ReadsItems, ReadsKey, ReadsEntries}
use Rattle.ron_de_untyped.proofs.AnyTurns.{below_here, below_deep, sequence_deep, sequence_here, mapping_deep, mapping_here, entry_is, group_nowhere}
use Rattle.ron_de_untyped.proofs.AnyTurns.{group_within, entries_value}
use Rattle.ron_de_untyped.proofs.ValueLemmas.{mapped_is}

-- what is read of one answer is read of the same one
pub reads_same : {A B : Type 0} (view : A → B) (result : Result A Error) (one other : Got B) (rest : Text) → one ≡ other → Reads view result other rest
    → Reads view result one rest
reads_same view result one other rest e h = subst (λ o. Reads view result o rest) (sym e) h

-- ---- one level deeper

-- what is unwrapped stays so
pub deeper_same : (x inner : Conditions) → IsDeeper x inner → unwraps x ≡ unwraps inner
deeper_same x inner d = ap (λ s. s.unwrap_variant_newtypes) (sym d.0)

module _ (x : Conditions) (place : Place) where
  pub below_ended : one_deeper x.limit ≡ None → (room : ℕ) → IsRoom x.limit (suc (enough_for_value false (length place.rest))) room
      → read_below (unwraps x) room place.gap place.rest ≡ failed deep
  below_ended e room r = ap (λ k. read_below (unwraps x) k place.gap place.rest) (room_ended x.limit _ room e r) ∙ below_deep (unwraps x) place.gap place.rest

  pub reads_below : (inner : Conditions) → IsDeeper x inner → (result : Result Value Error) (rest : Text) → ReadsAny inner false place result rest
      → ReadsBelow x place result rest
  reads_below inner d result rest h room r =
      let k = room_below x.limit inner.limit (enough_for_value false (length place.rest)) _ room d.1 r (omega arith) in
      reads_same tree_of result _ _ rest (ap (λ n. read_below (unwraps x) n place.gap place.rest) k.is ∙ below_here (unwraps x) k.left place.gap place.rest
      ∙ ap (λ u. read_any u k.left false place.gap place.rest) (deeper_same x inner d)) (h k.left k.is_room)

-- ---- items as a list

-- items that are not wanted to be two, or are, make a list
list_made : (several : Bool) (vs : List Value) → several && nat_lt (length vs) 2 ≡ false → items_value several (map tree_of vs) ≡ list_value (map tree_of vs)
list_made false vs e = refl
list_made true [] e = absurd (cc)
list_made true (v ∷ []) e = absurd (cc)
list_made true (v ∷ w ∷ vs) e = refl

none_made : (several : Bool) (vs : List Value) → several && nat_lt (length vs) 2 ≡ true → items_value several (map tree_of vs) ≡ None
none_made false vs e = absurd (cc)
none_made true [] e = refl
none_made true (v ∷ []) e = refl
none_made true (v ∷ w ∷ vs) e = absurd (let lt = ltb-true (length (v ∷ w ∷ vs)) 2 e in omega (arith, lt))

module _ (several : Bool) (x : Conditions) (close : ℕ) (place : Place) where
  pub sequence_ended : one_deeper x.limit ≡ None → (room : ℕ) → IsRoom x.limit (enough_for_list (length place.rest)) room
      → read_sequence several (unwraps x) room close place.gap place.rest ≡ failed deep
  sequence_ended e room r = ap (λ k. read_sequence several (unwraps x) k close place.gap place.rest) (room_ended x.limit _ room e r)
      ∙ sequence_deep several (unwraps x) close place.gap place.rest

  module _ (inner : Conditions) (d : IsDeeper x inner) (room : ℕ) (r : IsRoom x.limit (enough_for_list (length place.rest)) room) where
    -- the room of the items
    below : RoomBelow inner.limit (enough_for_items (length place.rest)) room
    below = room_below x.limit inner.limit (enough_for_items (length place.rest)) _ room d.1 r (omega arith)

    is_items : read_sequence several (unwraps x) room close place.gap place.rest
        ≡ meant (read_items (unwraps inner) below.left close place.gap place.rest) (items_value several)
    is_items =
        ap (λ k. read_sequence several (unwraps x) k close place.gap place.rest) below.is
        ∙ sequence_here several (unwraps x) close place.gap place.rest below.left
        ∙ ap (λ u. meant (read_items u below.left close place.gap place.rest) (items_value several)) (deeper_same x inner d)

    pub sequence_fails : (e : Error) (rest : Text) → ReadsItems inner close place (Err e) rest
        → IsFaultOf (class_of e) (read_sequence several (unwraps x) room close place.gap place.rest)
    sequence_fails e rest h = fault_of (class_of e) _ _ (λ f k. is_items ∙ ap (λ o. meant o (items_value several)) k) (h below.left below.is_room)

    module _ (items : Vec Value Global) (rest : Text) (h : ReadsItems inner close place (Ok items) rest) where
      are_items : read_sequence several (unwraps x) room close place.gap place.rest ≡ meant (got (map tree_of items.items) rest) (items_value several)
      are_items = is_items ∙ ap (λ o. meant o (items_value several)) (h below.left below.is_room)

      pub too_few : several && nat_lt (length items.items) 2 ≡ true → read_sequence several (unwraps x) room close place.gap place.rest ≡ failed bad
      too_few e = are_items ∙ ap (λ o. given o rest) (none_made several items.items e)

      pub sequence_read : several && nat_lt (length items.items) 2 ≡ false
          → read_sequence several (unwraps x) room close place.gap place.rest ≡ got (tree_of (value.Seq items)) rest
      sequence_read e = are_items ∙ ap (λ o. given o rest) (list_made several items.items e) ∙ ap (λ t. got t rest) (sym (tree_of-Seq items))

-- ---- keys and values as a map

map_made : (keys : Keys) (ps : List (Value × Value)) → are_names keys && nat_lt (length ps) 1 ≡ false
    → entries_value keys (map pair_tree ps) ≡ Some (mapped (map pair_tree ps))
map_made Names [] e = absurd (cc)
map_made Names (p ∷ ps) e = refl
map_made Values ps e = refl

no_map : (keys : Keys) (ps : List (Value × Value)) → are_names keys && nat_lt (length ps) 1 ≡ true → entries_value keys (map pair_tree ps) ≡ None
no_map Names [] e = refl
no_map Names (p ∷ ps) e = absurd (let lt = ltb-true (length (p ∷ ps)) 1 e in omega (arith, lt))
no_map Values ps e = absurd (cc)

module _ (keys : Keys) (x : Conditions) (place : Place) where
  pub mapping_ended : one_deeper x.limit ≡ None → (room : ℕ) → IsRoom x.limit (enough_for_list (length place.rest)) room
      → read_mapping keys (unwraps x) room place.gap place.rest ≡ failed deep
  mapping_ended e room r =
      ap (λ k. read_mapping keys (unwraps x) k place.gap place.rest) (room_ended x.limit _ room e r) ∙ mapping_deep (unwraps x) place.gap place.rest keys

  module _ (inner : Conditions) (d : IsDeeper x inner) (room : ℕ) (r : IsRoom x.limit (enough_for_list (length place.rest)) room) where
    -- the room of the keys and values
    within : RoomBelow inner.limit (enough_for_items (length place.rest)) room
    within = room_below x.limit inner.limit (enough_for_items (length place.rest)) _ room d.1 r (omega arith)

    is_entries : read_mapping keys (unwraps x) room place.gap place.rest
        ≡ meant (read_entries keys (unwraps inner) within.left place.gap place.rest) (entries_value keys)
    is_entries =
        ap (λ k. read_mapping keys (unwraps x) k place.gap place.rest) within.is ∙ mapping_here (unwraps x) place.gap place.rest keys within.left
        ∙ ap (λ u. meant (read_entries keys u within.left place.gap place.rest) (entries_value keys)) (deeper_same x inner d)

    pub mapping_fails : (e : Error) (rest : Text) → ReadsEntries keys inner place (Err e) rest
        → IsFaultOf (class_of e) (read_mapping keys (unwraps x) room place.gap place.rest)
    mapping_fails e rest h = fault_of (class_of e) _ _ (λ f k. is_entries ∙ ap (λ o. meant o (entries_value keys)) k) (h within.left within.is_room)

    module _ (pairs : Vec (Value × Value) Global) (rest : Text) (h : ReadsEntries keys inner place (Ok pairs) rest) where
      are_entries : read_mapping keys (unwraps x) room place.gap place.rest ≡ meant (got (map pair_tree pairs.items) rest) (entries_value keys)
      are_entries = is_entries ∙ ap (λ o. meant o (entries_value keys)) (h within.left within.is_room)

      pub no_fields : are_names keys && nat_lt (length pairs.items) 1 ≡ true → read_mapping keys (unwraps x) room place.gap place.rest ≡ failed bad
      no_fields e = are_entries ∙ ap (λ o. given o rest) (no_map keys pairs.items e)

      pub mapping_read : are_names keys && nat_lt (length pairs.items) 1 ≡ false → (m : ValueMap) → entries m ≡ with_entries pairs.items []
          → read_mapping keys (unwraps x) room place.gap place.rest ≡ got (tree_of (value.Map m)) rest
      mapping_read e m k = are_entries ∙ ap (λ o. given o rest) (map_made keys pairs.items e) ∙ ap (λ t. got t rest) (mapped_is m pairs.items k)

-- ---- a key and its value

module _ (keys : Keys) (x : Conditions) (place : Place) (room : ℕ) (r : IsRoom x.limit (enough_for_items (length place.rest)) room) where
  -- the entry at the place
  abbrev the_entry : Got Entry
  the_entry = read_entry keys (unwraps x) room place.gap place.rest

  -- behind a key
  abbrev behind_key : Tree → Text → Reader Entry
  behind_key key gap = in_sequence (mark 58 done) (λ _ gap. value_of (unwraps x) room key gap)

  pub key_fails : (e : Error) (rest : Text) → ReadsKey keys x place (Err e) rest → IsFaultOf (class_of e) the_entry
  key_fails e rest h = fault_of (class_of e) _ _ (λ f k. entry_is (unwraps x) place.gap place.rest keys room ∙ ap (λ o. and_then o behind_key) k) (h room r)

  module _ (key : Value) (rest : Text) (h : ReadsKey keys x place (Ok key) rest) where
    at_colon : the_entry ≡ after_gap (λ _. in_sequence (mark 58 done) (λ _ gap. value_of (unwraps x) room (tree_of key) gap)) rest
    at_colon = entry_is (unwraps x) place.gap place.rest keys room ∙ ap (λ o. and_then o behind_key) (h room r)

    pub colon_fails : (e : Error) → IsMemoryOr (past_colon rest ≡ None) e → IsFaultOf (class_of e) the_entry
    colon_fails e k = is_fault (class_of e) _ (memory_or_more e (λ n. at_colon ∙ no_colon (value_of (unwraps x) room (tree_of key)) rest n) k)

    module _ (next : Place) (p : past_colon rest ≡ Some (next.gap, next.rest)) (le : length next.rest ≤ length place.rest) where
      at_value : the_entry ≡ meant (read_below (unwraps x) room next.gap next.rest) (entry_with (tree_of key))
      at_value = at_colon ∙ behind_colon (value_of (unwraps x) room (tree_of key)) rest (next.gap, next.rest) p

      room_there : IsRoom x.limit (suc (enough_for_value false (length next.rest))) room
      room_there = room_less x.limit _ _ room r (omega (arith, le))

      pub value_fails : (e : Error) (end : Text) → ReadsBelow x next (Err e) end → IsFaultOf (class_of e) the_entry
      value_fails e end q = fault_of (class_of e) _ _ (λ f k. at_value ∙ ap (λ o. meant o (entry_with (tree_of key))) k) (q room room_there)

      pub entry_read : (v : Value) (end : Text) → ReadsBelow x next (Ok v) end → the_entry ≡ got (pair_tree (key, v)) end
      entry_read v end q = at_value ∙ ap (λ o. meant o (entry_with (tree_of key))) (q room room_there)

-- ---- brackets

module _ (b : Brackets) (x : Conditions) (place : Place) (room : ℕ) where
  abbrev the_group : Got Tree
  the_group = read_group b (unwraps x) room place.rest

  pub not_opened : (e : Error) → IsMemoryOr (past_mark (open_mark b) place.rest ≡ None) e → IsFaultOf (class_of e) the_group
  not_opened e k = is_fault (class_of e) _ (memory_or_more e (λ n. group_nowhere b (unwraps x) room place.rest n) k)

  module _ (r : IsRoom x.limit (enough_for_value false (length place.rest)) room) (next : Place)
      (p : past_mark (open_mark b) place.rest ≡ Some (next.gap, next.rest)) (shorter : length next.rest < length place.rest) where
    opened : the_group ≡ closing (close_mark b) (read_inside b (unwraps x) room next.gap next.rest)
    opened = group_within b (unwraps x) room place.rest (next.gap, next.rest) p

    room_inside : IsRoom x.limit (enough_inside (length next.rest)) room
    room_inside = room_less x.limit _ _ room r (omega (arith, shorter))

    pub inside_fails : (e : Error) (rest : Text) → ReadsInside b x next (Err e) rest → IsFaultOf (class_of e) the_group
    inside_fails e rest h = fault_of (class_of e) _ _ (λ f k. opened ∙ ap (closing (close_mark b)) k) (h room room_inside)

    module _ (v : Value) (rest : Text) (h : ReadsInside b x next (Ok v) rest) where
      ends : the_group ≡ ends_at (tree_of v) (past_close (close_mark b) rest)
      ends = opened ∙ ap (closing (close_mark b)) (h room room_inside) ∙ closing_at (close_mark b) (tree_of v) rest

      pub not_closed : (e : Error) → IsMemoryOr (past_close (close_mark b) rest ≡ None) e → IsFaultOf (class_of e) the_group
      not_closed e k = is_fault (class_of e) _ (memory_or_more e (λ n. ends ∙ ap (ends_at (tree_of v)) n) k)

      pub group_read : (end : Text) → past_close (close_mark b) rest ≡ Some end → the_group ≡ got (tree_of v) end
      group_read end e = ends ∙ ap (ends_at (tree_of v)) e

-- ---- a value with perhaps a comma behind it

module _ (whole part : Got Tree) (is : whole ≡ with_last part) where
  pub last_fails : (e : Error) → IsFaultOf (class_of e) part → IsFaultOf (class_of e) whole
  last_fails e h = fault_of (class_of e) part whole (λ f k. is ∙ ap with_last k) h

  module _ (t : Tree) (rest : Text) (h : part ≡ got t rest) where
    last_ends : whole ≡ ends_at t (past_last_comma rest)
    last_ends = is ∙ ap with_last h ∙ last_at t rest

    pub no_last : (e : Error) → IsMemoryOr (past_last_comma rest ≡ None) e → IsFaultOf (class_of e) whole
    no_last e k = is_fault (class_of e) whole (memory_or_more e (λ n. last_ends ∙ ap (ends_at t) n) k)

    pub last_read : (end : Text) → past_last_comma rest ≡ Some end → whole ≡ got t end
    last_read end e = last_ends ∙ ap (ends_at t) e
