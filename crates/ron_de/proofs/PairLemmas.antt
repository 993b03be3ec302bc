-- The pairs of maps, beside the steps of the code.
use Rattle.std.proofs.Common.{◌≡◌, ℕ, suc, ◌-◌, ◌<◌, ◌≤◌, Bool, true, false, cond, List, [], ◌∷◌, ◌++◌, length, map, Vec, Global, Some, None, Result, Ok, Err}
use Rattle.std.proofs.Common.{slice_get, refl, sym, ap, ap₂, subst, ◌∙◌, arith}
use Rattle.std.proofs.lemmas.List.{map-append}
use Rattle.ron_spec_words.specs.Characters.{Text}
use Rattle.ron_spec_words.specs.Gap.{skip, gap_of}
use Rattle.ron_spec_words.specs.Runs.{is_at}
use Rattle.ron_spec_words.specs.Turns.{all_items}
use Rattle.ron_spec_words.specs.Reader.{deep, bad, Got, got, failed, Reader, meant, means, after_gap}
use Rattle.ron_spec_words.proofs.Turns.{after_slash, after_other, in_order}
use Rattle.ron_spec_grammar.specs.Data as plain
use Rattle.ron_spec_grammar.specs.Schema.{Shape, map as map_shape}
use Rattle.ron_spec_grammar.specs.Rule.{Extensions}
use Rattle.ron_spec_grammar.specs.Reading.{read}
use Rattle.ron_spec_grammar.specs.Room.{enough}
use Rattle.ron_spec_grammar.specs.Equal.{folded}
use Rattle.ron_spec_grammar.specs.Shapes.Map.{pair_with, map_data}
use Rattle.ron_spec_grammar.specs.Turns.{read_field_value, read_pair, read_pairs}
use Rattle.ron_spec_grammar.proofs.Turns.{value_within, value_deep}
use Rattle.ron_spec_grammar.proofs.PairTurns.{value_behind, pair_without_key, pair_behind_key, pairs_over, pairs_failed, pairs_last, pairs_not_closed}
use Rattle.ron_spec_grammar.proofs.PairTurns.{pairs_more, map_opened}
use Rattle.ron_base.specs.declared.error.Error.{Error}
use Rattle.ron_base.specs.Class.{ErrorClass, class_of}
use Rattle.ron_lex.specs.Place.{Place}
use Rattle.ron_de_steps.specs.Reads.{IsFaultOf, Reads}
use Rattle.ron_data.specs.declared.data.Data.{Data}
use Rattle.ron_data.specs.declared.data.Data.TheVariants as data_
use Rattle.ron_data.specs.Datum.{data_view, pair_view, pairs_view}
use Rattle.ron_data.proofs.DatumLemmas.{view-map}
use Rattle.ron_de_parts.specs.Errors.{IsMemoryOr}
use Rattle.ron_de_steps.specs.Steps.{past_mark, past_colon, past_item}
use Rattle.ron_de_parts.specs.Terms.{Terms, IsDeeper}
use Rattle.ron_de_parts.specs.Room.{IsRoom, enough_for_items}
use Rattle.ron_de.specs.Pairs.{ArePairs}
use Rattle.ron_de_parts.specs.Values.{ReadsValue}
use Rattle.ron_de_steps.proofs.ErrorLemmas.{is_fault, fault_of, memory_or_more}
use Rattle.ron_de_parts.proofs.RoomLemmas.{RoomBelow, room_below, item_within, items_later}
use Rattle.ron_de_steps.proofs.ItemLemmas.{HasTurns, ItemsRead, items_over, item_fails, comma_fails, one_more, at_mark}
use Rattle.ron_de_parts.proofs.GroupLemmas.{Opening, group_inside}
use Rattle.ron_de_steps.proofs.StepLemmas.{marked, unmarked, unless_some}

-- ---- a key or a value, a level below the pairs, at their place or further on

module _ (terms inner : Terms) (d : IsDeeper terms inner) (i : ℕ) (place : Place) (n room : ℕ) (le : length place.rest ≤ n)
    (r : IsRoom terms.limit (enough_for_items terms.schema n) room) where
  room_there : RoomBelow inner.limit (enough terms.schema false i (length place.rest)) room
  room_there = room_below terms.limit inner.limit _ _ room d.2 r (item_within terms.schema i (length place.rest) n le)

  is_value : read_field_value terms.extensions terms.schema (suc room) i place.gap place.rest
      ≡ read terms.extensions terms.schema room_there.left false i place.gap place.rest
  is_value =
      let is_left : suc room - 2 ≡ room_there.left = omega (arith, room_there.is) in
      value_within terms.extensions terms.schema (suc room) i place.gap place.rest (omega (arith, room_there.is))
      ∙ ap (λ k. read terms.extensions terms.schema k false i place.gap place.rest) is_left

  value_there : (P : Got plain.Data → Type 0) →
      ((k : ℕ) → IsRoom inner.limit (enough inner.schema false i (length place.rest)) k → P (read inner.extensions inner.schema k false i place.gap place.rest))
      → P (read_field_value terms.extensions terms.schema (suc room) i place.gap place.rest)
  value_there P g =
      let k = room_there.left in
      let h = g k (subst (λ (s : List Shape). IsRoom inner.limit (enough s false i (length place.rest)) k) (sym d.1) room_there.is_room) in
      subst P (sym is_value) (subst (λ (s : List Shape). P (read terms.extensions s k false i place.gap place.rest)) d.1
      (subst (λ (x : Extensions). P (read x inner.schema k false i place.gap place.rest)) d.0 h))

  -- what is read a level deeper is read of the pair
  reads_there : (result : Result Data Error) (rest : Text) → ReadsValue inner i place result rest
      → Reads data_view result (read_field_value terms.extensions terms.schema (suc room) i place.gap place.rest) rest
  reads_there (Ok value) rest h = value_there (λ o. o ≡ got (data_view value) rest) h
  reads_there (Err e) rest h = value_there (IsFaultOf (class_of e)) h

-- ---- a pair

module _ (terms : Terms) (k v : ℕ) (old : Place) (room : ℕ) where
  -- the pair at the place
  abbrev the_pair : Got (plain.Data × plain.Data)
  the_pair = read_pair terms.extensions terms.schema (suc room) k v old.gap old.rest

  pub pair_deep : room ≡ 0 → the_pair ≡ failed deep
  pair_deep e = pair_without_key terms.extensions terms.schema (suc room) k v old.gap old.rest deep
      (value_deep terms.extensions terms.schema (suc room) k old.gap old.rest (omega (arith, e)))

  module _ (inner : Terms) (d : IsDeeper terms inner) (r : IsRoom terms.limit (enough_for_items terms.schema (length old.rest)) room) where
    pub key_fails : (e : Error) (rest : Text) → ReadsValue inner k old (Err e) rest → IsFaultOf (class_of e) the_pair
    key_fails e rest h = fault_of (class_of e) _ _ (λ f q. pair_without_key terms.extensions terms.schema (suc room) k v old.gap old.rest f q)
        (reads_there terms inner d k old (length old.rest) room (omega arith) r (Err e) rest h)

    module _ (key : Data) (rest : Text) (h : ReadsValue inner k old (Ok key) rest) where
      -- behind the colon
      abbrev value_of_key : Text → Reader (plain.Data × plain.Data)
      value_of_key gap = means (read_field_value terms.extensions terms.schema (suc room) v gap) (pair_with (data_view key))

      -- behind the key's gap
      abbrev colon_and_value : Text → Reader (plain.Data × plain.Data)
      colon_and_value gap = value_behind terms.extensions terms.schema (suc room) v (data_view key)

      behind_key : the_pair ≡ after_gap colon_and_value rest
      behind_key = pair_behind_key terms.extensions terms.schema (suc room) k v old.gap old.rest (data_view key) rest
          (reads_there terms inner d k old (length old.rest) room (omega arith) r (Ok key) rest h)

      pub colon_missing : (e : Error) → IsMemoryOr (past_colon rest ≡ None) e → IsFaultOf (class_of e) the_pair
      colon_missing e t = is_fault (class_of e) _ (memory_or_more e not_there t)
        where
          at_gap : (b : Bool) → is_at 47 (skip rest) ≡ b → cond b None (past_mark 58 (skip rest)) ≡ None → after_gap colon_and_value rest ≡ failed bad
          at_gap true m q = after_slash colon_and_value rest m
          at_gap false m q = after_other colon_and_value rest m ∙ unmarked 58 value_of_key (skip rest) q

          not_there : past_colon rest ≡ None → the_pair ≡ failed bad
          not_there q = behind_key ∙ at_gap (is_at 47 (skip rest)) refl q

      module _ (place : Place) (p : past_colon rest ≡ Some (place.gap, place.rest)) (le : length place.rest ≤ length old.rest) where
        at_value : the_pair ≡ meant (read_field_value terms.extensions terms.schema (suc room) v place.gap place.rest) (pair_with (data_view key))
        at_value =
            let n = unless_some rest (past_mark 58 (skip rest)) (place.gap, place.rest) p in
            behind_key ∙ after_other colon_and_value rest n.0 ∙ marked 58 value_of_key (skip rest) (place.gap, place.rest) n.1

        pub value_fails : (e : Error) (end : Text) → ReadsValue inner v place (Err e) end → IsFaultOf (class_of e) the_pair
        value_fails e end q = fault_of (class_of e) _ _ (λ f z. at_value ∙ ap (λ o. meant o (pair_with (data_view key))) z)
            (reads_there terms inner d v place (length old.rest) room le r (Err e) end q)

        pub pair_is_read : (value : Data) (end : Text) → ReadsValue inner v place (Ok value) end → the_pair ≡ got (pair_view (key, value)) end
        pair_is_read value end q =
            at_value ∙ ap (λ o. meant o (pair_with (data_view key))) (reads_there terms inner d v place (length old.rest) room le r (Ok value) end q)

-- ---- the pairs

module _ (terms : Terms) (k v : ℕ) where
  -- a pair, and all pairs from a place on
  abbrev pub a_pair : ℕ → List (plain.Data × plain.Data) → Text → Text → Got (plain.Data × plain.Data)
  a_pair room seen = read_pair terms.extensions terms.schema (suc room) k v

  abbrev pub all_pairs : ℕ → List (plain.Data × plain.Data) → Text → Text → Got plain.Data
  all_pairs room = read_pairs terms.extensions terms.schema (suc room) k v

  pub pairs_turns : HasTurns a_pair all_pairs 125 map_data
  pairs_turns = record {
    over = λ room seen gap s. pairs_over terms.extensions terms.schema (suc room) k v seen gap s;
    fails = λ room seen gap s still. pairs_failed terms.extensions terms.schema (suc room) k v seen gap s still;
    last = λ room seen gap s still a rest u e. pairs_last terms.extensions terms.schema (suc room) k v seen gap s still a rest e u;
    stays_open = λ room seen gap s still a rest e. pairs_not_closed terms.extensions terms.schema (suc room) k v seen gap s still a rest e;
    goes_on = λ room seen gap s still a rest u e. pairs_more terms.extensions terms.schema (suc room) k v seen gap s still a rest e u;
    no_slash = refl;
  }

  -- so far: these pairs are read, in this order
  pub record PairsRead (pairs : List (Data × Data)) (old now : Place) : Type 0 where
    pub seen : List (plain.Data × plain.Data)
    pub seen_in_order : all_items seen [] ≡ map pair_view pairs
    pub items : ItemsRead a_pair all_pairs 125 map_data pairs_turns terms.limit (enough_for_items terms.schema) (items_later terms.schema) seen old now

  module _ (pairs : List (Data × Data)) (old now : Place) (h : PairsRead pairs old now) where
    -- the room that the limit leaves to the pairs from a place on
    abbrev pub IsRoomOf : Text → ℕ → Type 0
    IsRoomOf s room = IsRoom terms.limit (enough_for_items terms.schema (length s)) room

    -- what reading the next pair gives, in each room
    abbrev pub ReadsNext : (Got (plain.Data × plain.Data) → Type 0) → Type 0
    ReadsNext P = (room : ℕ) → IsRoomOf now.rest room → P (read_pair terms.extensions terms.schema (suc room) k v now.gap now.rest)

    module _ (still : is_at 125 now.rest ≡ false) where
      pub pair_fails : (c : ErrorClass) → ReadsNext (IsFaultOf c) → (room : ℕ) → IsRoomOf old.rest room → IsFaultOf c (all_pairs room [] old.gap old.rest)
      pair_fails c g = item_fails _ _ _ _ _ _ _ _ h.seen old now h.items still c g

      module _ (pair : Data × Data) (rest : Text) (g : ReadsNext (λ o. o ≡ got (pair_view pair) rest)) where
        pub no_comma_behind : (e : Error) → IsMemoryOr (past_item 125 rest ≡ None) e → (room : ℕ) → IsRoomOf old.rest room
            → IsFaultOf (class_of e) (all_pairs room [] old.gap old.rest)
        no_comma_behind = comma_fails _ _ _ _ _ _ _ _ h.seen old now h.items still (pair_view pair) rest g

        pub one_more_pair : (more : List (Data × Data)) (next : Place) → more ≡ pairs ++ pair ∷ [] → past_item 125 rest ≡ Some (next.gap, next.rest)
            → length next.rest ≤ length now.rest → PairsRead more old next
        one_more_pair more next m c shorter = record {
          seen = pair_view pair ∷ h.seen;
          seen_in_order = in_order h.seen [] (pair_view pair ∷ []) ∙ ap (λ ps. ps ++ pair_view pair ∷ []) h.seen_in_order
              ∙ sym (ap (map pair_view) m ∙ map-append pair_view pairs (pair ∷ []));
          items = one_more _ _ _ _ _ _ _ _ h.seen old now h.items still (pair_view pair) rest g next c shorter;
        }

    pub all_pairs_read : is_at 125 now.rest ≡ true → (room : ℕ) → IsRoomOf old.rest room
        → (u : Text) × (now.rest ≡ 125 ∷ u) × (all_pairs room [] old.gap old.rest ≡ got (plain.map_of (folded (map pair_view pairs))) u)
    all_pairs_read over room r =
        let b = at_mark 125 now.rest over in
        (b.0, b.1, items_over _ _ _ _ _ _ _ _ h.seen old now h.items b.0 b.1 room r ∙ ap (λ ps. got (plain.map_of (folded ps)) b.0) h.seen_in_order)

-- ---- a map

-- what stands in its braces
abbrev pub pairs_inside : Terms → ℕ → ℕ → ℕ → Text → Text → Got plain.Data
pairs_inside terms k v room = read_pairs terms.extensions terms.schema room k v []

pub map_opening : (x : Extensions) (schema : List Shape) (room i : ℕ) (before s u : Text) (k v : ℕ) → slice_get schema i ≡ Some (map_shape k v) → s ≡ 123 ∷ u
    → Opening (λ left. read_pairs x schema left k v []) u (read x schema room false i before s) room
map_opening x schema room i before s u k v e o = map_opened x schema room k v i before s e u o

-- what is said of the pairs, as they are read a level deeper, is said of the map
module _ (terms inner : Terms) (d : IsDeeper terms inner) (k v i : ℕ) (u : Text) (old place : Place) (room : ℕ)
    (o : Opening (pairs_inside terms k v) u (read terms.extensions terms.schema room false i old.gap old.rest) room)
    (m : is_at 47 (skip u) ≡ false) (g : place.gap ≡ gap_of u) (w : place.rest ≡ skip u) (shorter : length place.rest < length old.rest)
    (r : IsRoom terms.limit (enough terms.schema false i (length old.rest)) room) where
  pub pairs_said : (P : Got plain.Data → Type 0) → ((n : ℕ) → IsRoom inner.limit (enough_for_items inner.schema (length place.rest)) n
      → P (read_pairs inner.extensions inner.schema (suc n) k v [] place.gap place.rest)) → P (read terms.extensions terms.schema room false i old.gap old.rest)
  pairs_said P h = group_inside (pairs_inside terms k v) u (read terms.extensions terms.schema room false i old.gap old.rest) room o m terms inner d i old place
      g w shorter r P
      (λ n q. subst (λ (s : List Shape). P (read_pairs terms.extensions s (suc n) k v [] place.gap place.rest)) d.1
      (subst (λ (x : Extensions). P (read_pairs x inner.schema (suc n) k v [] place.gap place.rest)) d.0 (h n q)))

-- the map of these pairs, where each key stands once
pub map_value : (pairs once : Vec (Data × Data) Global) (rest : Text) (answer : Got plain.Data) → ArePairs (Ok pairs) answer rest
    → pairs_view once.items ≡ folded (map pair_view pairs.items) → (end : Text) → rest ≡ 125 ∷ end → answer ≡ got (data_view (data_.Map once)) end
map_value pairs once rest answer h e end over = let both : 125 ∷ h.0 ≡ 125 ∷ end = sym h.1 ∙ over in
    let same : h.0 ≡ end = cc in
    h.2 ∙ ap₂ got (sym (view-map once ∙ ap plain.map_of e)) same
