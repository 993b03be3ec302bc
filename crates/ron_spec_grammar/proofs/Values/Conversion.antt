-- By a schema, what a value becomes is data of the shape, and no deeper than the value as data.
use Rattle.std.proofs.Common.{◌≡◌, ℕ, suc, ◌+◌, ◌≤◌, ℤ, Bool, true, false, cond, List, [], ◌∷◌, Option, Some, None, option_map, chars, slice_get, inl, inr}
use Rattle.std.proofs.Common.{refl, arith}
use Rattle.std.specs.List.{list_all}
use Rattle.std.specs.Option.{option_and_then}
use Rattle.ron_spec_words.specs.Characters.{Text}
use Rattle.ron_spec_words.proofs.Values.{Each}
use Rattle.ron_value_number.specs.Width.{fits}
use Rattle.ron_value.specs.Tree.{Tree}
use Rattle.ron_value.specs.Tree as tree
use Rattle.ron_spec_grammar.specs.Data.{Data, bool_of, int_of, char_of, str_of, raw_of, bytes_of, the_unit, the_none, some_of, unit_struct_of, list_of}
use Rattle.ron_spec_grammar.specs.Data.{tuple_of, tuple_struct_of, map_of, newtype_of, struct_of, value_of, Datas, no_datas, data_and, Pairs, no_pairs}
use Rattle.ron_spec_grammar.specs.Data.{pair_and}
use Rattle.ron_spec_grammar.specs.Depth.{least_depth, items_depth, pairs_depth}
use Rattle.ron_value.specs.Ordered.{AreItemsOrdered, ArePairsOrdered}
use Rattle.ron_spec_grammar.specs.Schema.{FieldList, Shape, bool, int, char, str, bytes, unit, optional, unit_struct, seq, tuple, tuple_struct, map, newtype}
use Rattle.ron_spec_grammar.specs.Schema.{struct, any_value, any_raw, has_distinct_names, AllOfShape, EachOfShape, PairsOfShape}
use Rattle.ron_spec_grammar.specs.Equal.{folded}
use Rattle.ron_spec_grammar.specs.Shapes.Map.{map_data}
use Rattle.ron_spec_grammar.specs.Shapes.Struct.{Item, Target, known, unknown, arranged, struct_from}
use Rattle.ron_spec_grammar.specs.Values.Trees.{HaveNumbersInWidth, PairsInWidth, IsValue, lift, lift_items, lift_pairs}
use Rattle.ron_spec_grammar.specs.Raw.{raw_valid}
use Rattle.ron_spec_grammar.specs.Values.Conversion.{or_itself, boolean_as, character_as, text_as, bytes_as, number_as, unit_as, none_as, some_as, sequence_as}
use Rattle.ron_spec_grammar.specs.Values.Conversion.{mapping_as, with_both, bytes_among, field_named, item_as, followed, into, all_into, each_into, only_into}
use Rattle.ron_spec_grammar.specs.Values.Conversion.{pairs_into, fields_into}
use Rattle.ron_spec_grammar.specs.Values.Statement.{IsConverted}
use Rattle.ron_spec_grammar.proofs.Finding.{all_get, are_found, mapped_from, then_from}
use Rattle.ron_spec_grammar.proofs.Pairs.{ArePairs, folded_are}
use Rattle.ron_spec_grammar.proofs.Place.{formed_parts}
use Rattle.ron_spec_grammar.proofs.Values.DeepData.{IsDataOf, ItemOf, arranged_is}
use Rattle.ron_spec_grammar.proofs.Shapes.Struct.{TargetIs, target_is}
use Rattle.ron_spec_grammar.proofs.Shapes.Value.{as_deep}

-- ---- options

pub with_both_from : {A B C : Type 0} (f : A → B → C) (a : Option A) (b : Option B) (c : C) → with_both f a b ≡ Some c
    → (x : A) × (y : B) × (a ≡ Some x) × (b ≡ Some y) × (f x y ≡ c)
with_both_from f None b c e = absurd (cc)
with_both_from f (Some x) None c e = absurd (cc)
with_both_from f (Some x) (Some y) c e = (x, y, refl, refl, cc)

pub followed_from : (more : Item → Option (List Item)) (o : Option Item) (xs : List Item) → followed more o ≡ Some xs
    → (x : Item) × (rest : List Item) × (o ≡ Some x) × (more x ≡ Some rest) × (x ∷ rest ≡ xs)
followed_from more o xs e = let k = then_from (λ x. option_map (λ rest. x ∷ rest) (more x)) o xs e in
    let m = mapped_from (λ rest. k.0 ∷ rest) (more k.0) xs k.2 in
    (k.0, m.0, k.1, m.1, m.2)

-- ---- a value as it stands

module _ (schema : List Shape) (room k i : ℕ) (t : Tree) (v : IsValue t) (d : Data) where
  itself_is : (o : Option Shape) → slice_get schema i ≡ o → (r : Option Data) → or_itself t o r ≡ Some d → least_depth (lift t) + k ≤ room
      → (r ≡ Some d → IsDataOf schema room k i d) → IsDataOf schema room k i d
  itself_is (Some any_value) s r e le by_shape = let same : value_of t ≡ d = cc in
      let deep = as_deep t in
      rw (← same) (record { of_shape = λ _. (s, v); no_deeper = omega (arith, le, deep) })
  itself_is _ s r e le by_shape = by_shape e

-- ---- values that hold no others, k levels down

module _ (schema : List Shape) (room k i : ℕ) (d : Data) where
  abbrev Is : Type 0
  Is = IsDataOf schema room k i d

  boolean_is : (b : Bool) (o : Option Shape) → slice_get schema i ≡ o → boolean_as b o ≡ Some d → k ≤ room → Is
  boolean_is b (Some bool) s e le = let same : bool_of b ≡ d = cc in rw (← same) (record { of_shape = λ _. s; no_deeper = omega (arith, le) })
  boolean_is b _ s e le = absurd (cc)

  character_is : (c : ℕ) (o : Option Shape) → slice_get schema i ≡ o → character_as c o ≡ Some d → k ≤ room → Is
  character_is c (Some char) s e le = let same : char_of c ≡ d = cc in rw (← same) (record { of_shape = λ _. s; no_deeper = omega (arith, le) })
  character_is c _ s e le = absurd (cc)

  text_is : (t : Text) (o : Option Shape) → slice_get schema i ≡ o → text_as t o ≡ Some d → k ≤ room → Is
  text_is t (Some str) s e le = let same : str_of t ≡ d = cc in rw (← same) (record { of_shape = λ _. s; no_deeper = omega (arith, le) })
  text_is t (Some any_raw) s e le = go (raw_valid t) refl e
    where
      go : (b : Bool) → raw_valid t ≡ b → cond b (Some (raw_of t)) None ≡ Some d → Is
      go true h q = let same : raw_of t ≡ d = cc in rw (← same) (record { of_shape = λ _. (s, h); no_deeper = omega (arith, le) })
      go false h q = absurd (cc)
  text_is t _ s e le = absurd (cc)

  bytes_are : (bs : List ℕ) (o : Option Shape) → slice_get schema i ≡ o → bytes_as bs o ≡ Some d → k ≤ room → Is
  bytes_are bs (Some bytes) s e le = let same : bytes_of bs ≡ d = cc in rw (← same) (record { of_shape = λ _. s; no_deeper = omega (arith, le) })
  bytes_are bs _ s e le = absurd (cc)

  number_is : (n : ℤ) (o : Option Shape) → slice_get schema i ≡ o → number_as n o ≡ Some d → k ≤ room → Is
  number_is n (Some (int w)) s e le = go (fits w n) refl e
    where
      go : (b : Bool) → fits w n ≡ b → cond b (Some (int_of w n)) None ≡ Some d → Is
      go true h q = let same : int_of w n ≡ d = cc in rw (← same) (record { of_shape = λ _. (s, h); no_deeper = omega (arith, le) })
      go false h q = absurd (cc)
  number_is n _ s e le = absurd (cc)

  unit_is : (o : Option Shape) → slice_get schema i ≡ o → unit_as o ≡ Some d → k ≤ room → Is
  unit_is (Some unit) s e le = let same : the_unit ≡ d = cc in rw (← same) (record { of_shape = λ _. s; no_deeper = omega (arith, le) })
  unit_is (Some (unit_struct name)) s e le = let same : unit_struct_of name ≡ d = cc in
      rw (← same) (record { of_shape = λ _. s; no_deeper = omega (arith, le) })
  unit_is _ s e le = absurd (cc)

  none_is : (o : Option Shape) → slice_get schema i ≡ o → none_as o ≡ Some d → k ≤ room → Is
  none_is (Some (optional j)) s e le = let same : the_none ≡ d = cc in rw (← same) (record { of_shape = λ _. (j, s); no_deeper = omega (arith, le) })
  none_is _ s e le = absurd (cc)

-- ---- values that hold others

-- what stands one level further down
abbrev Below : List Shape → ℕ → ℕ → (ℕ → Option Data) → Type 0
Below schema room k f = (j : ℕ) (c : Data) → f j ≡ Some c → IsDataOf schema room (suc k) j c

-- items that are of these shapes where names differ, and no deeper than the room, k levels down
record AreItems (schema : List Shape) (room k : ℕ) (P : Type 0) (ds : Datas) : Type 0 where
  of_shape : list_all has_distinct_names schema ≡ true → P
  no_deeper : items_depth ds + k ≤ room

-- a pair of a key and a value, one level further down
abbrev IsPair : List Shape → ℕ → ℕ → ℕ → ℕ → Data × Data → Type 0
IsPair schema room k a v p = IsDataOf schema room (suc k) a p.0 × IsDataOf schema room (suc k) v p.1

pairs_below : (schema : List Shape) (room k a v : ℕ) (ps : Pairs) → ArePairs (IsDataOf schema room (suc k) a) (IsDataOf schema room (suc k) v) ps → k ≤ room
    → (list_all has_distinct_names schema ≡ true → PairsOfShape schema a v ps) × (pairs_depth ps + k ≤ room)
pairs_below schema room k a v no_pairs h le = (λ _. tt, omega (arith, le))
pairs_below schema room k a v (pair_and key d ps) h le =
    let z = pairs_below schema room k a v ps h.2 le in
    let w = z.1 in
    let low = h.0.no_deeper in
    let low' = h.1.no_deeper in
    (λ formed. (h.0.of_shape formed, h.1.of_shape formed, z.0 formed), omega (arith, w, low, low'))

module _ (schema : List Shape) (room k i : ℕ) (d : Data) where
  some_is : (f : ℕ → Option Data) → Below schema room k f → (o : Option Shape) → slice_get schema i ≡ o → some_as f o ≡ Some d → IsDataOf schema room k i d
  some_is f below (Some (optional j)) s e =
      let n = mapped_from some_of (f j) d e in
      let p = below j n.0 n.1 in
      let w = p.no_deeper in
      rw (← n.2) (record { of_shape = λ formed. (j, s, p.of_shape formed); no_deeper = omega (arith, w) })
  some_is f below _ s e = absurd (cc)

  -- a list, one level down
  module _ (all : ℕ → Option Datas) (in_turn : List ℕ → Option Datas) (only : ℕ → Option Data) (bs : Option (List ℕ))
      (are_all : (j : ℕ) (ds : Datas) → all j ≡ Some ds → AreItems schema room (suc k) (AllOfShape schema j ds) ds)
      (are_in_turn : (js : List ℕ) (ds : Datas) → in_turn js ≡ Some ds → AreItems schema room (suc k) (EachOfShape schema js ds) ds)
      (is_only : Below schema room k only) (le : suc k ≤ room) where
    sequence_is : (o : Option Shape) → slice_get schema i ≡ o → sequence_as all in_turn only bs o ≡ Some d → IsDataOf schema room k i d
    sequence_is (Some (seq j)) s e =
        let n = mapped_from list_of (all j) d e in
        let p = are_all j n.0 n.1 in
        let w = p.no_deeper in
        rw (← n.2) (record { of_shape = λ formed. (j, s, p.of_shape formed); no_deeper = omega (arith, w) })
    sequence_is (Some (tuple js)) s e =
        let n = mapped_from tuple_of (in_turn js) d e in
        let p = are_in_turn js n.0 n.1 in
        let w = p.no_deeper in
        rw (← n.2) (record { of_shape = λ formed. (js, s, p.of_shape formed); no_deeper = omega (arith, w) })
    sequence_is (Some (tuple_struct name js)) s e =
        let n = mapped_from (tuple_struct_of name) (in_turn js) d e in
        let p = are_in_turn js n.0 n.1 in
        let w = p.no_deeper in
        rw (← n.2) (record { of_shape = λ formed. (js, s, p.of_shape formed); no_deeper = omega (arith, w) })
    sequence_is (Some (newtype name j)) s e =
        let n = mapped_from (newtype_of name) (only j) d e in
        let p = is_only j n.0 n.1 in
        let w = p.no_deeper in
        rw (← n.2) (record { of_shape = λ formed. (j, s, p.of_shape formed); no_deeper = omega (arith, w) })
    sequence_is (Some bytes) s e = let n = mapped_from bytes_of bs d e in rw (← n.2) (record { of_shape = λ _. s; no_deeper = omega (arith, le) })
    sequence_is _ s e = absurd (cc)

  -- a map, one level down
  module _ (pairs : ℕ → ℕ → Option (List (Data × Data))) (fields_of : FieldList → Option (List Item))
      (are_pairs : (a v : ℕ) (ps : List (Data × Data)) → pairs a v ≡ Some ps → Each (IsPair schema room (suc k) a v) ps)
      (are_fields : (list : FieldList) (xs : List Item) → fields_of list ≡ Some xs → Each (ItemOf schema room (suc k) list.fields) xs) (le : suc k ≤ room) where
    mapping_is : (o : Option Shape) → slice_get schema i ≡ o → mapping_as pairs fields_of o ≡ Some d → IsDataOf schema room k i d
    mapping_is (Some (map a v)) s e =
        let n = then_from map_data (pairs a v) d e in
        let same : map_of (folded n.0) ≡ d = some_is_same n.2 in
        let p = pairs_below schema room (suc k) a v (folded n.0) (folded_are _ _ n.0 (are_pairs a v n.0 n.1)) le in
        let w = p.1 in
        rw (← same) (record { of_shape = λ formed. (a, v, s, p.0 formed); no_deeper = omega (arith, w) })
      where
        some_is_same : {x : Data} → Some x ≡ Some d → x ≡ d
        some_is_same q = cc
    mapping_is (Some (struct name list)) s e =
        let n = then_from (struct_from name list.fields) (fields_of list) d e in
        let m = mapped_from (struct_of name) (arranged list.fields n.0) d n.2 in
        let z = arranged_is schema room (suc k) list.fields n.0 (are_fields list n.0 n.1) list.fields m.0 m.1 in
        let w = z.1 le in
        rw (← m.2) (record {
          of_shape = λ formed. (let differ = all_get has_distinct_names schema i (struct name list) formed s in let found = are_found list.fields differ in
              let o = z.0 formed found found differ in (list, s, o.0, o.1));
          no_deeper = omega (arith, w);
        })
    mapping_is _ s e = absurd (cc)

-- ---- the conversion

-- what a key names
named_is : (list : FieldList) (seen : List Item) (key : Tree) (t : Target) → field_named list seen key ≡ Some t → TargetIs list t
named_is list seen (tree.text bs) t e = target_is list seen (chars bs) t e
named_is list seen _ t e = absurd (cc)

-- an item, by what its value becomes
item_is : (schema : List Shape) (room k : ℕ) (list : FieldList) (f : ℕ → Option Data) → Below schema room k f → (t : Target) → TargetIs list t → (item : Item)
    → item_as f t ≡ Some item → suc k ≤ room → ItemOf schema room k list.fields item
item_is schema room k list value below (known f) is item e le = let c = mapped_from (λ d. (f.name, d)) (value f.shape) item e in
    rw (← c.2) (inl (f, is, refl, below f.shape c.0 c.1))
item_is schema room k list value below (unknown name) is item e le = let same : (name, the_unit) ≡ item = cc in rw (← same) (inr (is, omega (arith, le)))

module _ (schema : List Shape) (room : ℕ) where
  mutual
    pub is_converted : (k i : ℕ) (t : Tree) (d : Data) → IsValue t → into schema i t ≡ Some d → least_depth (lift t) + k ≤ room → IsDataOf schema room k i d
    is_converted k i (tree.boolean b) d v e le = itself_is schema room k i (tree.boolean b) v d (slice_get schema i) refl _ e le
        (λ q. boolean_is schema room k i d b (slice_get schema i) refl q (omega (arith, le)))
    is_converted k i (tree.character c) d v e le = itself_is schema room k i (tree.character c) v d (slice_get schema i) refl _ e le
        (λ q. character_is schema room k i d c (slice_get schema i) refl q (omega (arith, le)))
    is_converted k i (tree.mapping ps) d v e le =
        itself_is schema room k i (tree.mapping ps) v d (slice_get schema i) refl _ e le (λ q. mapping_is schema room k i d (λ a v. pairs_into schema a v ps)
        (λ list. fields_into schema list [] ps) (λ a b qs r. pairs_converted (suc k) a b ps qs v.ordered.1 v.in_width r (omega (arith, le)))
        (λ list xs r. fields_converted (suc k) list [] ps xs v.ordered.1 v.in_width r (omega (arith, le))) (omega (arith, le)) (slice_get schema i) refl q)
    is_converted k i (tree.number w n) d v e le = itself_is schema room k i (tree.number w n) v d (slice_get schema i) refl _ e le
        (λ q. number_is schema room k i d n (slice_get schema i) refl q (omega (arith, le)))
    is_converted k i tree.none d v e le = itself_is schema room k i tree.none v d (slice_get schema i) refl _ e le
        (λ q. none_is schema room k i d (slice_get schema i) refl q (omega (arith, le)))
    is_converted k i (tree.some t) d v e le =
        itself_is schema room k i (tree.some t) v d (slice_get schema i) refl _ e le (λ q. some_is schema room k i d (λ j. into schema j t)
        (λ j c r. is_converted (suc k) j t c (record { ordered = v.ordered; in_width = v.in_width }) r (omega (arith, le))) (slice_get schema i) refl q)
    is_converted k i (tree.text bs) d v e le = itself_is schema room k i (tree.text bs) v d (slice_get schema i) refl _ e le
        (λ q. text_is schema room k i d (chars bs) (slice_get schema i) refl q (omega (arith, le)))
    is_converted k i (tree.bytes bs) d v e le = itself_is schema room k i (tree.bytes bs) v d (slice_get schema i) refl _ e le
        (λ q. bytes_are schema room k i d bs (slice_get schema i) refl q (omega (arith, le)))
    is_converted k i (tree.sequence ts) d v e le = itself_is schema room k i (tree.sequence ts) v d (slice_get schema i) refl _ e le
        (λ q. sequence_is schema room k i d (λ j. all_into schema j ts) (λ js. each_into schema js ts) (λ j. only_into schema j ts) (bytes_among ts)
        (λ j ds r. all_converted (suc k) j ts ds v.ordered v.in_width r (omega (arith, le))) (λ js ds r. each_converted (suc k) js ts ds v.ordered v.in_width r
        (omega (arith, le))) (λ j c r. only_converted k j ts c v.ordered v.in_width r (omega (arith, le))) (omega (arith, le)) (slice_get schema i) refl q)
    is_converted k i tree.unit d v e le = itself_is schema room k i tree.unit v d (slice_get schema i) refl _ e le
        (λ q. unit_is schema room k i d (slice_get schema i) refl q (omega (arith, le)))

    all_converted : (k j : ℕ) (ts : tree.Items) (ds : Datas) → AreItemsOrdered ts → HaveNumbersInWidth ts → all_into schema j ts ≡ Some ds
        → items_depth (lift_items ts) + k ≤ room → AreItems schema room k (AllOfShape schema j ds) ds
    all_converted k j tree.no_items ds o n e le = let same : no_datas ≡ ds = cc in rw (← same) (record { of_shape = λ _. tt; no_deeper = omega (arith, le) })
    all_converted k j (tree.item_and t ts) ds o n e le =
        let z = with_both_from data_and (into schema j t) (all_into schema j ts) ds e in
        let p = is_converted (suc k) j t z.0 (record { ordered = o.0; in_width = n.0 }) z.2 (omega (arith, le)) in
        let more = all_converted k j ts z.1 o.1 n.1 z.3 (omega (arith, le)) in
        let w = p.no_deeper in
        let w' = more.no_deeper in
        rw (← z.4) (record { of_shape = λ formed. (p.of_shape formed, more.of_shape formed); no_deeper = omega (arith, w, w') })

    each_converted : (k : ℕ) (js : List ℕ) (ts : tree.Items) (ds : Datas) → AreItemsOrdered ts → HaveNumbersInWidth ts → each_into schema js ts ≡ Some ds
        → items_depth (lift_items ts) + k ≤ room → AreItems schema room k (EachOfShape schema js ds) ds
    each_converted k [] tree.no_items ds o n e le = let same : no_datas ≡ ds = cc in rw (← same) (record { of_shape = λ _. tt; no_deeper = omega (arith, le) })
    each_converted k (j ∷ js) (tree.item_and t ts) ds o n e le =
        let z = with_both_from data_and (into schema j t) (each_into schema js ts) ds e in
        let p = is_converted (suc k) j t z.0 (record { ordered = o.0; in_width = n.0 }) z.2 (omega (arith, le)) in
        let more = each_converted k js ts z.1 o.1 n.1 z.3 (omega (arith, le)) in
        let w = p.no_deeper in
        let w' = more.no_deeper in
        rw (← z.4) (record { of_shape = λ formed. (p.of_shape formed, more.of_shape formed); no_deeper = omega (arith, w, w') })
    each_converted k [] (tree.item_and t ts) ds o n e le = absurd (cc)
    each_converted k (j ∷ js) tree.no_items ds o n e le = absurd (cc)

    only_converted : (k j : ℕ) (ts : tree.Items) (c : Data) → AreItemsOrdered ts → HaveNumbersInWidth ts → only_into schema j ts ≡ Some c
        → items_depth (lift_items ts) + suc k ≤ room → IsDataOf schema room (suc k) j c
    only_converted k j (tree.item_and t tree.no_items) c o n e le = is_converted (suc k) j t c (record { ordered = o.0; in_width = n.0 }) e (omega (arith, le))
    only_converted k j tree.no_items c o n e le = absurd (cc)
    only_converted k j (tree.item_and t (tree.item_and u ts)) c o n e le = absurd (cc)

    pairs_converted : (k a v : ℕ) (ps : tree.Pairs) (qs : List (Data × Data)) → ArePairsOrdered ps → PairsInWidth ps → pairs_into schema a v ps ≡ Some qs
        → pairs_depth (lift_pairs ps) + k ≤ room → Each (IsPair schema room k a v) qs
    pairs_converted k a v tree.no_pairs qs o w e le = let same : [] ≡ qs = cc in rw (← same) tt
    pairs_converted k a v (tree.pair_and key t ps) qs o w e le =
        let n = with_both_from (λ p rest. p ∷ rest) (with_both (λ b c. (b, c)) (into schema a key) (into schema v t)) (pairs_into schema a v ps) qs e in
        let m = with_both_from (λ b c. (b, c)) (into schema a key) (into schema v t) n.0 n.2 in
        rw (← n.4, ← m.4) (
          (
            is_converted (suc k) a key m.0 (record { ordered = o.0; in_width = w.0 }) m.2 (omega (arith, le)),
            is_converted (suc k) v t m.1 (record { ordered = o.1; in_width = w.1 }) m.3 (omega (arith, le)),
          ),
          pairs_converted k a v ps n.1 o.2 w.2 n.3 (omega (arith, le)),
        )

    fields_converted : (k : ℕ) (list : FieldList) (seen : List Item) (ps : tree.Pairs) (xs : List Item) → ArePairsOrdered ps → PairsInWidth ps
        → fields_into schema list seen ps ≡ Some xs → pairs_depth (lift_pairs ps) + k ≤ room → Each (ItemOf schema room k list.fields) xs
    fields_converted k list seen tree.no_pairs xs o w e le = let same : [] ≡ xs = cc in rw (← same) tt
    fields_converted k list seen (tree.pair_and key t ps) xs o w e le =
        let n =
        followed_from (λ item. fields_into schema list (item ∷ seen) ps) (option_and_then (item_as (λ j. into schema j t)) (field_named list seen key)) xs e in
        let m = then_from (item_as (λ j. into schema j t)) (field_named list seen key) n.0 n.2 in
        rw (← n.4) (
          item_is schema room k list (λ j. into schema j t) (λ j c q. is_converted (suc k) j t c (record { ordered = o.1; in_width = w.1 }) q
              (omega (arith, le))) m.0 (named_is list seen key m.0 m.1) n.0 m.2 (omega (arith, le)),
          fields_converted k list (n.0 ∷ seen) ps n.1 o.2 w.2 n.3 (omega (arith, le)),
        )

pub converted : IsConverted
converted schema root i t d well v e =
    let p = is_converted schema (least_depth (lift t)) 0 i t d v e (omega arith) in
    let w = p.no_deeper in
    (p.of_shape (formed_parts schema root well).1, omega (arith, w))
