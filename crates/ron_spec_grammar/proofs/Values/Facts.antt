-- What texts spell are values.
use Rattle.std.proofs.Common.{◌≡◌, ℕ, ℤ, Bool, true, false, cond, List, [], ◌∷◌, Option, Some, None, option_map, refl}
use Rattle.ron_spec_words.specs.Number.{Numeral, numeral_value}
use Rattle.ron_spec_words.proofs.Values.{Each}
use Rattle.ron_value_number.specs.declared.width.Width.{Width}
use Rattle.ron_value_number.specs.Width.{fits}
use Rattle.ron_value_number.specs.Smallest.{widths_of, smallest_width, written_width}
use Rattle.ron_value.specs.Tree.{Tree, items_from, pairs_from}
use Rattle.ron_value.specs.Tree as tree
use Rattle.ron_value.specs.Ordered.{AreItemsOrdered, ArePairsOrdered}
use Rattle.ron_spec_grammar.specs.Shapes.Int.{suffix_width}
use Rattle.ron_spec_grammar.specs.Values.Trees.{Entry, put_in, mapped, HaveNumbersInWidth, PairsInWidth, IsValue}
use Rattle.ron_spec_grammar.specs.Values.Grammar.{number_tree, start_key, end_key, from_start, to_end, from_to, interval_value}
use Rattle.ron_spec_grammar.proofs.Finding.{each_any, find_some}
use Rattle.ron_spec_grammar.proofs.Values.Maps.{Both, each-put_in, ascends-put_in, ascends-nil}
use Rattle.ron_spec_words.specs.Range.{Interval, one, range}

-- a value, whatever the room, k levels down
pub record IsValueIn (room k : ℕ) (t : Tree) : Type 0 where
  pub value : IsValue t

-- ---- numbers

pub written_fits : (o : Option Width) (minus : Bool) (z : ℤ) (w : Width) → written_width o minus z ≡ Some w → fits w z ≡ true
unfolding smallest_width
written_fits None minus z w e = (find_some (λ _. Unit {0}) (λ v. fits v z) (widths_of minus) w e (each_any (widths_of minus))).0
written_fits (Some v) minus z w e = go (fits v z) refl e
  where
    go : (b : Bool) → fits v z ≡ b → cond b (Some v) None ≡ Some w → fits w z ≡ true
    go true h k = let same : v ≡ w = cc in rw (← same) h
    go false h k = absurd (cc)

pub number_in : (room : ℕ) (n : Numeral) (t : Tree) → number_tree n ≡ Some t → IsValueIn room 0 t
number_in room n t e = go (written_width (option_map suffix_width n.suffix) n.minus (numeral_value n)) refl e
  where
    go : (o : Option Width) → written_width (option_map suffix_width n.suffix) n.minus (numeral_value n) ≡ o
        → option_map (λ w. tree.number w (numeral_value n)) o ≡ Some t → IsValueIn room 0 t
    go None h k = absurd (cc)
    go (Some w) h k =
        let same : tree.number w (numeral_value n) ≡ t = cc in
        rw (← same) (record { value = record { ordered = tt; in_width = written_fits (option_map suffix_width n.suffix) n.minus (numeral_value n) w h } })

-- ---- lists

items_in : (room : ℕ) (ts : List Tree) → Each (IsValueIn room 2) ts → AreItemsOrdered (items_from ts) × HaveNumbersInWidth (items_from ts)
items_in room [] h = (tt, tt)
items_in room (t ∷ ts) h =
    let k = items_in room ts h.1 in
    ((h.0.value.ordered, k.0), (h.0.value.in_width, k.1))

pub list_in : (room : ℕ) (ts : List Tree) → Each (IsValueIn room 2) ts → IsValueIn room 0 (tree.sequence (items_from ts))
list_in room ts h = let k = items_in room ts h in record { value = record { ordered = k.0; in_width = k.1 } }

-- ---- maps

pairs_in : (room : ℕ) (es : List Entry) → Each (Both (IsValueIn room 2)) es → ArePairsOrdered (pairs_from es) × PairsInWidth (pairs_from es)
pairs_in room [] h = (tt, tt)
pairs_in room (e ∷ es) h =
    let k = pairs_in room es h.1 in
    ((h.0.0.value.ordered, h.0.1.value.ordered, k.0), (h.0.0.value.in_width, h.0.1.value.in_width, k.1))

pub map_in : (room : ℕ) (ps : List Entry) → Each (Both (IsValueIn room 2)) ps → IsValueIn room 0 (mapped ps)
map_in room ps h =
    let k = pairs_in room (put_in [] ps) (each-put_in (IsValueIn room 2) [] ps tt h) in
    record { value = record { ordered = (ascends-put_in [] ps ascends-nil, k.0); in_width = k.1 } }

-- ---- a Some, and what holds no values

pub some_in : (room : ℕ) (t : Tree) → IsValueIn room 1 t → IsValueIn room 0 (tree.some t)
some_in room t h = record { value = record { ordered = h.value.ordered; in_width = h.value.in_width } }

-- a field's name beside its value
pub key_in : (room : ℕ) (bs : List ℕ) (t : Tree) → IsValueIn room 2 t → IsValueIn room 2 (tree.text bs)
key_in room bs t h = record { value = record { ordered = tt; in_width = tt } }

-- ---- ranges

module _ (room : ℕ) where
  bound_in : (key t : Tree) → IsValue key → IsValueIn room 0 t → Both (IsValueIn room 2) (key, t)
  bound_in key t h k = (record { value = h }, record { value = k.value })

  text_is : (bs : List ℕ) → IsValue (tree.text bs)
  text_is bs = record { ordered = tt; in_width = tt }

  -- what numbers are that are there
  abbrev In : Option Tree → Type 0
  In o = (u : Tree) → o ≡ Some u → IsValueIn room 0 u

  start_in : (o : Option Tree) (t : Tree) → In o → from_start o ≡ Some t → IsValueIn room 0 t
  start_in None t h e = absurd (cc)
  start_in (Some u) t h e = let same : mapped ((start_key, u) ∷ []) ≡ t = cc in
      rw (← same) (map_in room ((start_key, u) ∷ []) (bound_in start_key u (text_is _) (h u refl), tt))

  end_in : (o : Option Tree) (t : Tree) → In o → to_end o ≡ Some t → IsValueIn room 0 t
  end_in None t h e = absurd (cc)
  end_in (Some u) t h e = let same : mapped ((end_key, u) ∷ []) ≡ t = cc in
      rw (← same) (map_in room ((end_key, u) ∷ []) (bound_in end_key u (text_is _) (h u refl), tt))

  both_in : (o p : Option Tree) (t : Tree) → In o → In p → from_to o p ≡ Some t → IsValueIn room 0 t
  both_in None p t h k e = absurd (cc)
  both_in (Some u) None t h k e = absurd (cc)
  both_in (Some u) (Some v) t h k e =
      let same : mapped ((start_key, u) ∷ (end_key, v) ∷ []) ≡ t = cc in
      rw (← same)
      (map_in room ((start_key, u) ∷ (end_key, v) ∷ []) (bound_in start_key u (text_is _) (h u refl), (bound_in end_key v (text_is _) (k v refl), tt)))

  pub span_in : (s : Interval) (t : Tree) → interval_value s ≡ Some t → IsValueIn room 0 t
  span_in (one n) t e = number_in room n t e
  span_in (range None closed None) t e = let same : tree.unit ≡ t = cc in rw (← same) (record { value = record { ordered = tt; in_width = tt } })
  span_in (range (Some a) closed None) t e = start_in (number_tree a) t (number_in room a) e
  span_in (range None closed (Some b)) t e = end_in (number_tree b) t (number_in room b) e
  span_in (range (Some a) closed (Some b)) t e = both_in (number_tree a) (number_tree b) t (number_in room a) (number_in room b) e
