-- Values that are no deeper than the room: for what is made of values, and not of texts.
use Rattle.std.proofs.Common.{◌≡◌, ℕ, ◌+◌, ◌≤◌, List, [], ◌∷◌, Option, Some, None, option_map, refl, arith}
use Rattle.ron_spec_words.specs.Number.{Numeral, numeral_value}
use Rattle.ron_spec_words.proofs.Values.{Each}
use Rattle.ron_value_number.specs.declared.width.Width.{Width}
use Rattle.ron_value_number.specs.Smallest.{written_width}
use Rattle.ron_value.specs.Tree.{Tree, items_from, pairs_from}
use Rattle.ron_value.specs.Tree as tree
use Rattle.ron_value.specs.Ordered.{AreItemsOrdered, ArePairsOrdered}
use Rattle.ron_spec_grammar.specs.Depth.{least_depth, items_depth, pairs_depth}
use Rattle.ron_spec_grammar.specs.Shapes.Int.{suffix_width}
use Rattle.ron_spec_grammar.specs.Values.Trees.{Entry, put_in, mapped, HaveNumbersInWidth, PairsInWidth, IsValue, lift, lift_items, lift_pairs}
use Rattle.ron_spec_grammar.specs.Values.Grammar.{number_tree}
use Rattle.ron_spec_grammar.proofs.Values.Facts.{written_fits}
use Rattle.ron_spec_grammar.proofs.Values.Maps.{Both, each-put_in, ascends-put_in, ascends-nil}

-- a value, and no deeper than the room, k levels down
pub record IsValueIn (room k : ℕ) (t : Tree) : Type 0 where
  pub value : IsValue t
  pub no_deeper : least_depth (lift t) + k ≤ room

-- ---- numbers

pub number_in : (room : ℕ) (n : Numeral) (t : Tree) → number_tree n ≡ Some t → IsValueIn room 0 t
number_in room n t e = go (written_width (option_map suffix_width n.suffix) n.minus (numeral_value n)) refl e
  where
    go : (o : Option Width) → written_width (option_map suffix_width n.suffix) n.minus (numeral_value n) ≡ o
        → option_map (λ w. tree.number w (numeral_value n)) o ≡ Some t → IsValueIn room 0 t
    go None h k = absurd (cc)
    go (Some w) h k =
        let same : tree.number w (numeral_value n) ≡ t = cc in
        rw (← same) (record {
          value = record { ordered = tt; in_width = written_fits (option_map suffix_width n.suffix) n.minus (numeral_value n) w h };
          no_deeper = omega arith;
        })

-- ---- lists

items_in : (room : ℕ) (ts : List Tree) → Each (IsValueIn room 2) ts
    → AreItemsOrdered (items_from ts) × HaveNumbersInWidth (items_from ts) × (1 ≤ room → 1 + items_depth (lift_items (items_from ts)) ≤ room)
items_in room [] h = (tt, tt, λ le. le)
items_in room (t ∷ ts) h =
    let k = items_in room ts h.1 in
    let low = h.0.no_deeper in
    ((h.0.value.ordered, k.0), (h.0.value.in_width, k.1), λ le. (let w = k.2 le in omega (arith, w, low)))

pub list_in : (room : ℕ) (ts : List Tree) → Each (IsValueIn room 2) ts → 1 ≤ room → IsValueIn room 0 (tree.sequence (items_from ts))
list_in room ts h le = let k = items_in room ts h in let w = k.2 le in record { value = record { ordered = k.0; in_width = k.1 }; no_deeper = omega (arith, w) }

-- ---- maps

pairs_in : (room : ℕ) (es : List Entry) → Each (Both (IsValueIn room 2)) es
    → ArePairsOrdered (pairs_from es) × PairsInWidth (pairs_from es) × (1 ≤ room → 1 + pairs_depth (lift_pairs (pairs_from es)) ≤ room)
pairs_in room [] h = (tt, tt, λ le. le)
pairs_in room (e ∷ es) h =
    let k = pairs_in room es h.1 in
    let low = h.0.0.no_deeper in
    let low' = h.0.1.no_deeper in
    ((h.0.0.value.ordered, h.0.1.value.ordered, k.0), (h.0.0.value.in_width, h.0.1.value.in_width, k.1), λ le. (let w = k.2 le in omega (arith, w, low, low')))

pub map_in : (room : ℕ) (ps : List Entry) → Each (Both (IsValueIn room 2)) ps → 1 ≤ room → IsValueIn room 0 (mapped ps)
map_in room ps h le =
    let k = pairs_in room (put_in [] ps) (each-put_in (IsValueIn room 2) [] ps tt h) in
    let w = k.2 le in
    record { value = record { ordered = (ascends-put_in [] ps ascends-nil, k.0); in_width = k.1 }; no_deeper = omega (arith, w) }

-- ---- a Some, and what holds no values

pub some_in : (room : ℕ) (t : Tree) → IsValueIn room 1 t → IsValueIn room 0 (tree.some t)
some_in room t h = let low = h.no_deeper in record { value = record { ordered = h.value.ordered; in_width = h.value.in_width }; no_deeper = omega (arith, low) }

-- a field's name beside its value
pub key_in : (room : ℕ) (bs : List ℕ) (t : Tree) → IsValueIn room 2 t → IsValueIn room 2 (tree.text bs)
key_in room bs t h = let low = h.no_deeper in record { value = record { ordered = tt; in_width = tt }; no_deeper = omega (arith, low) }
