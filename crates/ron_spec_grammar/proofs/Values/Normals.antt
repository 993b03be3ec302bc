-- The normal form of a value is a value, no deeper than it, and its own.
use Rattle.std.proofs.Common.{◌≡◌, ℕ, ◌+◌, ◌≤◌, ℤ, pos, int_lt, Bool, true, false, cond, Option, Some, None, refl, arith, List, [], ◌∷◌, ap, ap₂, ◌∙◌}
use Rattle.std.specs.Option.{unwrap_or}
use Rattle.ron_spec_words.proofs.Values.{Each}
use Rattle.ron_value_number.specs.declared.width.Width.{Width}
use Rattle.ron_value_number.specs.Width.{fits}
use Rattle.ron_value_number.specs.Smallest.{smallest_width}
use Rattle.ron_value.specs.Tree.{Tree, pairs_from}
use Rattle.ron_value.specs.Tree as tree
use Rattle.ron_value.specs.Ordered.{AreItemsOrdered, ArePairsOrdered}
use Rattle.ron_spec_grammar.specs.Depth.{least_depth, items_depth, pairs_depth}
use Rattle.ron_spec_grammar.specs.Values.Trees.{IsValue, HaveNumbersInWidth, PairsInWidth, in_smallest_width, lift, lift_items, lift_pairs, normal}
use Rattle.ron_spec_grammar.specs.Values.Trees.{normal_items, normal_pairs, Entry, put_in, mapped}
use Rattle.ron_spec_grammar.proofs.Values.DeepValues.{IsValueIn, map_in, some_in}
use Rattle.ron_spec_grammar.proofs.Values.Facts.{written_fits}
use Rattle.ron_spec_grammar.proofs.Values.Maps.{Both, each-put_in, ascends-put_in, ascends-nil, put_ascending}

-- so many levels further down, where there is room
deeper : (m room k : ℕ) (t : Tree) → IsValueIn m 0 t → m + k ≤ room → IsValueIn room k t
deeper m room k t h le = let low = h.no_deeper in record { value = h.value; no_deeper = omega (arith, low, le) }

number_in : (suffixes : Bool) (w : Width) (n : ℤ) → fits w n ≡ true → IsValueIn 0 0 (cond suffixes (tree.number w n) (in_smallest_width w n))
number_in true w n h = record { value = record { ordered = tt; in_width = h }; no_deeper = omega arith }
number_in false w n h = go (smallest_width (int_lt n (pos 0)) n) refl
  where
    go : (o : Option Width) → smallest_width (int_lt n (pos 0)) n ≡ o → IsValueIn 0 0 (tree.number (unwrap_or o w) n)
    go None e = record { value = record { ordered = tt; in_width = h }; no_deeper = omega arith }
    go (Some v) e = record { value = record { ordered = tt; in_width = written_fits None (int_lt n (pos 0)) n v e }; no_deeper = omega arith }

mutual
  pub normal_in : (suffixes : Bool) (t : Tree) → IsValue t → IsValueIn (least_depth (lift t)) 0 (normal suffixes t)
  normal_in suffixes (tree.boolean b) h = record { value = h; no_deeper = omega arith }
  normal_in suffixes (tree.character c) h = record { value = h; no_deeper = omega arith }
  normal_in suffixes (tree.mapping ps) h = map_in (least_depth (lift (tree.mapping ps))) (normal_pairs suffixes ps)
      (pairs_in suffixes (least_depth (lift (tree.mapping ps))) ps h.ordered.1 h.in_width (omega arith)) (omega arith)
  normal_in suffixes (tree.number w n) h = number_in suffixes w n h.in_width
  normal_in suffixes tree.none h = record { value = h; no_deeper = omega arith }
  normal_in suffixes (tree.some t) h = some_in (least_depth (lift (tree.some t))) (normal suffixes t) (deeper (least_depth (lift t))
      (least_depth (lift (tree.some t))) 1 (normal suffixes t) (normal_in suffixes t (record { ordered = h.ordered; in_width = h.in_width })) (omega arith))
  normal_in suffixes (tree.text bs) h = record { value = h; no_deeper = omega arith }
  normal_in suffixes (tree.bytes bs) h = record { value = h; no_deeper = omega arith }
  normal_in suffixes (tree.sequence ts) h =
      let k = items_in suffixes ts h.ordered h.in_width in
      let low = k.2 in
      record { value = record { ordered = k.0; in_width = k.1 }; no_deeper = omega (arith, low) }
  normal_in suffixes tree.unit h = record { value = h; no_deeper = omega arith }

  items_in : (suffixes : Bool) (ts : tree.Items) → AreItemsOrdered ts → HaveNumbersInWidth ts → AreItemsOrdered (normal_items suffixes ts)
      × HaveNumbersInWidth (normal_items suffixes ts) × (items_depth (lift_items (normal_items suffixes ts)) ≤ items_depth (lift_items ts))
  items_in suffixes tree.no_items o w = (tt, tt, omega arith)
  items_in suffixes (tree.item_and t ts) o w =
      let first = normal_in suffixes t (record { ordered = o.0; in_width = w.0 }) in
      let rest = items_in suffixes ts o.1 w.1 in
      let low = first.no_deeper in
      let low' = rest.2 in
      ((first.value.ordered, rest.0), (first.value.in_width, rest.1), omega (arith, low, low'))

  pairs_in : (suffixes : Bool) (room : ℕ) (ps : tree.Pairs) → ArePairsOrdered ps → PairsInWidth ps → 1 + pairs_depth (lift_pairs ps) ≤ room
      → Each (Both (IsValueIn room 2)) (normal_pairs suffixes ps)
  pairs_in suffixes room tree.no_pairs o w le = tt
  pairs_in suffixes room (tree.pair_and k t ps) o w le = (
    (
      deeper (least_depth (lift k)) room 2 (normal suffixes k) (normal_in suffixes k (record { ordered = o.0; in_width = w.0 })) (omega (arith, le)),
      deeper (least_depth (lift t)) room 2 (normal suffixes t) (normal_in suffixes t (record { ordered = o.1; in_width = w.1 })) (omega (arith, le)),
    ),
    pairs_in suffixes room ps o.2 w.2 (omega (arith, le)),
  )

-- the clause
pub normal_value : (suffixes : Bool) (t : Tree) → IsValue t → IsValue (normal suffixes t) × (least_depth (lift (normal suffixes t)) ≤ least_depth (lift t))
normal_value suffixes t h = let k = normal_in suffixes t h in let low = k.no_deeper in (k.value, omega (arith, low))

-- ---- the normal form of a normal form

-- it is its own normal form
abbrev Normal : Bool → Tree → Type 0
Normal suffixes t = normal suffixes t ≡ t

unwrap_twice : (o : Option Width) (w : Width) → unwrap_or o (unwrap_or o w) ≡ unwrap_or o w
unwrap_twice None w = refl
unwrap_twice (Some v) w = refl

number_normal : (suffixes : Bool) (w : Width) (n : ℤ) → Normal suffixes (cond suffixes (tree.number w n) (in_smallest_width w n))
number_normal true w n = refl
number_normal false w n = ap (λ v. tree.number v n) (unwrap_twice (smallest_width (int_lt n (pos 0)) n) w)

pairs_stay : (suffixes : Bool) (es : List Entry) → Each (Both (Normal suffixes)) es → normal_pairs suffixes (pairs_from es) ≡ es
pairs_stay suffixes [] h = refl
pairs_stay suffixes (e ∷ es) h = ap₂ (λ p l. p ∷ l) (ap₂ (λ a b. (a, b)) h.0.0 h.0.1) (pairs_stay suffixes es h.1)

-- a map of normal pairs is normal
mapped_normal : (suffixes : Bool) (ps : List Entry) → Each (Both (Normal suffixes)) ps → Normal suffixes (mapped ps)
mapped_normal suffixes ps h =
    let es = put_in [] ps in
    ap mapped (pairs_stay suffixes es (each-put_in (Normal suffixes) [] ps tt h))
    ∙ ap (λ l. tree.mapping (pairs_from l)) (put_ascending es (ascends-put_in [] ps ascends-nil))

mutual
  pub normal_twice : (suffixes : Bool) (t : Tree) → Normal suffixes (normal suffixes t)
  normal_twice suffixes (tree.boolean b) = refl
  normal_twice suffixes (tree.character c) = refl
  normal_twice suffixes (tree.mapping ps) = mapped_normal suffixes (normal_pairs suffixes ps) (pairs_twice suffixes ps)
  normal_twice suffixes (tree.number w n) = number_normal suffixes w n
  normal_twice suffixes tree.none = refl
  normal_twice suffixes (tree.some t) = ap tree.some (normal_twice suffixes t)
  normal_twice suffixes (tree.text bs) = refl
  normal_twice suffixes (tree.bytes bs) = refl
  normal_twice suffixes (tree.sequence ts) = ap tree.sequence (items_twice suffixes ts)
  normal_twice suffixes tree.unit = refl

  items_twice : (suffixes : Bool) (ts : tree.Items) → normal_items suffixes (normal_items suffixes ts) ≡ normal_items suffixes ts
  items_twice suffixes tree.no_items = refl
  items_twice suffixes (tree.item_and t ts) = ap₂ tree.item_and (normal_twice suffixes t) (items_twice suffixes ts)

  pairs_twice : (suffixes : Bool) (ps : tree.Pairs) → Each (Both (Normal suffixes)) (normal_pairs suffixes ps)
  pairs_twice suffixes tree.no_pairs = tt
  pairs_twice suffixes (tree.pair_and k t ps) = ((normal_twice suffixes k, normal_twice suffixes t), pairs_twice suffixes ps)
