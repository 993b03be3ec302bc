-- Maps of values: what holds of each pair holds of the map of them, its keys ascend, and pairs whose keys ascend stay as they are.
use Rattle.std.proofs.Common.{◌≡◌, List, [], ◌∷◌, ◌++◌, Less, Equal, Greater, refl, sym, ap, ◌∙◌, subst, append_assoc, append-nil}
use Rattle.std.specs.Ordering.{ordering_reverse, match_ordering}
use Rattle.std.specs.List.{AllByRecursion}
use Rattle.std.specs.List.Sorted.{IsStrictlySortedBy}
use Rattle.std.specs.BTreeMap.{insert_entry}
use Rattle.ron_spec_words.proofs.Values.{Each}
use Rattle.ron_value.specs.Tree.{Tree, pairs_from}
use Rattle.ron_value.specs.Order.{tree_cmp}
use Rattle.ron_value.specs.OrderLaws.{tree_cmp_total}
use Rattle.ron_value.specs.Ordered.{keys_in}
use Rattle.ron_value.proofs.TreeMaps.{sorted-insert_entry}
use Rattle.ron_spec_grammar.specs.Values.Trees.{Entry, put_in}

-- the keys ascend
abbrev pub Ascends : List Entry → Type 0
Ascends es = IsStrictlySortedBy tree_cmp (keys_in (pairs_from es))

-- a fact of the key and of the value
abbrev pub Both : (Tree → Type 0) → Entry → Type 0
Both P p = P p.0 × P p.1

-- ---- what holds of each pair

module _ (P : Tree → Type 0) where
  each-insert_entry : (k v : Tree) (es : List Entry) → P k → P v → Each (Both P) es → Each (Both P) (insert_entry tree_cmp es k v)
  each-insert_entry k v [] key value h = ((key, value), tt)
  each-insert_entry k v (e ∷ es) key value h =
      elim (tree_cmp k e.0) as (λ o. Each (Both P) (match_ordering o ((k, v) ∷ e ∷ es) ((e.0, v) ∷ es) (e ∷ insert_entry tree_cmp es k v))) [
        | Less ↦ ((key, value), h)
        | Equal ↦ ((h.0.0, value), h.1)
        | Greater ↦ (h.0, each-insert_entry k v es key value h.1)
      ]

  pub each-put_in : (es ps : List Entry) → Each (Both P) es → Each (Both P) ps → Each (Both P) (put_in es ps)
  each-put_in es [] h k = h
  each-put_in es (p ∷ ps) h k = each-put_in (insert_entry tree_cmp es p.0 p.1) ps (each-insert_entry p.0 p.1 es k.0.0 k.0.1 h) k.1

-- ---- the keys ascend

pub ascends-put_in : (es ps : List Entry) → Ascends es → Ascends (put_in es ps)
ascends-put_in es [] h = h
ascends-put_in es (p ∷ ps) h = ascends-put_in (insert_entry tree_cmp es p.0 p.1) ps (sorted-insert_entry p.0 p.1 es h)

pub ascends-nil : Ascends []
unfolding IsStrictlySortedBy
ascends-nil = tt

-- ---- pairs whose keys ascend stay

below_middle : (k : Tree) (es : List Entry) (e : Entry) (more : List Entry) → AllByRecursion (λ y. tree_cmp k y ≡ Less) (keys_in (pairs_from (es ++ e ∷ more)))
    → tree_cmp k e.0 ≡ Less
below_middle k [] e more h = h.0
below_middle k (x ∷ es) e more h = below_middle k es e more h.1

-- a key above those before it goes last
insert_last : (es : List Entry) (e : Entry) (more : List Entry) → Ascends (es ++ e ∷ more) → insert_entry tree_cmp es e.0 e.1 ≡ es ++ e ∷ []
unfolding IsStrictlySortedBy
insert_last [] e more h = refl
insert_last (x ∷ es) e more h =
    let above : tree_cmp e.0 x.0 ≡ Greater = tree_cmp_total.antisymm e.0 x.0 ∙ ap ordering_reverse (below_middle x.0 es e more h.0) in
    rw above (ap (λ l. x ∷ l) (insert_last es e more h.1))

put_behind : (es ps : List Entry) → Ascends (es ++ ps) → put_in es ps ≡ es ++ ps
put_behind es [] h = sym (append-nil es)
put_behind es (p ∷ ps) h =
    let e : (es ++ p ∷ []) ++ ps ≡ es ++ p ∷ ps = append_assoc es (p ∷ []) ps in
    ap (λ l. put_in l ps) (insert_last es p ps h) ∙ put_behind (es ++ p ∷ []) ps (subst Ascends (sym e) h) ∙ e

pub put_ascending : (ps : List Entry) → Ascends ps → put_in [] ps ≡ ps
put_ascending ps h = put_behind [] ps h
