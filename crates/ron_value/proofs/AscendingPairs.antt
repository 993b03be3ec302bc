-- Pairs whose keys ascend are the entries of their map as they stand: for `Map::from_pairs`.
use Rattle.std.proofs.Common.{◌≡◌, ◌↔◌, ℕ, ◌+◌, ◌<◌, Bool, true, false, [], ◌∷◌, ◌++◌, length, map, get_or, Less, Equal, Greater, refl, sym, ap, ◌∙◌, subst}
use Rattle.std.proofs.Common.{append-nil, append_assoc, arith}
use Rattle.std.specs.Prelude.{IsTrue}
use Rattle.std.specs.declared.cmp.Ordering.{Ordering}
use Rattle.std.specs.Ordering.{ordering_reverse, is_lt}
use Rattle.std.specs.Cmp.{on_total}
use Rattle.std.specs.List.{AllByRecursion, AllAdjacentBelow, IsAllAdjacentAnswer}
use Rattle.std.specs.List.Sorted.{IsStrictlySortedBy}
use Rattle.std.specs.Map.{keys_of}
use Rattle.std.proofs.lemmas.Bool.{false≢true}
use Rattle.std.proofs.lemmas.List.{length-map, get_or-map}
use Rattle.std.proofs.lemmas.Map.Keys.{sorted_from_all_adjacent, Less-from_sorted}
use Rattle.ron_value.specs.declared.value.Value.{Value}
use Rattle.ron_value.specs.Tree.{Tree, pairs_from}
use Rattle.ron_value.specs.Order.{tree_cmp}
use Rattle.ron_value.specs.OrderLaws.{tree_cmp_total}
use Rattle.ron_value.specs.Ordered.{IsOrdered, keys_in}
use Rattle.ron_value.specs.View.{tree_of, pair_tree, entries_tree, value_cmp}
use Rattle.ron_value.specs.Entries.{Entries, ArePartsOrdered, with_entry, with_entries}

-- a key above those of some entries is put behind them
put_last : (k v : Value) (es : Entries) → AllByRecursion (λ y. value_cmp y k ≡ Less) (keys_of es) → with_entry k v es ≡ es ++ (k, v) ∷ []
put_last k v [] below = refl
put_last k v (e ∷ es) below =
    let above : value_cmp k e.0 ≡ Greater = tree_cmp_total.antisymm (tree_of k) (tree_of e.0) ∙ ap ordering_reverse below.0 in
    rw above (ap (λ t. e ∷ t) (put_last k v es below.1))

-- what holds of all keys holds of one among them
holds_at : (P : Value → Type 0) (es : Entries) (p : Value × Value) (ps : Entries) → AllByRecursion P (keys_of (es ++ p ∷ ps)) → P p.0
holds_at P [] p ps all = all.0
holds_at P (e ∷ es) p ps all = holds_at P es p ps all.1

before_below : (es : Entries) (p : Value × Value) (ps : Entries) → IsStrictlySortedBy value_cmp (keys_of (es ++ p ∷ ps))
    → AllByRecursion (λ y. value_cmp y p.0 ≡ Less) (keys_of es)
unfolding IsStrictlySortedBy
before_below [] p ps ascend = tt
before_below (e ∷ es) p ps ascend = (holds_at (λ y. value_cmp e.0 y ≡ Less) es p ps ascend.0, before_below es p ps ascend.1)

put_behind : (ps es : Entries) → IsStrictlySortedBy value_cmp (keys_of (es ++ ps)) → with_entries ps es ≡ es ++ ps
put_behind [] es ascend = sym (append-nil es)
put_behind (p ∷ ps) es ascend =
    let joined : (es ++ p ∷ []) ++ ps ≡ es ++ p ∷ ps = append_assoc es (p ∷ []) ps in
    ap (with_entries ps) (put_last p.0 p.1 es (before_below es p ps ascend))
    ∙ put_behind ps (es ++ p ∷ []) (subst (λ (l : Entries). IsStrictlySortedBy value_cmp (keys_of l)) (sym joined) ascend) ∙ joined

pub put_in_order : (ps : Entries) → IsStrictlySortedBy value_cmp (keys_of ps) → with_entries ps [] ≡ ps
put_in_order ps ascend = put_behind ps [] ascend

-- ---- they ascend where each is below the next

key_at : (es : Entries) (k : ℕ) (d : Value × Value) → k < length es → get_or (keys_of es) k d.0 ≡ (get_or es k d).0
key_at es k d within = get_or-map (λ e. e.0) es k d d.0 within

keys_at : (es : Entries) (k : ℕ) (d : Value × Value) → k + 1 < length es
    → value_cmp (get_or (keys_of es) k d.0) (get_or (keys_of es) (k + 1) d.0) ≡ value_cmp (get_or es k d).0 (get_or es (k + 1) d).0
keys_at es k d within =
    ap (λ x. value_cmp x (get_or (keys_of es) (k + 1) d.0)) (key_at es k d (omega arith)) ∙ ap (value_cmp (get_or es k d).0) (key_at es (k + 1) d within)

less : (o : Ordering) → true ≡ is_lt o → o ≡ Less
less Less e = refl
less Equal e = absurd (false≢true (sym e))
less Greater e = absurd (false≢true (sym e))

ascending : (es : Entries) → AllAdjacentBelow (λ x y. true ≡ is_lt (value_cmp x.0 y.0)) es (length es) → IsStrictlySortedBy value_cmp (keys_of es)
unfolding IsStrictlySortedBy
ascending [] next = tt
ascending (e ∷ es) next =
    sorted_from_all_adjacent (on_total tree_of tree_cmp_total) (keys_of (e ∷ es)) e.0 (λ k inside.
    let within : k + 1 < length (e ∷ es) = omega (arith, length-map (e ∷ es) (λ p. p.0)) in
    keys_at (e ∷ es) k e within ∙ less _ (next k e within))

not_below : (es : Entries) (k : ℕ) → k + 1 < length es → ((d : Value × Value) → false ≡ is_lt (value_cmp (get_or es k d).0 (get_or es (k + 1) d).0))
    → IsStrictlySortedBy value_cmp (keys_of es) → ⊥
not_below [] k within fails ascend = absurd (omega arith)
not_below (e ∷ es) k within fails ascend =
    let below = Less-from_sorted value_cmp (keys_of (e ∷ es)) k (k + 1) e.0 ascend (omega arith) (omega (arith, length-map (e ∷ es) (λ p. p.0))) in
    false≢true (fails e ∙ ap is_lt (sym (keys_at (e ∷ es) k e within) ∙ below))

pub by_neighbours : (es : Entries) (r : Bool) → IsAllAdjacentAnswer (λ x y b. b ≡ is_lt (value_cmp x.0 y.0)) es r
    → IsTrue r ↔ IsStrictlySortedBy value_cmp (keys_of es)
by_neighbours es true next = (λ _. ascending es next, λ _. refl)
by_neighbours es false next = (λ no. absurd (false≢true no), λ ascend. absurd (not_below es next.0 next.1 next.2 ascend))

-- ---- the trees of keys ascend where the keys do

all_keys : (P : Tree → Type 0) (es : Entries) → AllByRecursion P (keys_in (pairs_from (map pair_tree es))) ↔ AllByRecursion (λ k. P (tree_of k)) (keys_of es)
all_keys P [] = (λ _. tt, λ _. tt)
all_keys P (e ∷ es) = let rest = all_keys P es in (λ all. (all.0, rest.0 all.1), λ all. (all.0, rest.1 all.1))

pub trees_ascend : (es : Entries) → IsStrictlySortedBy tree_cmp (keys_in (pairs_from (map pair_tree es))) ↔ IsStrictlySortedBy value_cmp (keys_of es)
unfolding IsStrictlySortedBy
trees_ascend [] = (λ _. tt, λ _. tt)
trees_ascend (e ∷ es) =
    let first = all_keys (λ y. tree_cmp (tree_of e.0) y ≡ Less) es in
    let rest = trees_ascend es in
    (λ sorted. (first.0 sorted.0, rest.0 sorted.1), λ sorted. (first.1 sorted.0, rest.1 sorted.1))

-- such pairs are an ordered map
pub ordered_in_order : (es : Entries) → IsStrictlySortedBy value_cmp (keys_of es) → ArePartsOrdered es → IsOrdered (entries_tree es)
ordered_in_order es ascend parts = ((trees_ascend es).1 ascend, parts)
