-- Entries of values stay ordered, since their trees do: for the calls of `Map`.
use Rattle.std.proofs.Common.{◌≡◌, Bool, true, false, cond, ℕ, zero, suc, ◌<◌, List, [], ◌∷◌, length, get_or, map, Less, Equal, Greater, refl, sym, ap, subst}
use Rattle.std.proofs.Common.{arith}
use Rattle.std.specs.Ordering.{match_ordering}
use Rattle.std.specs.List.{AllByRecursion, items_where_true}
use Rattle.std.specs.List.Sorted.{IsStrictlySortedBy}
use Rattle.std.specs.Map.{remove_entry, set_value}
use Rattle.std.specs.BTreeMap.{insert_entry, is_at}
use Rattle.ron_value.specs.Tree.{Tree, pairs_from}
use Rattle.ron_value.specs.Order.{tree_cmp}
use Rattle.ron_value.specs.Ordered.{IsOrdered, keys_in}
use Rattle.ron_value.specs.View.{tree_of, pair_tree, value_cmp, entries_tree}
use Rattle.ron_value.specs.Entries.{Entries, with_entry, without_key, with_value}
use Rattle.ron_value.specs.declared.value.Value.{Value}
use Rattle.ron_value.proofs.TreeMaps.{IsOrderedMap, ordered-insert_entry, ordered-remove_entry, ordered-set_value}

abbrev pub AreOrdered : Entries → Type 0
AreOrdered es = IsOrdered (entries_tree es)

-- ---- the trees of changed entries are the changed trees

trees-with_entry : (k v : Value) (es : Entries) → map pair_tree (with_entry k v es) ≡ insert_entry tree_cmp (map pair_tree es) (tree_of k) (tree_of v)
trees-with_entry k v [] = refl
trees-with_entry k v (e ∷ es) =
    elim (value_cmp k e.0) as (λ o. map pair_tree (match_ordering o ((k, v) ∷ e ∷ es) ((e.0, v) ∷ es) (e ∷ with_entry k v es))
    ≡ match_ordering o ((tree_of k, tree_of v) ∷ map pair_tree (e ∷ es)) ((tree_of e.0, tree_of v) ∷ map pair_tree es)
    (pair_tree e ∷ insert_entry tree_cmp (map pair_tree es) (tree_of k) (tree_of v))) [
      | Less ↦ refl
      | Equal ↦ refl
      | Greater ↦ ap (λ ts. pair_tree e ∷ ts) (trees-with_entry k v es)
    ]

trees-without_key : (k : Value) (es : Entries) → map pair_tree (without_key k es) ≡ remove_entry (is_at (tree_cmp (tree_of k))) (map pair_tree es)
trees-without_key k [] = refl
trees-without_key k (e ∷ es) =
    elim (is_at (value_cmp k) e.0) as (λ b. map pair_tree (cond b es (e ∷ without_key k es))
    ≡ cond b (map pair_tree es) (pair_tree e ∷ remove_entry (is_at (tree_cmp (tree_of k))) (map pair_tree es))) [
      | true ↦ refl
      | false ↦ ap (λ ts. pair_tree e ∷ ts) (trees-without_key k es)
    ]

trees-with_value : (k v : Value) (es : Entries) → map pair_tree (with_value k v es) ≡ set_value (is_at (tree_cmp (tree_of k))) (map pair_tree es) (tree_of v)
trees-with_value k v [] = refl
trees-with_value k v (e ∷ es) =
    elim (is_at (value_cmp k) e.0) as (λ b. map pair_tree (cond b ((e.0, v) ∷ es) (e ∷ with_value k v es))
    ≡ cond b ((tree_of e.0, tree_of v) ∷ map pair_tree es) (pair_tree e ∷ set_value (is_at (tree_cmp (tree_of k))) (map pair_tree es) (tree_of v))) [
      | true ↦ refl
      | false ↦ ap (λ ts. pair_tree e ∷ ts) (trees-with_value k v es)
    ]

-- ---- so they stay ordered

pub AreOrdered-with_entry : (k v : Value) (es : Entries) → AreOrdered es → IsOrdered (tree_of k) → IsOrdered (tree_of v) → AreOrdered (with_entry k v es)
AreOrdered-with_entry k v es ordered key value =
    subst IsOrderedMap (sym (trees-with_entry k v es)) (ordered-insert_entry (tree_of k) (tree_of v) (map pair_tree es) ordered key value)

pub AreOrdered-without_key : (k : Value) (es : Entries) → AreOrdered es → AreOrdered (without_key k es)
AreOrdered-without_key k es ordered =
    subst IsOrderedMap (sym (trees-without_key k es)) (ordered-remove_entry (is_at (tree_cmp (tree_of k))) (map pair_tree es) ordered)

pub AreOrdered-with_value : (k v : Value) (es : Entries) → AreOrdered es → IsOrdered (tree_of v) → AreOrdered (with_value k v es)
AreOrdered-with_value k v es ordered value =
    subst IsOrderedMap (sym (trees-with_value k v es)) (ordered-set_value (is_at (tree_cmp (tree_of k))) (tree_of v) (map pair_tree es) ordered value)

-- ---- some of the entries

all-items_where_true : (P : Tree → Type 0) (bs : List Bool) (es : Entries) → AllByRecursion P (keys_in (pairs_from (map pair_tree es)))
    → AllByRecursion P (keys_in (pairs_from (map pair_tree (items_where_true bs es))))
all-items_where_true P [] es all = tt
all-items_where_true P (b ∷ bs) [] all = tt
all-items_where_true P (true ∷ bs) (e ∷ es) all = (all.0, all-items_where_true P bs es all.1)
all-items_where_true P (false ∷ bs) (e ∷ es) all = all-items_where_true P bs es all.1

pub AreOrdered-items_where_true : (bs : List Bool) (es : Entries) → AreOrdered es → AreOrdered (items_where_true bs es)
unfolding IsStrictlySortedBy
AreOrdered-items_where_true [] es ordered = (tt, tt)
AreOrdered-items_where_true (b ∷ bs) [] ordered = (tt, tt)
AreOrdered-items_where_true (true ∷ bs) (e ∷ es) ordered =
    let rest = AreOrdered-items_where_true bs es (ordered.0.1, ordered.1.2) in
    ((all-items_where_true (λ y. tree_cmp (tree_of e.0) y ≡ Less) bs es ordered.0.0, rest.0), (ordered.1.0, ordered.1.1, rest.1))
AreOrdered-items_where_true (false ∷ bs) (e ∷ es) ordered = AreOrdered-items_where_true bs es (ordered.0.1, ordered.1.2)

pub AreOrdered-nil : AreOrdered []
unfolding IsStrictlySortedBy
AreOrdered-nil = (tt, tt)

-- the value of each entry is ordered
pub IsOrdered-value : (es : Entries) (i : ℕ) (d : Value × Value) → AreOrdered es → i < length es → d ≡ get_or es i d → IsOrdered (tree_of d.1)
unfolding IsStrictlySortedBy
IsOrdered-value [] i d ordered inside is = absurd (omega arith)
IsOrdered-value (e ∷ es) zero d ordered inside is = subst (λ (p : Value × Value). IsOrdered (tree_of p.1)) (sym is) ordered.1.1
IsOrdered-value (e ∷ es) (suc i) d ordered inside is = IsOrdered-value es i d (ordered.0.1, ordered.1.2) (omega arith) is
