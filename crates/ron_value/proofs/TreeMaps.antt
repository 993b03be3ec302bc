-- What a new entry, one taken out and a written value do to pairs of trees in order: for `Map` here and for maps in `ron_spec_grammar`.
use Rattle.std.proofs.Common.{◌≡◌, Bool, true, false, cond, List, [], ◌∷◌, Less, Equal, Greater, refl, sym, ap, ◌∙◌, subst}
use Rattle.std.specs.Ordering.{ordering_reverse, match_ordering}
use Rattle.std.specs.List.{AllByRecursion}
use Rattle.std.specs.List.Sorted.{IsStrictlySortedBy}
use Rattle.std.specs.Map.{remove_entry, set_value}
use Rattle.std.specs.BTreeMap.{insert_entry}
use Rattle.ron_value.specs.Tree.{Tree, mapping, pairs_from}
use Rattle.ron_value.specs.Order.{tree_cmp}
use Rattle.ron_value.specs.OrderLaws.{tree_cmp_total}
use Rattle.ron_value.specs.Ordered.{IsOrdered, ArePairsOrdered, keys_in}

abbrev pub TreeEntries : Type 0
TreeEntries = List (Tree × Tree)

abbrev keys : TreeEntries → List Tree
keys es = keys_in (pairs_from es)

abbrev AreSorted : List Tree → Type 0
AreSorted ks = IsStrictlySortedBy tree_cmp ks

abbrev pub IsOrderedMap : TreeEntries → Type 0
IsOrderedMap es = IsOrdered (mapping (pairs_from es))

-- ---- a fact of each key

all-insert_entry : (P : Tree → Type 0) (k v : Tree) (es : TreeEntries) → AllByRecursion P (keys es) → P k
    → AllByRecursion P (keys (insert_entry tree_cmp es k v))
all-insert_entry P k v [] all here = (here, tt)
all-insert_entry P k v (e ∷ es) all here =
    elim (tree_cmp k e.0) as (λ o. AllByRecursion P (keys (match_ordering o ((k, v) ∷ e ∷ es) ((e.0, v) ∷ es) (e ∷ insert_entry tree_cmp es k v)))) [
      | Less ↦ (here, all)
      | Equal ↦ all
      | Greater ↦ (all.0, all-insert_entry P k v es all.1 here)
    ]

all-remove_entry : (P : Tree → Type 0) (test : Tree → Bool) (es : TreeEntries) → AllByRecursion P (keys es) → AllByRecursion P (keys (remove_entry test es))
all-remove_entry P test [] all = all
all-remove_entry P test (e ∷ es) all =
    elim (test e.0) as (λ b. AllByRecursion P (keys (cond b es (e ∷ remove_entry test es)))) [
      | true ↦ all.1
      | false ↦ (all.0, all-remove_entry P test es all.1)
    ]

-- what is below a key is below all keys above it
pub all_above : (k e : Tree) → tree_cmp k e ≡ Less → (ks : List Tree) → AllByRecursion (λ y. tree_cmp e y ≡ Less) ks
    → AllByRecursion (λ y. tree_cmp k y ≡ Less) ks
all_above k e below [] all = tt
all_above k e below (y ∷ ks) all = (tree_cmp_total.trans k e y below all.0, all_above k e below ks all.1)

-- ---- the keys stay in order

pub sorted-insert_entry : (k v : Tree) (es : TreeEntries) → AreSorted (keys es) → AreSorted (keys (insert_entry tree_cmp es k v))
unfolding IsStrictlySortedBy
sorted-insert_entry k v [] sorted = (tt, tt)
sorted-insert_entry k v (e ∷ es) sorted =
    elim (tree_cmp k e.0)
    as (λ o. tree_cmp k e.0 ≡ o → AreSorted (keys (match_ordering o ((k, v) ∷ e ∷ es) ((e.0, v) ∷ es) (e ∷ insert_entry tree_cmp es k v)))) [
      | Less ↦ λ below. ((below, all_above k e.0 below (keys es) sorted.0), sorted)
      | Equal ↦ λ _. sorted
      | Greater ↦ λ above. (
        all-insert_entry (λ y. tree_cmp e.0 y ≡ Less) k v es sorted.0 (tree_cmp_total.antisymm e.0 k ∙ ap ordering_reverse above),
        sorted-insert_entry k v es sorted.1,
      )
    ] refl

sorted-remove_entry : (test : Tree → Bool) (es : TreeEntries) → AreSorted (keys es) → AreSorted (keys (remove_entry test es))
unfolding IsStrictlySortedBy
sorted-remove_entry test [] sorted = sorted
sorted-remove_entry test (e ∷ es) sorted =
    elim (test e.0) as (λ b. AreSorted (keys (cond b es (e ∷ remove_entry test es)))) [
      | true ↦ sorted.1
      | false ↦ (all-remove_entry (λ y. tree_cmp e.0 y ≡ Less) test es sorted.0, sorted-remove_entry test es sorted.1)
    ]

keys-set_value : (test : Tree → Bool) (es : TreeEntries) (w : Tree) → keys (set_value test es w) ≡ keys es
keys-set_value test [] w = refl
keys-set_value test (e ∷ es) w =
    elim (test e.0) as (λ b. keys (cond b ((e.0, w) ∷ es) (e ∷ set_value test es w)) ≡ keys (e ∷ es)) [
      | true ↦ refl
      | false ↦ ap (λ ks. e.0 ∷ ks) (keys-set_value test es w)
    ]

-- ---- and so does what stands inside

parts-insert_entry : (k v : Tree) (es : TreeEntries) → IsOrdered k → IsOrdered v → ArePairsOrdered (pairs_from es)
    → ArePairsOrdered (pairs_from (insert_entry tree_cmp es k v))
parts-insert_entry k v [] key value parts = (key, value, tt)
parts-insert_entry k v (e ∷ es) key value parts =
    elim (tree_cmp k e.0) as (λ o. ArePairsOrdered (pairs_from (match_ordering o ((k, v) ∷ e ∷ es) ((e.0, v) ∷ es) (e ∷ insert_entry tree_cmp es k v)))) [
      | Less ↦ (key, value, parts)
      | Equal ↦ (parts.0, value, parts.2)
      | Greater ↦ (parts.0, parts.1, parts-insert_entry k v es key value parts.2)
    ]

parts-remove_entry : (test : Tree → Bool) (es : TreeEntries) → ArePairsOrdered (pairs_from es) → ArePairsOrdered (pairs_from (remove_entry test es))
parts-remove_entry test [] parts = parts
parts-remove_entry test (e ∷ es) parts =
    elim (test e.0) as (λ b. ArePairsOrdered (pairs_from (cond b es (e ∷ remove_entry test es)))) [
      | true ↦ parts.2
      | false ↦ (parts.0, parts.1, parts-remove_entry test es parts.2)
    ]

parts-set_value : (test : Tree → Bool) (w : Tree) (es : TreeEntries) → IsOrdered w → ArePairsOrdered (pairs_from es)
    → ArePairsOrdered (pairs_from (set_value test es w))
parts-set_value test w [] value parts = parts
parts-set_value test w (e ∷ es) value parts =
    elim (test e.0) as (λ b. ArePairsOrdered (pairs_from (cond b ((e.0, w) ∷ es) (e ∷ set_value test es w)))) [
      | true ↦ (parts.0, value, parts.2)
      | false ↦ (parts.0, parts.1, parts-set_value test w es value parts.2)
    ]

-- ---- so a map stays ordered

pub ordered-insert_entry : (k v : Tree) (es : TreeEntries) → IsOrderedMap es → IsOrdered k → IsOrdered v → IsOrderedMap (insert_entry tree_cmp es k v)
ordered-insert_entry k v es map key value = (sorted-insert_entry k v es map.0, parts-insert_entry k v es key value map.1)

pub ordered-remove_entry : (test : Tree → Bool) (es : TreeEntries) → IsOrderedMap es → IsOrderedMap (remove_entry test es)
ordered-remove_entry test es map = (sorted-remove_entry test es map.0, parts-remove_entry test es map.1)

pub ordered-set_value : (test : Tree → Bool) (w : Tree) (es : TreeEntries) → IsOrderedMap es → IsOrdered w → IsOrderedMap (set_value test es w)
ordered-set_value test w es map value = (subst AreSorted (sym (keys-set_value test es w)) map.0, parts-set_value test w es value map.1)
