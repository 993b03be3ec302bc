-- What a binary search answers is where the key stands, or where it belongs: for `probe`.
use Rattle.std.proofs.Common.{◌≡◌, ℕ, zero, suc, ◌+◌, ◌<◌, ◌≤◌, subst, Ordering, [], ◌∷◌, length, get_or, map, Less, Equal, Greater, refl, sym, ap, ◌∙◌, arith}
use Rattle.std.proofs.lemmas.List.{get_or_default}
use Rattle.std.proofs.lemmas.Cmp.{tied_back, alike_right}
use Rattle.std.specs.Ordering.{ordering_index, ordering_reverse}
use Rattle.std.specs.List.{AllByRecursion, AllWithin, HoldsAt}
use Rattle.std.specs.List.Sorted.{IsStrictlySortedBy, IsNonDecreasingBy}
use Rattle.ron_value.specs.Tree.{Tree, pairs_from}
use Rattle.ron_value.specs.Order.{tree_cmp}
use Rattle.ron_value.specs.OrderLaws.{tree_cmp_total}
use Rattle.ron_value.specs.Ordered.{keys_in}
use Rattle.ron_value.specs.View.{tree_of, pair_tree, value_cmp}
use Rattle.ron_value.specs.Entries.{Entries}
use Rattle.ron_value.specs.Place.{IsFoundAt, IsMissingAt}
use Rattle.ron_value.specs.declared.value.Value.{Value}
use Rattle.ron_value.proofs.OrderedEntries.{AreOrdered}

all_at : (P : Tree → Type 0) (es : Entries) (i : ℕ) (d : Value × Value) → AllByRecursion P (keys_in (pairs_from (map pair_tree es))) → i < length es
    → P (tree_of (get_or es i d).0)
all_at P [] i d all inside = absurd (omega arith)
all_at P (e ∷ es) zero d all inside = all.0
all_at P (e ∷ es) (suc i) d all inside = all_at P es i d all.1 (omega arith)

module _ (k : Value) where
  above : (a : Tree) → tree_cmp a (tree_of k) ≡ Less → tree_cmp (tree_of k) a ≡ Greater
  above a less = tree_cmp_total.antisymm (tree_of k) a ∙ ap ordering_reverse less

  below : (a : Tree) → tree_cmp a (tree_of k) ≡ Greater → tree_cmp (tree_of k) a ≡ Less
  below a greater = tree_cmp_total.antisymm (tree_of k) a ∙ ap ordering_reverse greater

  pub found : (es : Entries) (i : ℕ) → AreOrdered es → i < length es → HoldsAt (λ y. value_cmp y.0 k ≡ Equal) es i → IsFoundAt k es i
  unfolding IsStrictlySortedBy
  found [] i ordered inside holds = absurd (omega arith)
  found (e ∷ es) zero ordered inside holds = tied_back tree_cmp_total (tree_of e.0) (tree_of k) (holds e)
  found (e ∷ es) (suc i) ordered inside holds =
      let y = tree_of (get_or es i e).0 in
      let less : tree_cmp (tree_of e.0) y ≡ Less = all_at (λ t. tree_cmp (tree_of e.0) t ≡ Less) es i e ordered.0.0 (omega arith) in
      let same : tree_cmp (tree_of e.0) y ≡ tree_cmp (tree_of e.0) (tree_of k) = alike_right tree_cmp_total y (tree_of k) (tree_of e.0) (holds e) in
      (above (tree_of e.0) (sym same ∙ less), found es i (ordered.0.1, ordered.1.2) (omega arith) (λ d. holds d))

  pub missing : (es : Entries) (i : ℕ) → i ≤ length es → AllWithin (λ y. value_cmp y.0 k ≡ Less) es 0 i
      → AllWithin (λ y. value_cmp y.0 k ≡ Greater) es i (length es) → IsMissingAt k es i
  missing [] zero inside before behind = tt
  missing [] (suc i) inside before behind = absurd (omega arith)
  missing (e ∷ es) zero inside before behind = below (tree_of e.0) (behind 0 e (omega arith) (omega arith))
  missing (e ∷ es) (suc i) inside before behind = (
    above (tree_of e.0) (before 0 e (omega arith) (omega arith)),
    missing es i (omega arith) (λ j d low high. before (suc j) d (omega arith) (omega arith)) (λ j d low high. behind (suc j) d (omega arith) (omega arith)),
  )

  rises : (a y : Tree) → tree_cmp a y ≡ Less → ordering_index (tree_cmp a (tree_of k)) ≤ ordering_index (tree_cmp y (tree_of k))
  rises a y less =
      elim (tree_cmp y (tree_of k)) as (λ o. tree_cmp y (tree_of k) ≡ o → ordering_index (tree_cmp a (tree_of k)) ≤ ordering_index o) [
        | Less ↦ λ e. let lower : tree_cmp a (tree_of k) ≡ Less = tree_cmp_total.trans a y (tree_of k) less e in rw lower (omega arith)
        | Equal ↦ λ e. let lower : tree_cmp a (tree_of k) ≡ Less = sym (alike_right tree_cmp_total y (tree_of k) a e) ∙ less in rw lower (omega arith)
        | Greater ↦ λ e. elim (tree_cmp a (tree_of k)) as (λ o. ordering_index o ≤ 2) [ Less ↦ omega arith | Equal ↦ omega arith | Greater ↦ omega arith ]
      ] refl

  rising : (es : Entries) → AreOrdered es → IsNonDecreasingBy (λ y. ordering_index (value_cmp y.0 k)) es
  unfolding IsStrictlySortedBy
  rising [] ordered i j d up inside = absurd (omega arith)
  rising (e ∷ es) ordered zero zero d up inside = omega arith
  rising (e ∷ es) ordered zero (suc j) d up inside =
      rises (tree_of e.0) (tree_of (get_or es j d).0) (all_at (λ t. tree_cmp (tree_of e.0) t ≡ Less) es j d ordered.0.0 (omega arith))
  rising (e ∷ es) ordered (suc i) zero d up inside = absurd (omega arith)
  rising (e ∷ es) ordered (suc i) (suc j) d up inside = rising es (ordered.0.1, ordered.1.2) i j d (omega arith) (omega arith)

  least : (o : Ordering) → ordering_index o ≤ ordering_index Less → o ≡ Less
  least Less low = refl
  least o low = absurd (omega arith)

  most : (o : Ordering) → ordering_index Greater ≤ ordering_index o → o ≡ Greater
  most Greater high = refl
  most o high = absurd (omega arith)

  -- what was read at a place stands there
  pub seen : (o : Ordering) (es : Entries) (i : ℕ) (e : Value × Value) → i < length es → value_cmp (get_or es i e).0 k ≡ o
      → HoldsAt (λ y. value_cmp y.0 k ≡ o) es i
  seen o es i e inside is d = ap (λ (p : Value × Value). value_cmp p.0 k) (get_or_default es i d e inside) ∙ is

  -- where a key is below k, so is each before it
  pub below_before : (es : Entries) (i : ℕ) → AreOrdered es → i < length es → HoldsAt (λ y. value_cmp y.0 k ≡ Less) es i
      → AllWithin (λ y. value_cmp y.0 k ≡ Less) es 0 (i + 1)
  below_before es i ordered inside here j d low high = least (value_cmp (get_or es j d).0 k)
      (subst (λ o. ordering_index (value_cmp (get_or es j d).0 k) ≤ ordering_index o) (here d) (rising es ordered j i d (omega arith) inside))

  -- where a key is above k, so is each behind it
  pub above_behind : (es : Entries) (i : ℕ) → AreOrdered es → i < length es → HoldsAt (λ y. value_cmp y.0 k ≡ Greater) es i
      → AllWithin (λ y. value_cmp y.0 k ≡ Greater) es i (length es)
  above_behind es i ordered inside here j d low high = most (value_cmp (get_or es j d).0 k)
      (subst (λ o. ordering_index o ≤ ordering_index (value_cmp (get_or es j d).0 k)) (here d) (rising es ordered i j d low high))
