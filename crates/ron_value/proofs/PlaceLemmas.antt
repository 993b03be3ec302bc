-- What each call of `Map` makes of its entries, by the place of the key.
use Rattle.std.proofs.Common.{◌≡◌, ℕ, zero, suc, ◌<◌, None, Some, Result, Ok, Err, IsOk, subst, [], ◌∷◌, length, get_or, map, Less, Equal, Greater, refl, sym}
use Rattle.std.proofs.Common.{ap, ◌∙◌, arith}
use Rattle.std.specs.Prelude.{slice_set, IsSome, ⊤}
use Rattle.std.specs.List.{AllByRecursion, insert, remove}
use Rattle.std.specs.List.Sorted.{IsStrictlySortedBy}
use Rattle.ron_value.specs.Tree.{pairs_from}
use Rattle.ron_value.specs.Order.{tree_cmp}
use Rattle.ron_value.specs.Ordered.{keys_in}
use Rattle.ron_value.specs.View.{tree_of, pair_tree, value_cmp}
use Rattle.ron_value.specs.Entries.{Entries, value_at, with_entry, without_key, with_value}
use Rattle.ron_value.specs.Lent.{key_place}
use Rattle.ron_value.specs.Place.{IsFoundAt, IsMissingAt, IsPlaceOf}
use Rattle.ron_value.specs.declared.value.Value.{Value}
use Rattle.ron_value.proofs.TreeMaps.{all_above}
use Rattle.ron_value.proofs.OrderedEntries.{AreOrdered}

module _ (k : Value) where
  -- ---- a key that is found

  pub value_at-found : (es : Entries) (i : ℕ) (d : Value × Value) → IsFoundAt k es i → value_at k es ≡ Some (get_or es i d).1
  value_at-found [] i d found = absurd found
  value_at-found (e ∷ es) zero d found = rw found refl
  value_at-found (e ∷ es) (suc i) d found = rw found.0 (value_at-found es i d found.1)

  pub without_key-found : (es : Entries) (i : ℕ) → IsFoundAt k es i → without_key k es ≡ remove es i
  without_key-found [] i found = absurd found
  without_key-found (e ∷ es) zero found = rw found refl
  without_key-found (e ∷ es) (suc i) found = rw found.0 (ap (λ (rest : Entries). e ∷ rest) (without_key-found es i found.1))

  pub with_value-found : (es : Entries) (i : ℕ) (d : Value × Value) (v : Value) → IsFoundAt k es i → with_value k v es ≡ slice_set es i ((get_or es i d).0, v)
  with_value-found [] i d v found = absurd found
  with_value-found (e ∷ es) zero d v found = rw found refl
  with_value-found (e ∷ es) (suc i) d v found = rw found.0 (ap (λ (rest : Entries). e ∷ rest) (with_value-found es i d v found.1))

  pub with_entry-found : (es : Entries) (i : ℕ) (d : Value × Value) (v : Value) → IsFoundAt k es i → with_entry k v es ≡ slice_set es i ((get_or es i d).0, v)
  with_entry-found [] i d v found = absurd found
  with_entry-found (e ∷ es) zero d v found = rw found refl
  with_entry-found (e ∷ es) (suc i) d v found = rw found.0 (ap (λ (rest : Entries). e ∷ rest) (with_entry-found es i d v found.1))

  pub key_place-found : (es : Entries) (i : ℕ) → IsFoundAt k es i → key_place k es ≡ i
  key_place-found [] i found = absurd found
  key_place-found (e ∷ es) zero found = rw found refl
  key_place-found (e ∷ es) (suc i) found = rw found.0 (ap suc (key_place-found es i found.1))

  pub set-key_place : (es : Entries) (i : ℕ) (v : Value) → IsFoundAt k es i
      → slice_set es (key_place k es) ((get_or es (key_place k es) (k, v)).0, v) ≡ with_value k v es
  set-key_place es i v found =
      ap (λ (n : ℕ). slice_set es n ((get_or es n (k, v)).0, v)) (key_place-found es i found) ∙ sym (with_value-found es i (k, v) v found)

  -- ---- a key that is missing

  pub with_entry-missing : (es : Entries) (i : ℕ) (v : Value) → IsMissingAt k es i → with_entry k v es ≡ insert es i (k, v)
  with_entry-missing [] zero v missing = refl
  with_entry-missing [] (suc i) v missing = absurd missing
  with_entry-missing (e ∷ es) zero v missing = rw missing refl
  with_entry-missing (e ∷ es) (suc i) v missing = rw missing.0 (ap (λ (rest : Entries). e ∷ rest) (with_entry-missing es i v missing.1))

  none_above : (es : Entries) → AllByRecursion (λ y. tree_cmp (tree_of k) y ≡ Less) (keys_in (pairs_from (map pair_tree es))) → value_at k es ≡ None
  none_above [] all = refl
  none_above (e ∷ es) all = rw all.0 (none_above es all.1)

  pub value_at-missing : (es : Entries) (i : ℕ) → AreOrdered es → IsMissingAt k es i → value_at k es ≡ None
  unfolding IsStrictlySortedBy
  value_at-missing [] i ordered missing = refl
  value_at-missing (e ∷ es) zero ordered missing =
      rw missing (none_above es (all_above (tree_of k) (tree_of e.0) missing (keys_in (pairs_from (map pair_tree es))) ordered.0.0))
  value_at-missing (e ∷ es) (suc i) ordered missing = rw missing.0 (value_at-missing es i (ordered.0.1, ordered.1.2) missing.1)

  pub without_key-missing : (es : Entries) → value_at k es ≡ None → without_key k es ≡ es
  without_key-missing [] is = refl
  without_key-missing (e ∷ es) is =
      elim (value_cmp k e.0) as (λ o. value_cmp k e.0 ≡ o → without_key k (e ∷ es) ≡ e ∷ es) [
        | Less ↦ λ here. rw here (ap (λ (rest : Entries). e ∷ rest) (without_key-missing es (rw here at is)))
        | Equal ↦ λ here. absurd (let found : Some e.1 ≡ None = rw here at is in cc)
        | Greater ↦ λ here. rw here (ap (λ (rest : Entries). e ∷ rest) (without_key-missing es (rw here at is)))
      ] refl

  -- a key that is there is found
  pub finds : (es : Entries) (r : Result ℕ ℕ) → AreOrdered es → IsSome (value_at k es) → IsPlaceOf k es r → IsOk r
  finds es (Ok i) ordered there place = refl
  finds es (Err i) ordered there place = absurd (let missing : IsSome {T = Value} None = subst IsSome (value_at-missing es i ordered place) there in cc)

  -- ---- a walk that stops at the first key that is not below k

  abbrev pub AreBelow : Entries → ℕ → Type 0
  AreBelow es zero = ⊤
  AreBelow [] (suc i) = ⊥
  AreBelow (e ∷ es) (suc i) = (value_cmp k e.0 ≡ Greater) × AreBelow es i

  pub below_more : (es : Entries) (i : ℕ) (d : Value × Value) → AreBelow es i → i < length es → d ≡ get_or es i d → value_cmp k d.0 ≡ Greater
      → AreBelow es (suc i)
  below_more [] i d below inside is above = absurd (omega arith)
  below_more (e ∷ es) zero d below inside is above = (ap (λ (p : Value × Value). value_cmp k p.0) (sym is) ∙ above, tt)
  below_more (e ∷ es) (suc i) d below inside is above = (below.0, below_more es i d below.1 (omega arith) is above)

  pub found_at : (es : Entries) (i : ℕ) (d : Value × Value) → AreBelow es i → i < length es → d ≡ get_or es i d → value_cmp k d.0 ≡ Equal → IsFoundAt k es i
  found_at [] i d below inside is equal = absurd (omega arith)
  found_at (e ∷ es) zero d below inside is equal = ap (λ (p : Value × Value). value_cmp k p.0) (sym is) ∙ equal
  found_at (e ∷ es) (suc i) d below inside is equal = (below.0, found_at es i d below.1 (omega arith) is equal)
