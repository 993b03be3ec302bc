-- Entries that are put in one by one, and where each key is found: for `places` and `put_at` of `pairs.rt`.
use Rattle.std.proofs.Common.{◌≡◌, ◌≤◌, ◌<◌, ◌+◌, ℕ, suc, Bool, true, false, cond, List, [], ◌∷◌, ◌++◌, length, get_or, set, Option, Some, None, refl, sym, ap}
use Rattle.std.proofs.Common.{◌∙◌, arith}
use Rattle.std.specs.declared.cmp.Ordering.{Ordering}
use Rattle.std.specs.declared.cmp.Ordering.TheVariants.{Less, Equal, Greater}
use Rattle.std.specs.Option.{is_some, option_map, unwrap_or}
use Rattle.std.specs.Cmp.{IsTotalOrder, Equal-is}
use Rattle.std.specs.Ordering.{is_eq, ordering_reverse}
use Rattle.std.specs.Borrow.{Bor}
use Rattle.std.specs.BTreeMap.{BTreeMap, btree_map_len, get, Updates}
use Rattle.std.specs.List.{All}
use Rattle.std.proofs.lemmas.List.{append_assoc}
use Rattle.std.proofs.lemmas.List.Elements.{All-cons, All-head, All-tail}
use Rattle.ron_data.specs.Pairs.{place_in, places_in, with_entry, with_entries}

is_eq-reverse : (o : Ordering) → is_eq (ordering_reverse o) ≡ is_eq o
is_eq-reverse Less = refl
is_eq-reverse Equal = refl
is_eq-reverse Greater = refl

pub only_Equal : (o : Ordering) → o ≡ ordering_reverse o → is_eq o ≡ true
only_Equal Less e = absurd (cc)
only_Equal Equal e = refl
only_Equal Greater e = absurd (cc)

-- borrowed keys compare as the keys do
abbrev pub borrowed_cmp : {K : Type 0} → (K → K → Ordering) → Bor K → Bor K → Ordering
borrowed_cmp R k l = R k.now l.now

-- a key that takes another place in a tree and then its own one again
placed_again : {K : Type 0} (R : K → K → Ordering) (tree between next : BTreeMap (Bor K) ℕ) (key k : Bor K) (other place : ℕ)
    → Updates (borrowed_cmp R) tree between key (Some other) → Updates (borrowed_cmp R) between next key (Some place)
    → get (borrowed_cmp R) next k ≡ cond (is_eq (R key.now k.now)) (Some place) (get (borrowed_cmp R) tree k)
placed_again R tree between next key k other place one two = two.0 k ∙ ap (cond (is_eq (R key.now k.now)) (Some place)) (one.0 k) ∙ go (is_eq (R key.now k.now))
  where
    go : (b : Bool) → cond b (Some place) (cond b (Some other) (get (borrowed_cmp R) tree k)) ≡ cond b (Some place) (get (borrowed_cmp R) tree k)
    go true = refl
    go false = refl

module _ {K V : Type 0} (R : K → K → Ordering) where
  -- ---- one entry at its place

  pub place_within : (k : K) (es : List (K × V)) → place_in R k es ≤ length es
  place_within k [] = omega arith
  place_within k (e ∷ es) = go (is_eq (R k e.0)) (place_within k es)
    where
      go : (b : Bool) → place_in R k es ≤ length es → cond b 0 (suc (place_in R k es)) ≤ suc (length es)
      go true h = omega arith
      go false h = omega (arith, h)

  pub put_new : (es : List (K × V)) (p : K × V) → place_in R p.0 es ≡ length es → es ++ p ∷ [] ≡ with_entry R es p
  put_new [] p h = refl
  put_new (e ∷ es) p h = go (is_eq (R p.0 e.0)) (put_new es p) h
    where
      go : (b : Bool) → (place_in R p.0 es ≡ length es → es ++ p ∷ [] ≡ with_entry R es p) → cond b 0 (suc (place_in R p.0 es)) ≡ suc (length es)
          → e ∷ (es ++ p ∷ []) ≡ cond b ((e.0, p.1) ∷ es) (e ∷ with_entry R es p)
      go true later t = absurd (omega (arith, t))
      go false later t = ap (λ rest. e ∷ rest) (later (omega (arith, t)))

  pub put_again : (es : List (K × V)) (p e : K × V) → place_in R p.0 es < length es → e ≡ get_or es (place_in R p.0 es) e
      → set es (place_in R p.0 es) (e.0, p.1) ≡ with_entry R es p
  put_again [] p e lt at = absurd (omega (arith, lt))
  put_again (d ∷ es) p e lt at = go (is_eq (R p.0 d.0)) (put_again es p e) lt at
    where
      go : (b : Bool) → (place_in R p.0 es < length es → e ≡ get_or es (place_in R p.0 es) e → set es (place_in R p.0 es) (e.0, p.1) ≡ with_entry R es p)
          → cond b 0 (suc (place_in R p.0 es)) < suc (length es) → e ≡ get_or (d ∷ es) (cond b 0 (suc (place_in R p.0 es))) e
          → set (d ∷ es) (cond b 0 (suc (place_in R p.0 es))) (e.0, p.1) ≡ cond b ((d.0, p.1) ∷ es) (d ∷ with_entry R es p)
      go true later t q = ap (λ (x : K × V). (x.0, p.1) ∷ es) q
      go false later t q = ap (λ rest. d ∷ rest) (later (omega (arith, t)) q)

  -- ---- what holds of all entries

  module _ (P : K × V → Type 0) (mix : (e p : K × V) → P e → P p → P (e.0, p.1)) where
    one_keeps : (es : List (K × V)) (p : K × V) → All P es → P p → All P (with_entry R es p)
    one_keeps [] p h q = All-cons P p [] q h
    one_keeps (e ∷ es) p h q = go (is_eq (R p.0 e.0)) (one_keeps es p (All-tail P e es h) q)
      where
        go : (b : Bool) → All P (with_entry R es p) → All P (cond b ((e.0, p.1) ∷ es) (e ∷ with_entry R es p))
        go true later = All-cons P (e.0, p.1) es (mix e p (All-head P e es h) q) (All-tail P e es h)
        go false later = All-cons P e (with_entry R es p) (All-head P e es h) later

    pub all_keep : (es ps : List (K × V)) → All P es → All P ps → All P (with_entries R es ps)
    all_keep es [] h k = h
    all_keep es (p ∷ ps) h k = all_keep (with_entry R es p) ps (one_keeps es p h (All-head P p ps k)) (All-tail P p ps k)

  -- ---- where a key is found

  abbrev pub found_at : K → List (K × V) → Option ℕ
  found_at k [] = None
  found_at k (e ∷ es) = cond (is_eq (R k e.0)) (Some 0) (option_map suc (found_at k es))

  pub place_is : (k : K) (es : List (K × V)) → unwrap_or (found_at k es) (length es) ≡ place_in R k es
  place_is k [] = refl
  place_is k (e ∷ es) = go (is_eq (R k e.0)) (found_at k es) (place_is k es)
    where
      go : (b : Bool) (o : Option ℕ) → unwrap_or o (length es) ≡ place_in R k es
          → unwrap_or (cond b (Some 0) (option_map suc o)) (suc (length es)) ≡ cond b 0 (suc (place_in R k es))
      go true o h = refl
      go false None h = ap suc h
      go false (Some n) h = ap suc h

  pub length_with : (es : List (K × V)) (p : K × V) → length (with_entry R es p) ≡ length es + cond (is_some (found_at p.0 es)) 0 1
  length_with [] p = refl
  length_with (e ∷ es) p = go (is_eq (R p.0 e.0)) (found_at p.0 es) (length_with es p)
    where
      go : (b : Bool) (o : Option ℕ) → length (with_entry R es p) ≡ length es + cond (is_some o) 0 1
          → length (cond b ((e.0, p.1) ∷ es) (e ∷ with_entry R es p)) ≡ suc (length es) + cond (is_some (cond b (Some 0) (option_map suc o))) 0 1
      go true o h = omega arith
      go false None h = omega (arith, h)
      go false (Some n) h = omega (arith, h)

  module _ (total : IsTotalOrder R) where
    -- the key itself is found at its place
    found_itself : (es : List (K × V)) (p : K × V) → found_at p.0 (with_entry R es p) ≡ Some (place_in R p.0 es)
    found_itself [] p = rw (only_Equal (R p.0 p.0) (total.antisymm p.0 p.0)) refl
    found_itself (e ∷ es) p = go (is_eq (R p.0 e.0)) refl (found_itself es p)
      where
        go : (b : Bool) → is_eq (R p.0 e.0) ≡ b → found_at p.0 (with_entry R es p) ≡ Some (place_in R p.0 es)
            → found_at p.0 (cond b ((e.0, p.1) ∷ es) (e ∷ with_entry R es p)) ≡ Some (cond b 0 (suc (place_in R p.0 es)))
        go true t h = rw t refl
        go false t h = rw t (ap (option_map suc) h)

    -- each other one is found where it was
    found_others : (k : K) (es : List (K × V)) (p : K × V) → is_eq (R k p.0) ≡ false → found_at k (with_entry R es p) ≡ found_at k es
    found_others k [] p t = rw t refl
    found_others k (e ∷ es) p t = go (is_eq (R p.0 e.0)) (found_others k es p t)
      where
        go : (b : Bool) → found_at k (with_entry R es p) ≡ found_at k es → found_at k (cond b ((e.0, p.1) ∷ es) (e ∷ with_entry R es p)) ≡ found_at k (e ∷ es)
        go true h = refl
        go false h = ap (λ o. cond (is_eq (R k e.0)) (Some 0) (option_map suc o)) h

    found_alike : (k l : K) (es : List (K × V)) → R k l ≡ Equal → found_at k es ≡ found_at l es
    found_alike k l [] same = refl
    found_alike k l (e ∷ es) same = λ i. cond (is_eq (total.congr k l e.0 same i)) (Some 0) (option_map suc (found_alike k l es same i))

    pub found_with : (k : K) (es : List (K × V)) (p : K × V)
        → found_at k (with_entry R es p) ≡ cond (is_eq (R p.0 k)) (Some (place_in R p.0 es)) (found_at k es)
    found_with k es p = go (is_eq (R p.0 k)) refl
      where
        go : (b : Bool) → is_eq (R p.0 k) ≡ b → found_at k (with_entry R es p) ≡ cond b (Some (place_in R p.0 es)) (found_at k es)
        go true t = sym (found_alike p.0 k (with_entry R es p) ((Equal-is (R p.0 k)).0 t)) ∙ found_itself es p
        go false t = found_others k es p (ap is_eq (total.antisymm k p.0) ∙ is_eq-reverse (R p.0 k) ∙ t)

  -- ---- a tree of keys, each with its place

  -- so far: these entries are put in, the tree knows where their keys are, and the places of the others are still to be told
  pub record FoundSoFar (all rest : List (K × V)) (tree : BTreeMap (Bor K) ℕ) (places : List ℕ) : Type 0 where
    pub so_far : List (K × V)
    pub told : places ++ places_in R so_far rest ≡ places_in R [] all
    pub found : (k : Bor K) → get (borrowed_cmp R) tree k ≡ found_at k.now so_far
    pub count : btree_map_len tree ≡ length so_far

  one_found : IsTotalOrder R → (all rest : List (K × V)) (tree next : BTreeMap (Bor K) ℕ) (places : List ℕ) (key : Bor K) (value : V) (place : ℕ)
      → FoundSoFar all ((key.now, value) ∷ rest) tree places → place ≡ unwrap_or (get (borrowed_cmp R) tree key) (btree_map_len tree)
      → ((k : Bor K) → get (borrowed_cmp R) next k ≡ cond (is_eq (R key.now k.now)) (Some place) (get (borrowed_cmp R) tree k))
      → btree_map_len next ≡ btree_map_len tree + cond (is_some (get (borrowed_cmp R) tree key)) 0 1
      → FoundSoFar all rest next (places ++ place ∷ [])
  one_found total all rest tree next places key value place h p updates len =
      let s = h.so_far in
      let e : place ≡ place_in R key.now s = p ∙ (λ i. unwrap_or (h.found key i) (h.count i)) ∙ place_is key.now s in
      record {
        so_far = with_entry R s (key.now, value);
        told = append_assoc places (place ∷ []) (places_in R (with_entry R s (key.now, value)) rest)
            ∙ ap (λ n. places ++ n ∷ places_in R (with_entry R s (key.now, value)) rest) e ∙ h.told;
        found = λ k. updates k ∙ (λ i. cond (is_eq (R key.now k.now)) (Some (e i)) (h.found k i)) ∙ sym (found_with total k.now s (key.now, value));
        count = len ∙ (λ i. h.count i + cond (is_some (h.found key i)) 0 1) ∙ sym (length_with s (key.now, value));
      }

  -- a key that the tree didn't have
  pub new_found : IsTotalOrder R
      → (all rest : List (K × V)) (tree next : BTreeMap (Bor K) ℕ) (places : List ℕ) (key : Bor K) (value : V) (place : ℕ) (old : Option ℕ)
      → FoundSoFar all ((key.now, value) ∷ rest) tree places → place ≡ btree_map_len tree → old ≡ get (borrowed_cmp R) tree key → old ≡ None
      → Updates (borrowed_cmp R) tree next key (Some place) → btree_map_len next ≡ btree_map_len tree + cond (is_some old) 0 1
      → FoundSoFar all rest next (places ++ place ∷ [])
  new_found total all rest tree next places key value place old h last was none updates len =
      one_found total all rest tree next places key value place h (last ∙ ap (λ o. unwrap_or o (btree_map_len tree)) (sym none ∙ was)) updates.0
      (len ∙ ap (λ o. btree_map_len tree + cond (is_some o) 0 1) was)

  -- a key that it had at a place, which it has there again
  pub found_again : IsTotalOrder R
      → (all rest : List (K × V)) (tree between next : BTreeMap (Bor K) ℕ) (places : List ℕ) (key : Bor K) (value : V) (other place : ℕ) (old last : Option ℕ)
      → FoundSoFar all ((key.now, value) ∷ rest) tree places → old ≡ get (borrowed_cmp R) tree key → old ≡ Some place → last ≡ get (borrowed_cmp R) between key
      → Updates (borrowed_cmp R) tree between key (Some other) → btree_map_len between ≡ btree_map_len tree + cond (is_some old) 0 1
      → Updates (borrowed_cmp R) between next key (Some place) → btree_map_len next ≡ btree_map_len between + cond (is_some last) 0 1
      → FoundSoFar all rest next (places ++ place ∷ [])
  found_again total all rest tree between next places key value other place old last h was at put one one_len two two_len =
      let here : Some place ≡ get (borrowed_cmp R) tree key = sym at ∙ was in
      let same : btree_map_len between ≡ btree_map_len tree + 0 = one_len ∙ ap (λ o. btree_map_len tree + cond (is_some o) 0 1) at in
      let again : btree_map_len next ≡ btree_map_len between + 0 = two_len ∙ ap (λ o. btree_map_len between + cond (is_some o) 0 1) (put ∙ one.1) in
      let len : btree_map_len next ≡ btree_map_len tree + 0 = omega (arith, same, again) in
      one_found total all rest tree next places key value place h (ap (λ o. unwrap_or o (btree_map_len tree)) here)
      (λ k. placed_again R tree between next key k other place one two) (len ∙ ap (λ o. btree_map_len tree + cond (is_some o) 0 1) here)
