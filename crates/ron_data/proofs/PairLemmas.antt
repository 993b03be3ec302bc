-- Pairs of data that are put in under their keys are the pairs of the format's map: for `fold_pairs`.
use Rattle.std.proofs.Common.{◌≡◌, ℕ, suc, ◌+◌, ◌<◌, ◌≤◌, ◌||◌, Bool, true, false, cond, List, [], ◌∷◌, ◌++◌, map, take, drop, length, get_or, refl, sym, ap}
use Rattle.std.proofs.Common.{ap₂, subst, ◌∙◌, ◌-◌, arith}
use Rattle.std.specs.List.{All, Contains, list_any}
use Rattle.std.specs.Map.{keys_of, values_of}
use Rattle.std.proofs.lemmas.List.{append-nil, get_or_default, get_or-map, length-map, map-append, take_more, drop_more, take_all, drop_all}
use Rattle.std.proofs.lemmas.List.Folds.{list_any_more}
use Rattle.std.proofs.lemmas.List.Elements.{All-nil, All-map, Contains-get_or}
use Rattle.std.specs.Cmp.{Equal-is, both_ways}
use Rattle.std.specs.declared.cmp.Ordering.{Ordering}
use Rattle.std.specs.declared.cmp.Ordering.TheVariants.{Less, Equal, Greater}
use Rattle.std.specs.Ordering.{is_eq, is_lt, ordering_reverse}
use Rattle.ron_spec_grammar.specs.Data as plain
use Rattle.ron_spec_grammar.specs.Equal.{equal_data, put, put_all}
use Rattle.ron_spec_grammar.proofs.Equal.{data_is, data_self}
use Rattle.ron_data.specs.declared.data.Data.{Data}
use Rattle.ron_data.specs.declared.order.Key.{Key}
use Rattle.ron_data.specs.Datum.{data_view, pair_view, pairs_view}
use Rattle.ron_data.specs.Order.{data_cmp}
use Rattle.ron_data.specs.OrderLaws.{data_cmp_total, data_cmp_same}
use Rattle.ron_data.specs.Pairs.{key_of, key_cmp, with_key, without_key, place_in, with_entry, with_entries}
use Rattle.ron_data.proofs.FoldLemmas.{only_Equal, all_keep, put_new}

-- the order calls the same data equal
same_by_order : (d e : plain.Data) → is_eq (data_cmp d e) ≡ equal_data d e
same_by_order d e =
    both_ways _ _ (λ t. ap (λ x. equal_data x e) (data_cmp_same d e ((Equal-is (data_cmp d e)).0 t)) ∙ data_self e)
    (λ t. ap (λ x. is_eq (data_cmp x e)) (data_is d e t) ∙ only_Equal (data_cmp e e) (data_cmp_total.antisymm e e))

put_entry : (es : List (Key × Data)) (p : Key × Data)
    → pairs_view (map without_key (with_entry key_cmp es p)) ≡ put (key_of p.0) (data_view p.1) (pairs_view (map without_key es))
put_entry [] p = refl
put_entry (e ∷ es) p =
    ap (λ b. pairs_view (map without_key (cond b ((e.0, p.1) ∷ es) (e ∷ with_entry key_cmp es p)))) (same_by_order (key_of p.0) (key_of e.0))
    ∙ go (equal_data (key_of p.0) (key_of e.0)) (put_entry es p)
  where
    go : (b : Bool) → pairs_view (map without_key (with_entry key_cmp es p)) ≡ put (key_of p.0) (data_view p.1) (pairs_view (map without_key es))
        → pairs_view (map without_key (cond b ((e.0, p.1) ∷ es) (e ∷ with_entry key_cmp es p)))
        ≡ cond b (plain.pair_and (key_of e.0) (data_view p.1) (pairs_view (map without_key es)))
        (plain.pair_and (key_of e.0) (data_view e.1) (put (key_of p.0) (data_view p.1) (pairs_view (map without_key es))))
    go true h = refl
    go false h = ap (plain.pair_and (key_of e.0) (data_view e.1)) h

pub put_entries : (es : List (Key × Data)) (ps : List (Data × Data))
    → pairs_view (map without_key (with_entries key_cmp es (map with_key ps))) ≡ put_all (pairs_view (map without_key es)) (map pair_view ps)
put_entries es [] = refl
put_entries es (p ∷ ps) = put_entries (with_entry key_cmp es (with_key p)) ps ∙ ap (λ v. put_all v (map pair_view ps)) (put_entry es (with_key p))

-- where none is left to be given its key, all have it
pub all_keyed : (keyed : List (Key × Data)) (rest ps : List (Data × Data)) → keyed ++ map with_key rest ≡ map with_key ps → length rest ≡ 0
    → keyed ≡ map with_key ps
all_keyed keyed [] ps h none = sym (append-nil keyed) ∙ h
all_keyed keyed (p ∷ rest) ps h none = absurd (omega (arith, none))

-- ---- pairs whose keys all differ

-- whether the key of one of these pairs is this one
abbrev pub is_among : Data → List (Data × Data) → Bool
is_among k ps = list_any (λ p. is_eq (data_cmp (data_view k) (data_view p.0))) ps

-- a key that is none of theirs belongs behind them
place_behind : (k : Data) (ps : List (Data × Data)) → is_among k ps ≡ false
    → place_in key_cmp (record { held = k }) (map with_key ps) ≡ length (map with_key ps)
place_behind k [] e = refl
place_behind k (p ∷ ps) e = go (is_eq (data_cmp (data_view k) (data_view p.0))) (place_behind k ps) e
  where
    go : (b : Bool) → (is_among k ps ≡ false → place_in key_cmp (record { held = k }) (map with_key ps) ≡ length (map with_key ps))
        → (b || is_among k ps) ≡ false → cond b 0 (suc (place_in key_cmp (record { held = k }) (map with_key ps))) ≡ suc (length (map with_key ps))
    go true later e = absurd (cc)
    go false later e = ap suc (later e)

-- the first ones differ, so putting all in begins with them
abbrev pub FirstDiffer : ℕ → List (Data × Data) → Type 0
FirstDiffer i ps = with_entries key_cmp (map with_key (take i ps)) (map with_key (drop i ps)) ≡ with_entries key_cmp [] (map with_key ps)

pub one_differs : (ps : List (Data × Data)) (i : ℕ) (p : Data × Data) → i < length ps → p ≡ get_or ps i p → is_among p.0 (take i ps) ≡ false → FirstDiffer i ps
    → FirstDiffer (i + 1) ps
one_differs ps i p lt at none h =
    let front : take (i + 1) ps ≡ take i ps ++ p ∷ [] = take_more ps i p lt ∙ ap (λ q. take i ps ++ q ∷ []) (sym at) in
    let back : p ∷ drop (i + 1) ps ≡ drop i ps = ap (λ q. q ∷ drop (i + 1) ps) at ∙ sym (drop_more ps i p lt) in
    let one : map with_key (take (i + 1) ps) ≡ with_entry key_cmp (map with_key (take i ps)) (with_key p) = ap (map with_key) front
    ∙ map-append with_key (take i ps) (p ∷ []) ∙ put_new key_cmp (map with_key (take i ps)) (with_key p) (place_behind p.0 (take i ps) none) in
    ap (λ es. with_entries key_cmp es (map with_key (drop (i + 1) ps))) one ∙ ap (λ qs. with_entries key_cmp (map with_key (take i ps)) (map with_key qs)) back
    ∙ h

pub all_differ : (ps : List (Data × Data)) (i : ℕ) → length ps ≤ i → FirstDiffer i ps → with_entries key_cmp [] (map with_key ps) ≡ map with_key ps
all_differ ps i le h = sym h ∙ (λ j. with_entries key_cmp (map with_key (take_all i ps le j)) (map with_key (drop_all i ps le j)))

-- ---- pairs whose keys ascend

pub only_Less : (o : Ordering) → is_lt o ≡ true → o ≡ Less
only_Less Less e = refl
only_Less Equal e = absurd (cc)
only_Less Greater e = absurd (cc)

-- what comes behind another one differs from it
behind_differs : (d e : plain.Data) → data_cmp d e ≡ Less → is_eq (data_cmp e d) ≡ false
behind_differs d e less = ap is_eq (data_cmp_total.antisymm e d ∙ ap ordering_reverse less)

-- the first ones differ, and a key behind the last of them is none of theirs
pub record FirstAscend (i : ℕ) (ps : List (Data × Data)) : Type 0 where
  pub differ : FirstDiffer i ps
  pub behind : (p : Data × Data) (k : Data) → p ≡ get_or ps (i - 1) p → data_cmp (data_view p.0) (data_view k) ≡ Less → is_among k (take i ps) ≡ false

pub first_ascends : (ps : List (Data × Data)) → FirstAscend 1 ps
first_ascends [] = record { differ = refl; behind = λ p k at less. refl }
first_ascends (q ∷ ps) = record {
  differ = refl;
  behind = λ p k at less.
      ap (λ b. b || false) (behind_differs (data_view q.0) (data_view k) (ap (λ (r : Data × Data). data_cmp (data_view r.0) (data_view k)) (sym at) ∙ less));
}

pub one_ascends : (ps : List (Data × Data)) (i : ℕ) (p q : Data × Data) → i < length ps → p ≡ get_or ps (i - 1) p → q ≡ get_or ps i q
    → data_cmp (data_view p.0) (data_view q.0) ≡ Less → FirstAscend i ps → FirstAscend (i + 1) ps
one_ascends ps i p q lt before at less h = record {
  differ = one_differs ps i q lt at (h.behind p q.0 before less) h.differ;
  behind = λ r k there above.
      let here : i + 1 - 1 ≡ i = omega arith in
      let same : r ≡ q = there ∙ ap (λ j. get_or ps j r) here ∙ get_or_default ps i r q lt ∙ sym at in
      let below : data_cmp (data_view q.0) (data_view k) ≡ Less = ap (λ (s : Data × Data). data_cmp (data_view s.0) (data_view k)) (sym same) ∙ above in
      let others = h.behind p k before (data_cmp_total.trans (data_view p.0) (data_view q.0) (data_view k) less below) in
      let last : is_eq (data_cmp (data_view k) (data_view (get_or ps i q).0)) ≡ false =
      ap (λ (s : Data × Data). is_eq (data_cmp (data_view k) (data_view s.0))) (sym at) ∙ behind_differs (data_view q.0) (data_view k) below in
      list_any_more (λ s. is_eq (data_cmp (data_view k) (data_view s.0))) ps i q lt ∙ ap₂ (λ a b. a || b) others last;
}

keys_gone : (ps : List (Data × Data)) → map without_key (map with_key ps) ≡ ps
keys_gone [] = refl
keys_gone (p ∷ ps) = ap (λ qs. p ∷ qs) (keys_gone ps)

-- so nothing is folded
not_folded : (ps : List (Data × Data)) → with_entries key_cmp [] (map with_key ps) ≡ map with_key ps
    → ps ≡ map without_key (with_entries key_cmp [] (map with_key ps))
not_folded ps differ = sym (keys_gone ps) ∙ ap (map without_key) (sym differ)

-- ---- the parts of the pairs

-- the key and the value are among those of these pairs
abbrev pub IsAmong : List (Data × Data) → Data × Data → Type 0
IsAmong ps p = Contains (keys_of ps) p.0 × Contains (values_of ps) p.1

image_among : {X Y : Type 0} (f : X → Y) (xs : List X) (k : ℕ) (d : X) → k < length xs → Contains (map f xs) (f (get_or xs k d))
image_among f xs k d lt = subst (Contains (map f xs)) (get_or-map f xs k d (f d) lt) (Contains-get_or (map f xs) k (f d) (omega (arith, lt, length-map xs f)))

pub put_among : (ps : List (Data × Data)) → All (IsAmong ps) (map without_key (with_entries key_cmp [] (map with_key ps)))
put_among ps =
    let Among : Key × Data → Type 0 = λ e. IsAmong ps (without_key e) in
    All-map (IsAmong ps) without_key (with_entries key_cmp [] (map with_key ps))
    (all_keep key_cmp Among (λ e p h k. (h.0, k.1)) [] (map with_key ps) (All-nil Among)
    (All-map Among with_key ps (λ k d lt. (image_among (λ (p : Data × Data). p.0) ps k d lt, image_among (λ (p : Data × Data). p.1) ps k d lt))))

-- ---- pairs that stay as they are, since the slice that was looked at differs

module _ (ps slice : List (Data × Data)) (same : slice ≡ ps) (differs : with_entries key_cmp [] (map with_key slice) ≡ map with_key slice) where
  differ : with_entries key_cmp [] (map with_key ps) ≡ map with_key ps
  differ = subst (λ qs. with_entries key_cmp [] (map with_key qs) ≡ map with_key qs) same differs

  pub stay_folded : pairs_view ps ≡ put_all (pairs_view []) (map pair_view ps)
  stay_folded = ap pairs_view (not_folded ps differ) ∙ put_entries [] ps

  pub stay_among : All (IsAmong ps) ps
  stay_among = subst (All (IsAmong ps)) (sym (not_folded ps differ)) (put_among ps)
