-- Entries that are put into a map, and their data put in by an order of data: for maps of `std`.
use Rattle.std.proofs.Common.{◌≡◌, List, [], ◌∷◌, ◌++◌, map, refl, sym, ap, ◌∙◌, append_assoc, append-nil}
use Rattle.std.specs.Ordering.{match_ordering, ordering_reverse}
use Rattle.std.specs.declared.cmp.Ordering.{Ordering}
use Rattle.std.specs.declared.cmp.Ordering.TheVariants.{Less, Equal, Greater}
use Rattle.std.specs.BTreeMap.{insert_entry}
use Rattle.std.specs.Cmp.{IsTotalOrder}
use Rattle.std.specs.Map.{keys_of}
use Rattle.std.specs.List.Sorted.{IsStrictlySortedBy}
use Rattle.ron_spec_grammar.specs.Data.{Data}
use Rattle.ron_data.specs.declared.data.Data.{Data as Held}
use Rattle.ron_data.specs.Datum.{data_view, pair_view, pairs_of, pairs_view}
use Rattle.ron_data_schema.specs.Table.{Table}
use Rattle.ron_types.specs.Lists.{Each, Both}
use Rattle.ron_types.specs.Normal.{entries_data, entries_normal}
use Rattle.ron_types.specs.OfTables.{IsOfOrdered}

-- all of an entry is kept, and its data is of the schemas
pub record IsWritten {K V : Type 0} (f : K → Data) (g : V → Data) (key_normal value_normal : Data → Data) (key_table value_table : Table) (e : K × V) : Type
    0 where
  pub key : key_normal (f e.0) ≡ f e.0
  pub value : value_normal (g e.1) ≡ g e.1
  pub key_of : IsOfOrdered key_table (f e.0)
  pub value_of : IsOfOrdered value_table (g e.1)

-- all of an entry is kept
pub record IsKept {K V : Type 0} (f : K → Data) (g : V → Data) (key_normal value_normal : Data → Data) (e : K × V) : Type 0 where
  pub key : key_normal (f e.0) ≡ f e.0
  pub value : value_normal (g e.1) ≡ g e.1

module _ {K V : Type 0} (f : K → Data) (g : V → Data) (key_normal value_normal : Data → Data) (key_table value_table : Table) where
  pub each_kept : (es : List (K × V)) → Each (IsWritten f g key_normal value_normal key_table value_table) es → Each (IsKept f g key_normal value_normal) es
  each_kept [] h = tt
  each_kept (e ∷ es) h = (record { key = h.0.key; value = h.0.value }, each_kept es h.1)

  pub each_of_schema : (es : List (K × V)) → Each (IsWritten f g key_normal value_normal key_table value_table) es
      → Each (Both (IsOfOrdered key_table) (IsOfOrdered value_table)) (entries_data f g es)
  each_of_schema [] h = tt
  each_of_schema (e ∷ es) h = ((h.0.key_of, h.0.value_of), each_of_schema es h.1)

module _ {K V : Type 0} (cmp : K → K → Ordering) (f : K → Data) (g : V → Data) (key_cmp : Data → Data → Ordering)
    (alike : (x y : K) → cmp x y ≡ key_cmp (f x) (f y)) where
  by_order : (o : Ordering) (e : K × V) (es : List (K × V)) (k : K) (v : V)
      → entries_data f g (insert_entry cmp es k v) ≡ insert_entry key_cmp (entries_data f g es) (f k) (g v)
      → entries_data f g (match_ordering o ((k, v) ∷ e ∷ es) ((e.0, v) ∷ es) (e ∷ insert_entry cmp es k v))
      ≡ match_ordering o ((f k, g v) ∷ entries_data f g (e ∷ es)) ((f e.0, g v) ∷ entries_data f g es)
      ((f e.0, g e.1) ∷ insert_entry key_cmp (entries_data f g es) (f k) (g v))
  by_order Less e es k v h = refl
  by_order Equal e es k v h = refl
  by_order Greater e es k v h = ap (λ ds. (f e.0, g e.1) ∷ ds) h

  -- what is put into the entries is put into their data
  pub insert_entry-data : (es : List (K × V)) (k : K) (v : V)
      → entries_data f g (insert_entry cmp es k v) ≡ insert_entry key_cmp (entries_data f g es) (f k) (g v)
  insert_entry-data [] k v = refl
  insert_entry-data (e ∷ es) k v =
      ap (λ o. entries_data f g (match_ordering o ((k, v) ∷ e ∷ es) ((e.0, v) ∷ es) (e ∷ insert_entry cmp es k v))) (alike k e.0)
      ∙ by_order (key_cmp (f k) (f e.0)) e es k v (insert_entry-data es k v)

  -- a pair that code read is put in
  pub entries_more : (key_normal value_normal : Data → Data) (all rest : List (Held × Held)) (p : Held × Held) (es fs : List (K × V)) (k : K) (v : V)
      (whole : List (Data × Data))
      → all ≡ p ∷ rest → fs ≡ insert_entry cmp es k v → f k ≡ key_normal (data_view p.0) → g v ≡ value_normal (data_view p.1)
      → entries_normal key_cmp key_normal value_normal (entries_data f g es) (pairs_view all) ≡ whole
      → entries_normal key_cmp key_normal value_normal (entries_data f g fs) (pairs_view rest) ≡ whole
  entries_more key_normal value_normal all rest p es fs k v whole i j a b h =
      ap (λ es. entries_normal key_cmp key_normal value_normal (entries_data f g es) (pairs_view rest)) j
      ∙ ap (λ es. entries_normal key_cmp key_normal value_normal es (pairs_view rest)) (insert_entry-data es k v
      ∙ ap (λ d. insert_entry key_cmp (entries_data f g es) d (g v)) a ∙ ap (λ d. insert_entry key_cmp (entries_data f g es) (key_normal (data_view p.0)) d) b)
      ∙ sym (ap (λ ps. entries_normal key_cmp key_normal value_normal (entries_data f g es) (pairs_view ps)) i) ∙ h

  -- ---- entries in order are kept as they are

  module _ (key_normal value_normal : Data → Data) (total : IsTotalOrder cmp) where
    behind : (x k : K) → cmp x k ≡ Less → cmp k x ≡ Greater
    behind x k h = total.antisymm k x ∙ ap ordering_reverse h

    -- an entry whose key is above all others is put at the end
    insert_entry-last : (ds : List (K × V)) (k : K) (v : V) → Each (λ (d : K × V). cmp d.0 k ≡ Less) ds
        → insert_entry key_cmp (entries_data f g ds) (f k) (g v) ≡ entries_data f g (ds ++ (k, v) ∷ [])
    insert_entry-last [] k v h = refl
    insert_entry-last (d ∷ ds) k v h =
        ap (λ o. match_ordering o ((f k, g v) ∷ entries_data f g (d ∷ ds)) ((f d.0, g v) ∷ entries_data f g ds)
        ((f d.0, g d.1) ∷ insert_entry key_cmp (entries_data f g ds) (f k) (g v))) (sym (alike k d.0) ∙ behind d.0 k h.0)
        ∙ ap (λ es. (f d.0, g d.1) ∷ es) (insert_entry-last ds k v h.1)

    -- the keys of the first are below those of the second
    abbrev AreBelow : List (K × V) → List (K × V) → Type 0
    AreBelow ds es = Each (λ (e : K × V). Each (λ (d : K × V). cmp d.0 e.0 ≡ Less) ds) es

    one_more : (P : K × V → Type 0) (ds : List (K × V)) (d : K × V) → Each P ds → P d → Each P (ds ++ d ∷ [])
    one_more P [] d h k = (k, tt)
    one_more P (c ∷ ds) d h k = (h.0, one_more P ds d h.1 k)

    below_more : (ds es : List (K × V)) (d : K × V) → AreBelow ds es → Each (λ k. cmp d.0 k ≡ Less) (keys_of es) → AreBelow (ds ++ d ∷ []) es
    below_more ds [] d h k = tt
    below_more ds (e ∷ es) d h k = (one_more (λ c. cmp c.0 e.0 ≡ Less) ds d h.0 k.0, below_more ds es d h.1 k.1)

    kept_behind : (ds es : List (K × V)) → AreBelow ds es → IsStrictlySortedBy cmp (keys_of es) → Each (IsKept f g key_normal value_normal) es
        → entries_normal key_cmp key_normal value_normal (entries_data f g ds) (pairs_of (entries_data f g es)) ≡ entries_data f g (ds ++ es)
    unfolding IsStrictlySortedBy
    kept_behind ds [] h s kept = ap (entries_data f g) (sym (append-nil ds))
    kept_behind ds (e ∷ es) h s kept =
        ap (λ ps. entries_normal key_cmp key_normal value_normal ps (pairs_of (entries_data f g es)))
        (ap (λ d. insert_entry key_cmp (entries_data f g ds) d (value_normal (g e.1))) kept.0.key
        ∙ (ap (λ d. insert_entry key_cmp (entries_data f g ds) (f e.0) d) kept.0.value ∙ insert_entry-last ds e.0 e.1 h.0))
        ∙ (kept_behind (ds ++ e ∷ []) es (below_more ds es e h.1 s.0) s.1 kept.1
        ∙ ap (entries_data f g) (append_assoc ds (e ∷ []) es))

    none_below : (es : List (K × V)) → AreBelow [] es
    none_below [] = tt
    none_below (e ∷ es) = (tt, none_below es)

    pub all_kept : (es : List (K × V)) → IsStrictlySortedBy cmp (keys_of es) → Each (IsKept f g key_normal value_normal) es
        → entries_normal key_cmp key_normal value_normal [] (pairs_of (entries_data f g es)) ≡ entries_data f g es
    all_kept es s kept = kept_behind [] es (none_below es) s kept

-- ---- the data of entries, one after the other

seen_more : (ps : List (Held × Held)) (p : Held × Held) → map pair_view (ps ++ p ∷ []) ≡ map pair_view ps ++ pair_view p ∷ []
seen_more [] p = refl
seen_more (q ∷ ps) p = ap (λ es. pair_view q ∷ es) (seen_more ps p)

module _ {K V : Type 0} (f : K → Data) (g : V → Data) where
  pub sent_none : (found : List (Held × Held)) (rest all : List (K × V)) → found ≡ [] → rest ≡ all
      → map pair_view found ++ entries_data f g rest ≡ entries_data f g all
  sent_none found rest all i h = ap (λ ps. map pair_view ps ++ entries_data f g rest) i ∙ ap (entries_data f g) h

  pub sent_more : (found more : List (Held × Held)) (old rest all : List (K × V)) (k : K) (v : V) (key value : Held) → old ≡ (k, v) ∷ rest
      → more ≡ found ++ (key, value) ∷ [] → data_view key ≡ f k → data_view value ≡ g v
      → map pair_view found ++ entries_data f g old ≡ entries_data f g all → map pair_view more ++ entries_data f g rest ≡ entries_data f g all
  sent_more found more old rest all k v key value i j a b h =
      ap (λ ps. map pair_view ps ++ entries_data f g rest) j ∙ ap (λ es. es ++ entries_data f g rest) (seen_more found (key, value))
      ∙ append_assoc (map pair_view found) ((data_view key, data_view value) ∷ []) (entries_data f g rest)
      ∙ ap (λ d. map pair_view found ++ ((d, data_view value) ∷ entries_data f g rest)) a
      ∙ ap (λ d. map pair_view found ++ ((f k, d) ∷ entries_data f g rest)) b
      ∙ sym (ap (λ es. map pair_view found ++ entries_data f g es) i) ∙ h

  pub sent_all : (found : List (Held × Held)) (rest all : List (K × V)) → rest ≡ [] → map pair_view found ++ entries_data f g rest ≡ entries_data f g all
      → map pair_view found ≡ entries_data f g all
  sent_all found rest all i h = sym (append-nil (map pair_view found)) ∙ sym (ap (λ es. map pair_view found ++ entries_data f g es) i) ∙ h
