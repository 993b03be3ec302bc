-- Types that hold one other, and maps, accept all data of their schemas where what they hold does.
use Rattle.std.proofs.Common.{◌≡◌, ℕ, ◌+◌, ◌<◌, nat_lt, true, ◌&&◌, List, [], ◌∷◌, ◌++◌, map, length, Some, None, slice_get, refl, sym, subst, arith, rules}
use Rattle.std.specs.List.{list_all}
use Rattle.std.proofs.lemmas.List.{append_assoc}
use Rattle.std.proofs.lemmas.Bool.{and_parts, and_from}
use borrow.Author.Tests.{ltb-true, lt-ltb}
use Rattle.ron_spec_grammar.specs.Data as plain
use Rattle.ron_spec_grammar.specs.Schema.{Shape, optional, seq, map as map_, is_in_range, holds_below, has_no_cycle, has_distinct_names, has_whole_range}
use Rattle.ron_spec_grammar.specs.Schema.{OfShape, AllOfShape, PairsOfShape}
use Rattle.ron_data.specs.declared.data.Data.{Data, out-Data, the_lemmas}
use Rattle.ron_data.specs.declared.data.Data.TheOpen.{Data-F}
use Rattle.ron_data.specs.declared.data.Data.TheVariants as held
use Rattle.ron_data.specs.declared.data.VariantData.{VariantData}
use Rattle.ron_data.specs.Datum.{data_view, items_view, pairs_view}
use Rattle.ron_data_schema.specs.Shapes.{moved}
use Rattle.ron_data_schema.specs.Table.{Table}
use Rattle.ron_types.specs.Accepts.{IsOption, IsList, IsMap}
use Rattle.ron_types.specs.Lists.{Each, Both}
use Rattle.ron_types.specs.OfTables.{IsOf}
use Rattle.ron_types.specs.Tables.{put, root_in, topped, optional_table, seq_table, map_table, MayTop}
use Rattle.ron_types.proofs.BackLemmas.{accepts-Some, accepts-Seq, accepts-Map}
use Rattle.ron_types.proofs.ListLemmas.{get_front, get_last}
use Rattle.ron_types.proofs.MoveLemmas.{stands_behind}
use Rattle.ron_types.proofs.ClosedLemmas.{closed_of, put_closed, topped_well_formed, length_put}
use Rattle.ron_types.specs.Laws.{AcceptsAll, IsFormed}
use Rattle.ron_types.proofs.MoveLaws.{from_shape}
use Rattle.ron_types.proofs.OutlineLaws.{outline_in, seen, whole_accepts}

-- ---- a part of a table

-- no index goes past the table
within : (t : Table) → IsFormed t → (nat_lt t.root (length t.shapes) ≡ true) × (list_all (holds_below (length t.shapes)) t.shapes ≡ true)
within t formed =
    let range =
    and_parts (is_in_range t.shapes t.root) (has_no_cycle t.shapes && (list_all has_distinct_names t.shapes && list_all has_whole_range t.shapes)) formed in
    and_parts (nat_lt t.root (length t.shapes)) (list_all (holds_below (length t.shapes)) t.shapes) range.0

-- data of a table that stands behind others, and before more, is of the table
pub of_part : (shapes : List Shape) (t : Table) (more : List Shape) → IsFormed t → (d : plain.Data) → OfShape (put shapes t ++ more) (root_in shapes t) d
    → IsOf t d
of_part shapes t more formed d h =
    from_shape (length shapes) t.shapes (put shapes t ++ more) (λ i s at. get_front (put shapes t) more (length shapes + i) (moved (length shapes) s)
    (stands_behind shapes t i s at)) (within t formed).1 t.root (within t formed).0 d h

-- the part's root lies among the shapes
pub root_within : (shapes : List Shape) (t : Table) → IsFormed t → root_in shapes t < length (put shapes t)
root_within shapes t formed = let less = ltb-true t.root (length t.shapes) (within t formed).0 in omega (arith, less, length_put shapes t)

accepts-None : (P : Data → Type 0) → IsOption P (held.Option None)
accepts-None P = search (rules, the_lemmas)

-- ---- one part

module _ (t : Table) (P : Data → Type 0) (all : AcceptsAll t P) where
  one_formed : (s : Shape) → MayTop (put [] t) s → IsFormed (topped (put [] t) s)
  one_formed s top = topped_well_formed (put [] t) s (put_closed [] t refl (closed_of t.shapes t.root all.formed)) top

  first_within : nat_lt (root_in [] t) (length (put [] t)) ≡ true
  first_within = lt-ltb (root_in [] t) (length (put [] t)) (root_within [] t all.formed)

  -- what the whole holds
  held_one : (s : Shape) (j : ℕ) → j ≡ root_in [] t → (d : Data) → OfShape (put [] t ++ s ∷ []) j (data_view d) → P d
  held_one s j e d h = all.accepted d (of_part [] t (s ∷ []) all.formed (data_view d) (subst (λ j. OfShape (put [] t ++ s ∷ []) j (data_view d)) e h))

  held_all : (s : Shape) (j : ℕ) → j ≡ root_in [] t → (ds : List Data) → AllOfShape (put [] t ++ s ∷ []) j (items_view ds) → Each P ds
  held_all s j e [] h = tt
  held_all s j e (d ∷ ds) h = (held_one s j e d h.0, held_all s j e ds h.1)

  -- ---- options

  option_accepts : (d : Data) (o : Data-F Data VariantData) → out-Data d ≡ o → optional 0 ≡ outline_in o → IsOf (optional_table t) (seen o) → IsOption P d
  option_accepts d (Data-F.Option None) at e h = let is : d ≡ held.Option None = search (rules, the_lemmas) in subst (IsOption P) (sym is) (accepts-None P)
  option_accepts d (Data-F.Option (Some b)) at e h =
      let top = optional (root_in [] t) in
      let last : slice_get (optional_table t).shapes (length (put [] t)) ≡ Some top = get_last (put [] t) top in
      let stands : slice_get (optional_table t).shapes (length (put [] t)) ≡ Some (optional h.0) = h.1 in
      let same : h.0 ≡ root_in [] t = cc in
      let is : d ≡ held.Option (Some b) = search (rules, the_lemmas) in
      subst (IsOption P) (sym is) (accepts-Some P b (held_one top h.0 same b.value h.2))
  option_accepts d o at e h = absurd (cc)

  pub options : AcceptsAll (optional_table t) (IsOption P)
  options =
      let top = optional (root_in [] t) in
      whole_accepts (optional_table t) top (IsOption P) (one_formed top (record { in_range = first_within; distinct = refl; whole = refl }))
      (get_last (put [] t) top) option_accepts

  -- ---- lists

  list_accepts : (d : Data) (o : Data-F Data VariantData) → out-Data d ≡ o → seq 0 ≡ outline_in o → IsOf (seq_table t) (seen o) → IsList (Each P) d
  list_accepts d (Data-F.Seq v) at e h =
      let top = seq (root_in [] t) in
      let last : slice_get (seq_table t).shapes (length (put [] t)) ≡ Some top = get_last (put [] t) top in
      let stands : slice_get (seq_table t).shapes (length (put [] t)) ≡ Some (seq h.0) = h.1 in
      let same : h.0 ≡ root_in [] t = cc in
      let is : d ≡ held.Seq v = search (rules, the_lemmas) in
      subst (IsList (Each P)) (sym is) (accepts-Seq (Each P) v (held_all top h.0 same v.items h.2))
  list_accepts d o at e h = absurd (cc)

  pub lists : AcceptsAll (seq_table t) (IsList (Each P))
  lists =
      let top = seq (root_in [] t) in
      whole_accepts (seq_table t) top (IsList (Each P)) (one_formed top (record { in_range = first_within; distinct = refl; whole = refl }))
      (get_last (put [] t) top) list_accepts

-- ---- maps

module _ (k v : Table) (P Q : Data → Type 0) (keys : AcceptsAll k P) (values : AcceptsAll v Q) where
  abbrev top : Shape
  top = map_ (root_in [] k) (root_in (put [] k) v)

  map_formed : IsFormed (map_table k v)
  map_formed =
      let first = put_closed [] k refl (closed_of k.shapes k.root keys.formed) in
      let below = root_within [] k keys.formed in
      let key : root_in [] k < length (put (put [] k) v) = omega (arith, below, length_put (put [] k) v) in
      topped_well_formed (put (put [] k) v) top (put_closed (put [] k) v first (closed_of v.shapes v.root values.formed)) (record {
        in_range = and_from _ _ (lt-ltb (root_in [] k) (length (put (put [] k) v)) key)
            (lt-ltb (root_in (put [] k) v) (length (put (put [] k) v)) (root_within (put [] k) v values.formed));
        distinct = refl;
        whole = refl;
      })

  key_accepted : (d : Data) → OfShape (map_table k v).shapes (root_in [] k) (data_view d) → P d
  key_accepted d h =
      let more = map (moved (length (put [] k))) v.shapes in
      keys.accepted d (of_part [] k (more ++ top ∷ []) keys.formed (data_view d)
      (subst (λ shapes. OfShape shapes (root_in [] k) (data_view d)) (append_assoc (put [] k) more (top ∷ [])) h))

  value_accepted : (d : Data) → OfShape (map_table k v).shapes (root_in (put [] k) v) (data_view d) → Q d
  value_accepted d h = values.accepted d (of_part (put [] k) v (top ∷ []) values.formed (data_view d) h)

  pairs_accepted : (ps : List (Data × Data)) → PairsOfShape (map_table k v).shapes (root_in [] k) (root_in (put [] k) v) (pairs_view ps) → Each (Both P Q) ps
  pairs_accepted [] h = tt
  pairs_accepted (p ∷ ps) h = ((key_accepted p.0 h.0, value_accepted p.1 h.1), pairs_accepted ps h.2)

  map_accepts : (d : Data) (o : Data-F Data VariantData) → out-Data d ≡ o → map_ 0 0 ≡ outline_in o → IsOf (map_table k v) (seen o) → IsMap (Each (Both P Q)) d
  map_accepts d (Data-F.Map ps) at e h =
      let last : slice_get (map_table k v).shapes (length (put (put [] k) v)) ≡ Some top = get_last (put (put [] k) v) top in
      let stands : slice_get (map_table k v).shapes (length (put (put [] k) v)) ≡ Some (map_ h.0 h.1) = h.2 in
      let key : h.0 ≡ root_in [] k = cc in
      let value : h.1 ≡ root_in (put [] k) v = cc in
      let is : d ≡ held.Map ps = search (rules, the_lemmas) in
      let all = subst (λ j. PairsOfShape (map_table k v).shapes j (root_in (put [] k) v) (pairs_view ps.items)) key
      (subst (λ j. PairsOfShape (map_table k v).shapes h.0 j (pairs_view ps.items)) value h.3) in
      subst (IsMap (Each (Both P Q))) (sym is) (accepts-Map (Each (Both P Q)) ps (pairs_accepted ps.items all))
  map_accepts d o at e h = absurd (cc)

  pub maps : AcceptsAll (map_table k v) (IsMap (Each (Both P Q)))
  maps = whole_accepts (map_table k v) top (IsMap (Each (Both P Q))) map_formed (get_last (put (put [] k) v) top) map_accepts
