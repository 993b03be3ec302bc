-- Tables that are put together stay well formed.
use Rattle.std.proofs.Common.{◌≡◌, ℕ, zero, suc, ◌+◌, ◌≤◌, ◌<◌, nat_lt, Bool, true, ◌&&◌, ◌||◌, not, List, [], ◌∷◌, ◌++◌, map, length, Option, Some, None}
use Rattle.std.proofs.Common.{option_map, slice_get, refl, sym, ap, ◌∙◌, arith, zero-add, add-one, length-append}
use Rattle.std.specs.Option.{option_and_then}
use Rattle.std.specs.List.{list_any, list_all}
use Rattle.std.proofs.lemmas.List.{length-map}
use Rattle.std.proofs.lemmas.List.Folds.{list_all-map, list_all-append}
use Rattle.std.proofs.lemmas.Bool.{and_parts, and_from}
use borrow.Author.Tests.{ltb-true, lt-ltb}
use Rattle.ron_spec_grammar.specs.Schema.{Field, Variant, VariantShape, unit_variant, newtype_variant, tuple_variant, struct_variant, Shape, bool, int, char}
use Rattle.ron_spec_grammar.specs.Schema.{str, bytes, unit, optional, unit_struct, seq, tuple, tuple_struct, map as map_, newtype, struct, enum, any_value}
use Rattle.ron_spec_grammar.specs.Schema.{any_raw, is_variant, all_differ, all_names, names_differ, variants_differ, variant_below, variant_has_distinct_names}
use Rattle.ron_spec_grammar.specs.Schema.{holds_below, has_distinct_names, has_whole_range, range_names, content_of, content_at, ends_within, has_no_cycle}
use Rattle.ron_spec_grammar.specs.Schema.{is_in_range, is_well_formed}
use Rattle.ron_spec_words.specs.Runs.{same_text}
use Rattle.ron_spec_grammar.proofs.Finding.{all_get}
use Rattle.ron_data_schema.specs.Shapes.{moved, moved_field, moved_content, moved_variant}
use Rattle.ron_data_schema.specs.Table.{Table}
use Rattle.ron_data_schema.proofs.ChainLemmas.{content_below, all_from}
use Rattle.ron_data_schema.proofs.MoveLemmas.{table_more}
use Rattle.ron_data_schema.proofs.TableLemmas.{list_any-map}
use Rattle.ron_types.specs.Tables.{put, topped, is_closed, MayTop}
use Rattle.ron_types.proofs.ListLemmas.{get_front}
use Rattle.ron_types.proofs.MoveLemmas.{stands_in_front, stands_behind}

-- the parts of the test
record IsClosed (shapes : List Shape) : Type 0 where
  in_range : list_all (holds_below (length shapes)) shapes ≡ true
  ends : has_no_cycle shapes ≡ true
  distinct : list_all has_distinct_names shapes ≡ true
  whole : list_all has_whole_range shapes ≡ true

closed_parts : (shapes : List Shape) → is_closed shapes ≡ true → IsClosed shapes
closed_parts shapes h =
    let first = and_parts (list_all (holds_below (length shapes)) shapes)
    (has_no_cycle shapes && (list_all has_distinct_names shapes && list_all has_whole_range shapes)) h in
    let second = and_parts (has_no_cycle shapes) (list_all has_distinct_names shapes && list_all has_whole_range shapes) first.1 in
    let third = and_parts (list_all has_distinct_names shapes) (list_all has_whole_range shapes) second.1 in
    record { in_range = first.0; ends = second.0; distinct = third.0; whole = third.1 }

closed_from : (shapes : List Shape) → IsClosed shapes → is_closed shapes ≡ true
closed_from shapes h = and_from _ _ h.in_range (and_from _ _ h.ends (and_from _ _ h.distinct h.whole))

pub closed_of : (shapes : List Shape) (root : ℕ) → is_well_formed shapes root ≡ true → is_closed shapes ≡ true
closed_of shapes root h =
    let first = and_parts (is_in_range shapes root) (has_no_cycle shapes && (list_all has_distinct_names shapes && list_all has_whole_range shapes)) h in
    and_from _ _ (and_parts (nat_lt root (length shapes)) (list_all (holds_below (length shapes)) shapes) first.0).1 first.1

pub well_formed_of : (shapes : List Shape) (root : ℕ) → is_closed shapes ≡ true → root < length shapes → is_well_formed shapes root ≡ true
well_formed_of shapes root h less =
    let parts = and_parts (list_all (holds_below (length shapes)) shapes)
    (has_no_cycle shapes && (list_all has_distinct_names shapes && list_all has_whole_range shapes)) h in
    and_from _ _ (and_from _ _ (lt-ltb root (length shapes) less) parts.0) parts.1

-- ---- a shape that has moved

module _ (n m : ℕ) where
  index_moved : (j : ℕ) → nat_lt j m ≡ true → nat_lt (n + j) (n + m) ≡ true
  index_moved j h = let less = ltb-true j m h in lt-ltb (n + j) (n + m) (omega arith)

  pass_moved : {A B : Type 0} (p : A → Bool) (q : B → Bool) (f : A → B) → ((a : A) → p a ≡ true → q (f a) ≡ true) → (xs : List A) → list_all p xs ≡ true
      → list_all q (map f xs) ≡ true
  pass_moved p q f step [] h = refl
  pass_moved p q f step (x ∷ xs) h = let parts = and_parts (p x) (list_all p xs) h in and_from _ _ (step x parts.0) (pass_moved p q f step xs parts.1)

  indices_moved : (js : List ℕ) → list_all (λ j. nat_lt j m) js ≡ true → list_all (λ j. nat_lt j (n + m)) (map (λ j. n + j) js) ≡ true
  indices_moved = pass_moved (λ j. nat_lt j m) (λ j. nat_lt j (n + m)) (λ j. n + j) index_moved

  fields_moved : (fields : List Field) → list_all (λ (f : Field). nat_lt f.shape m) fields ≡ true
      → list_all (λ (f : Field). nat_lt f.shape (n + m)) (map (moved_field n) fields) ≡ true
  fields_moved = pass_moved (λ (f : Field). nat_lt f.shape m) (λ (f : Field). nat_lt f.shape (n + m)) (moved_field n) (λ f. index_moved f.shape)

  content_moved_below : (v : VariantShape) → variant_below m v ≡ true → variant_below (n + m) (moved_content n v) ≡ true
  content_moved_below unit_variant h = refl
  content_moved_below (newtype_variant j) h = index_moved j h
  content_moved_below (tuple_variant js) h = indices_moved js h
  content_moved_below (struct_variant list) h = fields_moved list.fields h

  moved_below : (s : Shape) → holds_below m s ≡ true → holds_below (n + m) (moved n s) ≡ true
  moved_below (optional j) h = index_moved j h
  moved_below (newtype name j) h = index_moved j h
  moved_below (seq j) h = index_moved j h
  moved_below (tuple js) h = indices_moved js h
  moved_below (tuple_struct name js) h = indices_moved js h
  moved_below (map_ k v) h = let parts = and_parts (nat_lt k m) (nat_lt v m) h in and_from _ _ (index_moved k parts.0) (index_moved v parts.1)
  moved_below (struct name list) h = fields_moved list.fields h
  moved_below (enum name variants) h = pass_moved (λ (v : Variant). variant_below m v.content) (λ (v : Variant). variant_below (n + m) v.content)
      (moved_variant n) (λ v. content_moved_below v.content) variants h
  moved_below bool h = refl
  moved_below (int w) h = refl
  moved_below char h = refl
  moved_below str h = refl
  moved_below bytes h = refl
  moved_below unit h = refl
  moved_below (unit_struct name) h = refl
  moved_below any_value h = refl
  moved_below any_raw h = refl

all_names-moved : (n : ℕ) (fields : List Field) → all_names (map (moved_field n) fields) ≡ all_names fields
all_names-moved n [] = refl
all_names-moved n (f ∷ fields) = ap (λ ns. f.name ∷ (f.aliases ++ ns)) (all_names-moved n fields)

names_differ-moved : (n : ℕ) (fields : List Field) → names_differ (map (moved_field n) fields) ≡ names_differ fields
names_differ-moved n fields = ap all_differ (all_names-moved n fields)

variants_differ-moved : (n : ℕ) (variants : List Variant) → variants_differ (map (moved_variant n) variants) ≡ variants_differ variants
variants_differ-moved n [] = refl
variants_differ-moved n (v ∷ variants) = λ i. not (list_any-map (is_variant v.name) (moved_variant n) variants i) && variants_differ-moved n variants i

content_distinct-moved : (n : ℕ) (v : VariantShape) → variant_has_distinct_names (moved_content n v) ≡ variant_has_distinct_names v
content_distinct-moved n unit_variant = refl
content_distinct-moved n (newtype_variant j) = refl
content_distinct-moved n (tuple_variant js) = refl
content_distinct-moved n (struct_variant list) = names_differ-moved n list.fields

contents_distinct-moved : (n : ℕ) (variants : List Variant) → list_all (λ (v : Variant). variant_has_distinct_names v.content) (map (moved_variant n) variants)
    ≡ list_all (λ (v : Variant). variant_has_distinct_names v.content) variants
contents_distinct-moved n [] = refl
contents_distinct-moved n (v ∷ variants) = λ i. content_distinct-moved n v.content i && contents_distinct-moved n variants i

distinct-moved : (n : ℕ) (s : Shape) → has_distinct_names (moved n s) ≡ has_distinct_names s
distinct-moved n (struct name list) = names_differ-moved n list.fields
distinct-moved n (enum name variants) = λ i. variants_differ-moved n variants i && contents_distinct-moved n variants i
distinct-moved n (optional j) = refl
distinct-moved n (newtype name j) = refl
distinct-moved n (seq j) = refl
distinct-moved n (tuple js) = refl
distinct-moved n (tuple_struct name js) = refl
distinct-moved n (map_ k v) = refl
distinct-moved n bool = refl
distinct-moved n (int w) = refl
distinct-moved n char = refl
distinct-moved n str = refl
distinct-moved n bytes = refl
distinct-moved n unit = refl
distinct-moved n (unit_struct name) = refl
distinct-moved n any_value = refl
distinct-moved n any_raw = refl

whole-moved : (n : ℕ) (s : Shape) → has_whole_range (moved n s) ≡ has_whole_range s
whole-moved n (struct name list) =
    ap (λ b. not (list_any (same_text name) range_names) || b) (list_all-map (λ (f : Field). not f.may_be_missing) (moved_field n) list.fields)
whole-moved n (enum name variants) = refl
whole-moved n (optional j) = refl
whole-moved n (newtype name j) = refl
whole-moved n (seq j) = refl
whole-moved n (tuple js) = refl
whole-moved n (tuple_struct name js) = refl
whole-moved n (map_ k v) = refl
whole-moved n bool = refl
whole-moved n (int w) = refl
whole-moved n char = refl
whole-moved n str = refl
whole-moved n bytes = refl
whole-moved n unit = refl
whole-moved n (unit_struct name) = refl
whole-moved n any_value = refl
whole-moved n any_raw = refl

content-moved : (n : ℕ) (s : Shape) → content_of (moved n s) ≡ option_map (λ j. n + j) (content_of s)
content-moved n (optional j) = refl
content-moved n (newtype name j) = refl
content-moved n (struct name list) = refl
content-moved n (enum name variants) = refl
content-moved n (seq j) = refl
content-moved n (tuple js) = refl
content-moved n (tuple_struct name js) = refl
content-moved n (map_ k v) = refl
content-moved n bool = refl
content-moved n (int w) = refl
content-moved n char = refl
content-moved n str = refl
content-moved n bytes = refl
content-moved n unit = refl
content-moved n (unit_struct name) = refl
content-moved n any_value = refl
content-moved n any_raw = refl

-- ---- chains

ends_more : (table : List Shape) (n m : ℕ) (o : Option ℕ) → n ≤ m → ends_within table n o ≡ true → ends_within table m o ≡ true
ends_more table n m None le h = refl
ends_more table zero m (Some j) le h = absurd (cc)
ends_more table (suc n) zero (Some j) le h = absurd (omega arith)
ends_more table (suc n) (suc m) (Some j) le h = ends_more table n m (content_at table j) (omega arith) h

-- the chain goes on within the table
abbrev IsWithin : List Shape → Option ℕ → Type 0
IsWithin table None = Unit {0}
IsWithin table (Some j) = nat_lt j (length table) ≡ true

content_within : (table : List Shape) (i : ℕ) (s : Shape) → list_all (holds_below (length table)) table ≡ true → slice_get table i ≡ Some s
    → IsWithin table (content_of s)
content_within table i s h at = go (content_of s) refl
  where
    go : (o : Option ℕ) → content_of s ≡ o → IsWithin table o
    go None e = tt
    go (Some j) e = content_below (length table) s j (all_get (holds_below (length table)) table i s h at) e

none_within : {A : Type 0} (xs : List A) (i : ℕ) → slice_get xs i ≡ None → i < length xs → ⊥
none_within [] i e less = absurd (omega arith)
none_within (x ∷ xs) zero e less = absurd (cc)
none_within (x ∷ xs) (suc i) e less = none_within xs i e (omega arith)

module _ (n : ℕ) (old new : List Shape) (stands : (i : ℕ) (s : Shape) → slice_get old i ≡ Some s → slice_get new (n + i) ≡ Some (moved n s))
    (below : list_all (holds_below (length old)) old ≡ true) where
  -- a chain that ends in the table ends where that stands moved
  ends_moved : (k : ℕ) (o : Option ℕ) → IsWithin old o → ends_within old k o ≡ true → ends_within new k (option_map (λ j. n + j) o) ≡ true
  ends_moved k None within h = refl
  ends_moved zero (Some j) within h = absurd (cc)
  ends_moved (suc k) (Some j) within h = go (slice_get old j) refl (λ s at e. ends_moved k (content_of s) (content_within old j s below at) e)
    where
      go : (o : Option Shape) → slice_get old j ≡ o → ((s : Shape) → slice_get old j ≡ Some s → ends_within old k (content_of s) ≡ true
          → ends_within new k (option_map (λ j. n + j) (content_of s)) ≡ true) → ends_within new k (content_at new (n + j)) ≡ true
      go None at rest = absurd (none_within old j at (ltb-true j (length old) within))
      go (Some s) at rest =
          ap (λ o. ends_within new k (option_and_then content_of o)) (stands j s at)
          ∙ (ap (ends_within new k) (content-moved n s) ∙ rest s at (ap (λ o. ends_within old k (option_and_then content_of o)) (sym at) ∙ h))

-- ---- two tables behind one another

pub length_put : (shapes : List Shape) (t : Table) → length (put shapes t) ≡ length shapes + length t.shapes
length_put shapes t = length-append shapes (map (moved (length shapes)) t.shapes) ∙ ap (λ k. length shapes + k) (length-map t.shapes (moved (length shapes)))

-- a chain that goes on at a shape of the first
ends_in_front : (shapes more : List Shape) (k : ℕ) (o : Option ℕ) → list_all (holds_below (length shapes)) shapes ≡ true → IsWithin shapes o
    → ends_within shapes k o ≡ true → ends_within (shapes ++ more) k o ≡ true
ends_in_front shapes more k o below within h =
    ap (ends_within (shapes ++ more) k) (sym (by_none o)) ∙ ends_moved 0 shapes (shapes ++ more) (stands_in_front shapes more) below k o within h
  where
    by_none : (o : Option ℕ) → option_map (λ j. 0 + j) o ≡ o
    by_none None = refl
    by_none (Some j) = ap Some (zero-add j)

-- what passes at each element of both passes in the whole
all_behind : {A : Type 0} (p : A → Bool) (xs ys : List A) → list_all p xs ≡ true → list_all p ys ≡ true → list_all p (xs ++ ys) ≡ true
all_behind p xs ys h k = list_all-append p xs ys ∙ and_from _ _ h k

each_of : {A : Type 0} (p q : A → Bool) (xs : List A) → ((i : ℕ) (a : A) → slice_get xs i ≡ Some a → p a ≡ true → q a ≡ true) → list_all p xs ≡ true
    → list_all q xs ≡ true
each_of p q xs step h = all_from q xs (λ i a at. step i a at (all_get p xs i a h at))

-- chains that end in a table end in it where more follows
ends_grown : (shapes more : List Shape) (m : ℕ) → length shapes ≤ m → IsClosed shapes
    → list_all (λ s. ends_within (shapes ++ more) m (content_of s)) shapes ≡ true
ends_grown shapes more m le h =
    each_of (λ s. ends_within shapes (length shapes) (content_of s)) (λ s. ends_within (shapes ++ more) m (content_of s)) shapes
    (λ i s at e. ends_more (shapes ++ more) (length shapes) m (content_of s) le
    (ends_in_front shapes more (length shapes) (content_of s) h.in_range (content_within shapes i s h.in_range at) e))
    h.ends

module _ (shapes : List Shape) (t : Table) (first : IsClosed shapes) (second : IsClosed t.shapes) where
  ends_put : list_all (λ s. ends_within (put shapes t) (length (put shapes t)) (content_of s)) (map (moved (length shapes)) t.shapes) ≡ true
  ends_put = list_all-map (λ s. ends_within (put shapes t) (length (put shapes t)) (content_of s)) (moved (length shapes)) t.shapes
      ∙ each_of (λ s. ends_within t.shapes (length t.shapes) (content_of s))
      (λ s. ends_within (put shapes t) (length (put shapes t)) (content_of (moved (length shapes) s))) t.shapes
      (λ i s at e. let le : length t.shapes ≤ length (put shapes t) = omega (arith, length_put shapes t) in
      ap (ends_within (put shapes t) (length (put shapes t))) (content-moved (length shapes) s)
      ∙ ends_more (put shapes t) (length t.shapes) (length (put shapes t)) (option_map (λ j. length shapes + j) (content_of s)) le
      (ends_moved (length shapes) t.shapes (put shapes t) (stands_behind shapes t) second.in_range (length t.shapes) (content_of s)
      (content_within t.shapes i s second.in_range at) e))
      second.ends

  both_closed : IsClosed (put shapes t)
  both_closed =
      let le : length shapes ≤ length (put shapes t) = omega (arith, length_put shapes t) in
      let more = map (moved (length shapes)) t.shapes in
      record {
        in_range = all_behind (holds_below (length (put shapes t))) shapes more (table_more (length shapes) (length (put shapes t)) le shapes first.in_range)
            (ap (λ n. list_all (holds_below n) more) (length_put shapes t) ∙ pass_moved (length shapes) (length t.shapes) (holds_below (length t.shapes))
            (holds_below (length shapes + length t.shapes)) (moved (length shapes)) (moved_below (length shapes) (length t.shapes)) t.shapes second.in_range);
        ends = all_behind (λ s. ends_within (put shapes t) (length (put shapes t)) (content_of s)) shapes more
            (ends_grown shapes more (length (put shapes t)) le first) ends_put;
        distinct = all_behind has_distinct_names shapes more first.distinct (list_all-map has_distinct_names (moved (length shapes)) t.shapes
            ∙ same_test has_distinct_names (distinct-moved (length shapes)) t.shapes second.distinct);
        whole = all_behind has_whole_range shapes more first.whole
            (list_all-map has_whole_range (moved (length shapes)) t.shapes ∙ same_test has_whole_range (whole-moved (length shapes)) t.shapes second.whole);
      }
    where
      same_test : (p : Shape → Bool) → ((s : Shape) → p (moved (length shapes) s) ≡ p s) → (xs : List Shape) → list_all p xs ≡ true
          → list_all (λ s. p (moved (length shapes) s)) xs ≡ true
      same_test p same [] h = refl
      same_test p same (x ∷ xs) h = let parts = and_parts (p x) (list_all p xs) h in and_from _ _ (same x ∙ parts.0) (same_test p same xs parts.1)

-- a table put behind others
pub put_closed : (shapes : List Shape) (t : Table) → is_closed shapes ≡ true → is_closed t.shapes ≡ true → is_closed (put shapes t) ≡ true
put_closed shapes t first second = closed_from (put shapes t) (both_closed shapes t (closed_parts shapes first) (closed_parts t.shapes second))

-- ---- a shape on top

module _ (shapes : List Shape) (s : Shape) (first : IsClosed shapes) (top : MayTop shapes s) where
  length_topped : length (shapes ++ s ∷ []) ≡ length shapes + 1
  length_topped = length-append shapes (s ∷ [])

  top_within : (o : Option ℕ) → content_of s ≡ o → IsWithin shapes o
  top_within None e = tt
  top_within (Some j) e = content_below (length shapes) s j top.in_range e

  ends_top : (o : Option ℕ) → content_of s ≡ o → ends_within (shapes ++ s ∷ []) (length shapes + 1) o ≡ true
  ends_top None e = refl
  ends_top (Some j) e = ap (λ n. ends_within (shapes ++ s ∷ []) n (Some j)) (add-one (length shapes)) ∙ at_first (slice_get shapes j) refl
    where
      less : j < length shapes
      less = ltb-true j (length shapes) (top_within (Some j) e)

      at_first : (o : Option Shape) → slice_get shapes j ≡ o → ends_within (shapes ++ s ∷ []) (length shapes) (content_at (shapes ++ s ∷ []) j) ≡ true
      at_first None at = absurd (none_within shapes j at less)
      at_first (Some t) at =
          ap (λ o. ends_within (shapes ++ s ∷ []) (length shapes) (option_and_then content_of o)) (get_front shapes (s ∷ []) j t at)
          ∙ ends_in_front shapes (s ∷ []) (length shapes) (content_of t) first.in_range (content_within shapes j t first.in_range at)
          (all_get (λ s. ends_within shapes (length shapes) (content_of s)) shapes j t first.ends at)

  top_closed : IsClosed (shapes ++ s ∷ [])
  top_closed =
      let le : length shapes ≤ length (shapes ++ s ∷ []) = omega (arith, length_topped) in
      record {
        in_range = table_more (length shapes) (length (shapes ++ s ∷ [])) le (shapes ++ s ∷ [])
            (all_behind (holds_below (length shapes)) shapes (s ∷ []) first.in_range (and_from _ _ top.in_range refl));
        ends = all_behind (λ s'. ends_within (shapes ++ s ∷ []) (length (shapes ++ s ∷ [])) (content_of s')) shapes (s ∷ [])
            (ends_grown shapes (s ∷ []) (length (shapes ++ s ∷ [])) le first)
            (and_from _ _ (ap (λ n. ends_within (shapes ++ s ∷ []) n (content_of s)) length_topped ∙ ends_top (content_of s) refl) refl);
        distinct = all_behind has_distinct_names shapes (s ∷ []) first.distinct (and_from _ _ top.distinct refl);
        whole = all_behind has_whole_range shapes (s ∷ []) first.whole (and_from _ _ top.whole refl);
      }

-- a shape that may stand behind the others, behind them
pub topped_closed : (shapes : List Shape) (s : Shape) → is_closed shapes ≡ true → MayTop shapes s → is_closed (shapes ++ s ∷ []) ≡ true
topped_closed shapes s first top = closed_from (shapes ++ s ∷ []) (top_closed shapes s (closed_parts shapes first) top)

pub topped_well_formed : (shapes : List Shape) (s : Shape) → is_closed shapes ≡ true → MayTop shapes s
    → is_well_formed (topped shapes s).shapes (topped shapes s).root ≡ true
topped_well_formed shapes s first top =
    well_formed_of (shapes ++ s ∷ []) (length shapes) (topped_closed shapes s first top) (omega (arith, length_topped shapes s (closed_parts shapes first) top))
