-- Structs of fields that may be left out: their schema, and that their data is of it.
use Rattle.std.proofs.Common.{◌≡◌, ℕ, suc, Bool, true, false, not, ◌&&◌, ◌||◌, ◌++◌, cond, List, [], ◌∷◌, length, map, nat_lt, Option, Some, None, find, chars}
use Rattle.std.proofs.Common.{refl, ap, ◌∙◌, arith}
use Rattle.std.specs.List.{list_all, list_any}
use Rattle.std.proofs.lemmas.Bool.{and_from, and_parts, or_parts}
use Rattle.ron_spec_words.specs.Characters.{Text}
use Rattle.ron_spec_words.specs.Runs.{same_text}
use Rattle.ron_spec_grammar.specs.Data as plain
use Rattle.ron_spec_grammar.specs.Schema.{Shape, Field, FieldList, struct, holds_text, all_differ, all_names, names_of, in_order, is_named, range_names}
use Rattle.ron_spec_grammar.specs.Schema.{OfFields}
use Rattle.ron_spec_grammar.proofs.Finding.{same_self, other_sym}
use Rattle.ron_types.specs.Lists.{Each}
use Rattle.ron_types.specs.OfTables.{IsOfOrdered}
use Rattle.ron_types.specs.Ordered.{FieldsHaveOrderedValues}
use Rattle.ron_types.specs.Tables.{put, put_all, root_in, roots_in, topped, MayTop}
use Rattle.ron_types.proofs.ListLemmas.{get_last}
use Rattle.ron_types.proofs.MoveLemmas.{of_grown, of_put}
use Rattle.ron_types.proofs.TypeLemmas.{of_put_all, finds_each}
use Rattle.ron_types_fields.specs.Names.{Name, own, others, all_called}
use Rattle.ron_types_fields.specs.Rows.{Part, tables_of, field_of, fields_at, MayStand, EachMayStand, AddsFields, own_differ}
use Rattle.ron_types_fields.specs.Spelled.{spelled_fields}
use Rattle.ron_types_fields.specs.Structs.{is_whole_range, MayBeFields, table_of_fields, data_of_fields}
use Rattle.ron_types_fields.specs.SpelledLaws.{not_true, first_differs, others_differ}

-- ---- names

-- what no text of two lists is, none of the second is
aliases_apart : (t : Text) (ts us : List Text) → holds_text t (ts ++ us) ≡ false → holds_text t us ≡ false
aliases_apart t [] us h = h
aliases_apart t (s ∷ ts) us h = aliases_apart t ts us (or_parts (same_text s t) (holds_text t (ts ++ us)) h).1

-- a text that no field is called is no name of one
held_by_all : (t : Text) (ns : List Name) → holds_text t (all_called ns) ≡ false → holds_text t (map own ns) ≡ false
held_by_all t [] h = refl
held_by_all t (n ∷ ns) h =
    let p = or_parts (same_text (own n) t) (holds_text t (others n ++ all_called ns)) h in
    ap (λ b. b || holds_text t (map own ns)) p.0 ∙ held_by_all t ns (aliases_apart t (others n) (all_called ns) p.1)

differ_behind : (ts us : List Text) → all_differ (ts ++ us) ≡ true → all_differ us ≡ true
differ_behind [] us h = h
differ_behind (t ∷ ts) us h = differ_behind ts us (and_parts (not (holds_text t (ts ++ us))) (all_differ (ts ++ us)) h).1

-- where all that fields are called differs, their names do
pub names_apart : (ns : List Name) → all_differ (all_called ns) ≡ true → own_differ ns ≡ true
names_apart [] h = refl
names_apart (n ∷ ns) h =
    let p = and_parts (not (holds_text (own n) (others n ++ all_called ns))) (all_differ (others n ++ all_called ns)) h in
    let apart = held_by_all (own n) ns (aliases_apart (own n) (others n) (all_called ns) (not_true _ p.0)) in
    and_from _ _ (ap not apart) (names_apart ns (differ_behind (others n) (all_called ns) p.1))

-- as many of each
pub record AsMany (ns : List Name) (ps : List Part) (js : List ℕ) : Type 0 where
  pub parts : length ns ≡ length ps
  pub roots : length ps ≡ length js

roots_many : (shapes : List Shape) (ps : List Part) → length ps ≡ length (roots_in shapes (tables_of ps))
roots_many shapes [] = refl
roots_many shapes (p ∷ ps) = ap suc (roots_many (put shapes p.0) ps)

-- the fields are called so
pub called_at : (ns : List Name) (ps : List Part) (js : List ℕ) → AsMany ns ps js → all_names (fields_at ns ps js) ≡ all_called ns
called_at [] ps js h = refl
called_at (n ∷ ns) [] js h = let k = h.parts in absurd (omega arith)
called_at (n ∷ ns) (p ∷ ps) [] h = let k = h.roots in absurd (omega arith)
called_at (n ∷ ns) (p ∷ ps) (j ∷ js) h =
    let k = h.parts in
    let l = h.roots in
    ap (λ ts. own n ∷ (others n ++ ts)) (called_at ns ps js (record { parts = omega arith; roots = omega arith }))

-- ---- the shape

pub in_range_at : (k : ℕ) (ns : List Name) (ps : List Part) (js : List ℕ) → list_all (λ j. nat_lt j k) js ≡ true
    → list_all (λ (f : Field). nat_lt f.shape k) (fields_at ns ps js) ≡ true
in_range_at k [] ps js h = refl
in_range_at k (n ∷ ns) [] js h = refl
in_range_at k (n ∷ ns) (p ∷ ps) [] h = refl
in_range_at k (n ∷ ns) (p ∷ ps) (j ∷ js) h =
    let q = and_parts (nat_lt j k) (list_all (λ j. nat_lt j k) js) h in
    and_from _ _ q.0 (in_range_at k ns ps js q.1)

all_there_at : (ns : List Name) (ps : List Part) (js : List ℕ) → list_all (λ (p : Part). not p.1) ps ≡ true
    → list_all (λ (f : Field). not f.may_be_missing) (fields_at ns ps js) ≡ true
all_there_at [] ps js h = refl
all_there_at (n ∷ ns) [] js h = refl
all_there_at (n ∷ ns) (p ∷ ps) [] h = refl
all_there_at (n ∷ ns) (p ∷ ps) (j ∷ js) h =
    let q = and_parts (not p.1) (list_all (λ (p : Part). not p.1) ps) h in
    and_from _ _ q.0 (all_there_at ns ps js q.1)

whole_at : (name : Text) (ns : List Name) (ps : List Part) (js : List ℕ) → is_whole_range name ps ≡ true
    → not (list_any (same_text name) range_names) || list_all (λ (f : Field). not f.may_be_missing) (fields_at ns ps js) ≡ true
whole_at name ns ps js h = go (not (list_any (same_text name) range_names)) h
  where
    go : (b : Bool) → b || list_all (λ (p : Part). not p.1) ps ≡ true → b || list_all (λ (f : Field). not f.may_be_missing) (fields_at ns ps js) ≡ true
    go true k = refl
    go false k = all_there_at ns ps js k

module _ (name : List ℕ) (ns : List Name) (ps : List Part) (skips : Bool) (may : MayBeFields name ns ps) where
  abbrev pub list_of : List Field → FieldList
  list_of fields = record { fields = fields; skips_unknown = skips }

  pub many_in : (shapes : List Shape) → AsMany ns ps (roots_in shapes (tables_of ps))
  many_in shapes = record { parts = may.as_many; roots = roots_many shapes ps }

  -- the struct of these fields may stand on top of their shapes
  pub fields_may_top : (shapes : List Shape) (fields : List Field) → AddsFields ns ps [] [] shapes fields → MayTop shapes (struct (chars name) (list_of fields))
  fields_may_top shapes fields h =
      let js = roots_in [] (tables_of ps) in
      record {
        in_range = ap (list_all (λ (f : Field). nat_lt f.shape (length shapes))) h.fields ∙ in_range_at (length shapes) ns ps js h.in_range;
        distinct = ap (λ (fs : List Field). all_differ (all_names fs)) h.fields ∙ ap all_differ (called_at ns ps js (many_in [])) ∙ may.differ;
        whole = ap (λ (fs : List Field). not (list_any (same_text (chars name)) range_names) || list_all (λ (f : Field). not f.may_be_missing) fs) h.fields
            ∙ whole_at (chars name) ns ps js may.whole;
      }

  -- and then the table is the struct's
  pub fields_topped : (shapes : List Shape) (fields : List Field) → AddsFields ns ps [] [] shapes fields
      → topped shapes (struct (chars name) (list_of fields)) ≡ table_of_fields name ns ps skips
  fields_topped shapes fields h = λ i. topped (h.shapes i) (struct (chars name) (list_of (h.fields i)))

-- ---- data

-- there is data, or none, for each part
pub many_data : (ps : List Part) (ds : List (Option plain.Data)) → EachMayStand ps ds → length ps ≡ length ds
many_data [] [] h = refl
many_data (p ∷ ps) (d ∷ ds) h = ap suc (many_data ps ds h.1)
many_data [] (d ∷ ds) h = absurd h
many_data (p ∷ ps) [] h = absurd h

-- the names of the fields that are there don't begin with one that isn't among them
starts_other : (t : Text) (ns : List Name) (ds : List (Option plain.Data)) → holds_text t (map own ns) ≡ false → (f : Field) (fields : List Field) → f.name ≡ t
    → f.may_be_missing ≡ true
    → in_order fields (names_of (spelled_fields ns ds)) ≡ true → in_order (f ∷ fields) (names_of (spelled_fields ns ds)) ≡ true
starts_other t [] ds h f fields is missing k = and_from _ _ missing k
starts_other t (n ∷ ns) [] h f fields is missing k = and_from _ _ missing k
starts_other t (n ∷ ns) (None ∷ ds) h f fields is missing k =
    starts_other t ns ds (or_parts (same_text (own n) t) (holds_text t (map own ns)) h).1 f fields is missing k
starts_other t (n ∷ ns) (Some d ∷ ds) h f fields is missing k =
    let e = other_sym (own n) t (or_parts (same_text (own n) t) (holds_text t (map own ns)) h).0 in
    let names = names_of (spelled_fields ns ds) in
    ap (λ b. cond b (in_order fields names) (f.may_be_missing && in_order fields (own n ∷ names))) (ap (λ s. same_text s (own n)) is ∙ e)
    ∙ and_from _ _ missing k

-- the fields that are there stand in their order
pub spelled_in_order : (ns : List Name) (ps : List Part) (js : List ℕ) (ds : List (Option plain.Data)) → own_differ ns ≡ true → AsMany ns ps js
    → EachMayStand ps ds → in_order (fields_at ns ps js) (names_of (spelled_fields ns ds)) ≡ true
spelled_in_order [] ps js ds differ many h = refl
spelled_in_order (n ∷ ns) [] js ds differ many h = let k = many.parts in absurd (omega arith)
spelled_in_order (n ∷ ns) (p ∷ ps) [] ds differ many h = let k = many.roots in absurd (omega arith)
spelled_in_order (n ∷ ns) (p ∷ ps) (j ∷ js) [] differ many h = absurd h
spelled_in_order (n ∷ ns) (p ∷ ps) (j ∷ js) (d ∷ ds) differ many h =
    let k = many.parts in
    let l = many.roots in
    go d h.0 (spelled_in_order ns ps js ds (others_differ n ns differ) (record { parts = omega arith; roots = omega arith }) h.1)
  where
    go : (d : Option plain.Data) → MayStand p d → in_order (fields_at ns ps js) (names_of (spelled_fields ns ds)) ≡ true
        → in_order (fields_at (n ∷ ns) (p ∷ ps) (j ∷ js)) (names_of (spelled_fields (n ∷ ns) (d ∷ ds))) ≡ true
    go None missing rest = starts_other (own n) ns ds (first_differs n ns differ) (field_of n j p.1) (fields_at ns ps js) refl missing rest
    go (Some x) stands rest =
        let names = names_of (spelled_fields ns ds) in
        ap (λ b. cond b (in_order (fields_at ns ps js) names) (p.1 && in_order (fields_at ns ps js) (own n ∷ names))) (same_self (own n)) ∙ rest

-- each field that is there has data of its shape
pub spelled_are_of : (more : List Shape) (all : List Field) (ns : List Name) (ps : List Part) (shapes : List Shape) (ds : List (Option plain.Data))
    → Each (λ (f : Field). find (is_named f.name) all ≡ Some f) (fields_at ns ps (roots_in shapes (tables_of ps))) → EachMayStand ps ds
    → FieldsHaveOrderedValues (spelled_fields ns ds)
    → OfFields (put_all shapes (tables_of ps) ++ more) all (spelled_fields ns ds)
spelled_are_of more all [] ps shapes ds found h o = tt
spelled_are_of more all (n ∷ ns) ps shapes [] found h o = tt
spelled_are_of more all (n ∷ ns) [] shapes (d ∷ ds) found h o = absurd h
spelled_are_of more all (n ∷ ns) (p ∷ ps) shapes (None ∷ ds) found h o = spelled_are_of more all ns ps (put shapes p.0) ds found.1 h.1 o
spelled_are_of more all (n ∷ ns) (p ∷ ps) shapes (Some d ∷ ds) found h o =
    let ts = tables_of ps in (
      field_of n (root_in shapes p.0) p.1,
      found.0,
      of_grown (put_all (put shapes p.0) ts) more (root_in shapes p.0) d
          (of_put_all ts (put shapes p.0) (root_in shapes p.0) d (of_put shapes p.0 d (h.0 o.0))),
      spelled_are_of more all ns ps (put shapes p.0) ds found.1 h.1 o.1,
    )

-- data of the schemas, by the names, is of the struct's
pub fields_are_of : (name : List ℕ) (ns : List Name) (ps : List Part) (skips : Bool) → MayBeFields name ns ps → (ds : List (Option plain.Data))
    → EachMayStand ps ds → IsOfOrdered (table_of_fields name ns ps skips) (data_of_fields name ns ds)
fields_are_of name ns ps skips may ds h o =
    let js = roots_in [] (tables_of ps) in
    let fields = fields_at ns ps js in
    let list : FieldList = record { fields = fields; skips_unknown = skips } in
    let s = struct (chars name) list in
    let shapes = put_all [] (tables_of ps) in
    let many : AsMany ns ps js = record { parts = may.as_many; roots = roots_many [] ps } in
    let differ = ap all_differ (called_at ns ps js many) ∙ may.differ in (
      list,
      get_last shapes s,
      spelled_in_order ns ps js ds (names_apart ns may.differ) many h,
      spelled_are_of (s ∷ []) fields ns ps [] ds (finds_each fields differ) h o,
    )
