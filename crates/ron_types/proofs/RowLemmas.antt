-- What a row's first type does and what the others do, together: for the calls of a row.
use Rattle.std.proofs.Common.{◌≡◌, ◌<◌, ◌≤◌, ℕ, suc, Bool, true, false, not, ◌||◌, ◌++◌, List, [], ◌∷◌, length, map, chars, nat_lt, refl, sym, ap, subst, ◌∙◌}
use Rattle.std.proofs.Common.{arith}
use Rattle.std.specs.List.{list_all, list_any}
use Rattle.std.proofs.lemmas.Bool.{and_from, and_parts, or_parts, or_right}
use Rattle.std.proofs.lemmas.List.{append_assoc, append-nil}
use Rattle.ron_spec_words.specs.Characters.{Text}
use Rattle.ron_spec_words.specs.Runs.{same_text}
use Rattle.ron_spec_grammar.specs.Data as plain
use Rattle.ron_spec_grammar.specs.Schema.{Shape, Field as SchemaField, struct, tuple, only, holds_text, all_differ, all_names, names_differ, range_names}
use Rattle.ron_data.specs.declared.data.Data.{Data}
use Rattle.ron_data.specs.Datum.{data_view, named_view}
use Rattle.ron_data_schema.specs.Table.{Table}
use Rattle.ron_types.specs.Accepts.{IsField}
use Rattle.ron_types.specs.FieldNames.{Field}
use Rattle.ron_types.specs.Lists.{Then}
use Rattle.ron_types.specs.OfTables.{IsOfOrdered, EachIsOf, fields_with}
use Rattle.ron_types.specs.Rows.{named_tables, named_fields, NamedThen, NoneNamed, AddsItems, AddsFields, PushesItems, PushesFields, AreNames, table_of_struct}
use Rattle.ron_types.specs.Rows.{struct_data}
use Rattle.ron_types.specs.Tables.{put, put_all, root_in, roots_in, fields_at, tables_of, topped, beside, tuple_table, MayTop}
use Rattle.ron_types.proofs.TypeLemmas.{struct_is_of}

-- ---- schemas

module _ (t : Table) (ts : List Table) (old mid new : List Shape) (root : ℕ) (puts : mid ≡ put old t) (at : root ≡ root_in old t) (less : root < length mid)
    (wider : length old ≤ length mid) where
  all_shapes : new ≡ put_all mid ts → new ≡ put_all old (t ∷ ts)
  all_shapes h = h ∙ ap (λ shapes. put_all shapes ts) puts

-- from no shapes and no fields on
pub from_nothing : (names : List (List ℕ)) (ts : List Table) (old : List Shape) (before : List SchemaField) (new : List Shape) (after : List SchemaField)
    → old ≡ [] → before ≡ [] → AddsFields names ts old before new after → AddsFields names ts [] [] new after
from_nothing names ts old before new after e k h =
    subst (λ old. AddsFields names ts old [] new after) e (subst (λ before. AddsFields names ts old before new after) k h)

-- without types, nothing is added
pub none_added : (names : List (List ℕ)) (old : List Shape) (before : List SchemaField) → AddsFields names [] old before old before
none_added names old before = record {
  shapes = refl;
  fields = sym (append-nil before) ∙ ap (λ fields. before ++ fields) (sym (nothing names));
  in_range = refl;
  grown = omega arith;
}
  where
    nothing : (names : List (List ℕ)) → fields_at (named_tables names []) [] ≡ []
    nothing [] = refl
    nothing (n ∷ ns) = refl

-- ---- data

module _ (P : Data → Type 0) (d : plain.Data) (ds : List plain.Data) where
  pub items_pushed : (Rest : List Data → Type 0) (old mid new : List Data) (held : Data) → data_view held ≡ d → P held → mid ≡ old ++ held ∷ []
      → PushesItems ds Rest mid new → PushesItems (d ∷ ds) (Then P Rest) old new
  items_pushed Rest old mid new held is accepted push h = record {
    added = held ∷ h.added;
    items = h.items ∙ ap (λ items. items ++ h.added) push ∙ append_assoc old (held ∷ []) h.added;
    value = λ i. plain.data_and (is i) (h.value i);
    accepted = (accepted, h.accepted);
  }

  pub fields_pushed : (Rest : List (List ℕ) → List Field → Type 0) (n : List ℕ) (ns : List (List ℕ)) (old mid new : List Field) (held : Field)
      → named_view held ≡ (chars n, d) → IsField (chars n) P held → mid ≡ old ++ held ∷ []
      → PushesFields ns ds Rest mid new → PushesFields (n ∷ ns) (d ∷ ds) (NamedThen P Rest) old new
  fields_pushed Rest n ns old mid new held is accepted push h = record {
    added = held ∷ h.added;
    fields = h.fields ∙ ap (λ fields. fields ++ h.added) push ∙ append_assoc old (held ∷ []) h.added;
    value = λ i. plain.field_and ((is i).0) ((is i).1) (h.value i);
    accepted = λ many. (accepted, h.accepted (pred_eq many));
  }
    where
      pred_eq : suc (length ns) ≡ suc (length ds) → length ns ≡ length ds
      pred_eq e = omega (arith, e)

-- without values, nothing is pushed
pub none_pushed : (names : List (List ℕ)) (old : List Field) → PushesFields names [] NoneNamed old old
none_pushed names old = record {
  added = [];
  fields = sym (append-nil old);
  value = nothing names;
  accepted = none names;
}
  where
    nothing : (names : List (List ℕ)) → plain.no_fields ≡ named_fields names []
    nothing [] = refl
    nothing (n ∷ ns) = refl

    none : (names : List (List ℕ)) → length names ≡ 0 → NoneNamed names []
    none [] h = tt
    none (n ∷ ns) h = absurd (omega (arith, h))

-- ---- structs

-- the parts of the names are the tables
pub tables_named : (names : List (List ℕ)) (ts : List Table) → length names ≡ length ts → tables_of (named_tables names ts) ≡ ts
tables_named [] [] h = refl
tables_named [] (t ∷ ts) h = absurd (omega (arith, h))
tables_named (n ∷ ns) [] h = absurd (omega (arith, h))
tables_named (n ∷ ns) (t ∷ ts) h = ap (λ us. t ∷ us) (tables_named ns ts (omega (arith, h)))

-- data under the names, either way
pub fields_named : (names : List (List ℕ)) (ts : List Table) (ds : List plain.Data) → length names ≡ length ts
    → fields_with (named_tables names ts) ds ≡ named_fields names ds
fields_named [] ts ds h = refl
fields_named (n ∷ ns) [] ds h = absurd (omega (arith, h))
fields_named (n ∷ ns) (t ∷ ts) [] h = refl
fields_named (n ∷ ns) (t ∷ ts) (d ∷ ds) h = ap (plain.field_and (chars n) d) (fields_named ns ts ds (omega (arith, h)))

-- data of each table is as many
pub as_many_data : (ts : List Table) (ds : List plain.Data) → EachIsOf ts ds → length ts ≡ length ds
as_many_data [] [] h = refl
as_many_data (t ∷ ts) (d ∷ ds) h = ap suc (as_many_data ts ds h.1)
as_many_data [] (d ∷ ds) h = absurd h
as_many_data (t ∷ ts) [] h = absurd h

-- fields of names that differ do: their names are all that they are called
not_among : (t : Text) (names : List (List ℕ)) (ts : List Table) (js : List ℕ) → holds_text t (map chars names) ≡ false
    → holds_text t (all_names (fields_at (named_tables names ts) js)) ≡ false
not_among t [] ts js h = refl
not_among t (n ∷ ns) [] js h = refl
not_among t (n ∷ ns) (u ∷ ts) [] h = refl
not_among t (n ∷ ns) (u ∷ ts) (j ∷ js) h =
    let p = or_parts (same_text (chars n) t) (holds_text t (map chars ns)) h in
    ap (λ b. b || holds_text t (all_names (fields_at (named_tables ns ts) js))) p.0 ∙ not_among t ns ts js p.1

pub fields_differ : (names : List (List ℕ)) (ts : List Table) (js : List ℕ) → all_differ (map chars names) ≡ true
    → names_differ (fields_at (named_tables names ts) js) ≡ true
fields_differ [] ts js h = refl
fields_differ (n ∷ ns) [] js h = refl
fields_differ (n ∷ ns) (t ∷ ts) [] h = refl
fields_differ (n ∷ ns) (t ∷ ts) (j ∷ js) h =
    let p = and_parts (not (holds_text (chars n) (map chars ns))) (all_differ (map chars ns)) h in
    and_from _ _ (ap not (not_among (chars n) ns ts js (not_true _ p.0))) (fields_differ ns ts js p.1)
  where
    not_true : (b : Bool) → not b ≡ true → b ≡ false
    not_true true e = sym e
    not_true false e = refl

-- fields whose shapes lie among the shapes, and none of which may be missing
pub fields_in_range : (n : ℕ) (names : List (List ℕ)) (ts : List Table) (js : List ℕ) → list_all (λ j. nat_lt j n) js ≡ true
    → list_all (λ (f : SchemaField). nat_lt f.shape n) (fields_at (named_tables names ts) js) ≡ true
fields_in_range n [] ts js h = refl
fields_in_range n (m ∷ ms) [] js h = refl
fields_in_range n (m ∷ ms) (t ∷ ts) [] h = refl
fields_in_range n (m ∷ ms) (t ∷ ts) (j ∷ js) h =
    let p = and_parts (nat_lt j n) (list_all (λ j. nat_lt j n) js) h in
    and_from _ _ p.0 (fields_in_range n ms ts js p.1)

pub fields_whole : (names : List (List ℕ)) (ts : List Table) (js : List ℕ)
    → list_all (λ (f : SchemaField). not f.may_be_missing) (fields_at (named_tables names ts) js) ≡ true
fields_whole [] ts js = refl
fields_whole (n ∷ ns) [] js = refl
fields_whole (n ∷ ns) (t ∷ ts) [] = refl
fields_whole (n ∷ ns) (t ∷ ts) (j ∷ js) = fields_whole ns ts js

module _ (name : List ℕ) (names : List (List ℕ)) (ts : List Table) (are : AreNames names ts) where
  -- the struct of these fields may stand on top of their shapes
  pub struct_may_top : (shapes : List Shape) (fields : List SchemaField) → AddsFields names ts [] [] shapes fields
      → MayTop shapes (struct (chars name) (only fields))
  struct_may_top shapes fields h = record {
    in_range =
        ap (list_all (λ (f : SchemaField). nat_lt f.shape (length shapes))) h.fields ∙ fields_in_range (length shapes) names ts (roots_in [] ts) h.in_range;
    distinct = ap names_differ h.fields ∙ fields_differ names ts (roots_in [] ts) are.differ;
    whole = or_right (not (list_any (same_text (chars name)) range_names)) _
        (ap (list_all (λ (f : SchemaField). not f.may_be_missing)) h.fields ∙ fields_whole names ts (roots_in [] ts));
  }

  -- and then the table is the struct's
  pub struct_topped : (shapes : List Shape) (fields : List SchemaField) → AddsFields names ts [] [] shapes fields
      → topped shapes (struct (chars name) (only fields)) ≡ table_of_struct name names ts
  struct_topped shapes fields h =
      let tables = tables_named names ts are.as_many in
      (λ i. topped (h.shapes i) (struct (chars name) (only (h.fields i))))
      ∙ ap (λ us. beside (λ js. struct (chars name) (only (fields_at (named_tables names ts) js))) us) (sym tables)

  -- data of the schemas, under the names, is of it
  pub struct_data_is_of : (ds : List plain.Data) → EachIsOf ts ds → IsOfOrdered (table_of_struct name names ts) (struct_data name names ds)
  struct_data_is_of ds h =
      let tables = tables_named names ts are.as_many in
      subst (λ fs. IsOfOrdered (table_of_struct name names ts) (plain.struct_of (chars name) fs)) (fields_named names ts ds are.as_many)
      (struct_is_of (chars name) (named_tables names ts) ds (fields_differ names ts _ are.differ) (subst (λ us. EachIsOf us ds) (sym tables) h))

-- ---- tuples

pub items_from_nothing : (ts : List Table) (old : List Shape) (before : List ℕ) (new : List Shape) (after : List ℕ) → old ≡ [] → before ≡ []
    → AddsItems ts old before new after → AddsItems ts [] [] new after
items_from_nothing ts old before new after e k h = subst (λ old. AddsItems ts old [] new after) e (subst (λ before. AddsItems ts old before new after) k h)

pub tuple_may_top : (ts : List Table) (shapes : List Shape) (roots : List ℕ) → AddsItems ts [] [] shapes roots → MayTop shapes (tuple roots)
tuple_may_top ts shapes roots h = record {
  in_range = ap (list_all (λ j. nat_lt j (length shapes))) h.roots ∙ h.in_range;
  distinct = refl;
  whole = refl;
}

pub tuple_topped : (ts : List Table) (shapes : List Shape) (roots : List ℕ) → AddsItems ts [] [] shapes roots → topped shapes (tuple roots) ≡ tuple_table ts
tuple_topped ts shapes roots h = λ i. topped (h.shapes i) (tuple (h.roots i))
