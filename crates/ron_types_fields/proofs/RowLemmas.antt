-- What a row's first field does and what the others do, together: for the calls of a row.
use Rattle.std.proofs.Common.{◌≡◌, ◌<◌, ◌≤◌, ℕ, Bool, true, ◌++◌, List, [], ◌∷◌, length, nat_lt, Option, Some, None, chars, string_bytes, refl}
use Rattle.std.proofs.Common.{sym, ap, subst, ◌∙◌, arith}
use Rattle.std.specs.List.{list_all}
use Rattle.std.proofs.lemmas.Bool.{and_from}
use Rattle.std.proofs.lemmas.List.{append_assoc, append-nil}
use borrow.Author.Tests.{lt-ltb}
use Rattle.ron_spec_grammar.specs.Data as plain
use Rattle.ron_spec_grammar.specs.Schema.{Shape, Field as SchemaField}
use Rattle.ron_data.specs.declared.data.Data.{Data}
use Rattle.ron_data.specs.Datum.{data_view}
use Rattle.ron_data_schema.specs.Table.{Table}
use Rattle.ron_types.specs.FieldNames.{Field}
use Rattle.ron_types.specs.Tables.{put, put_all, root_in, roots_in}
use Rattle.ron_types_fields.specs.Names.{Name, own}
use Rattle.ron_types_fields.specs.Rows.{Part, tables_of, field_of, fields_at, AddsFields, PushesFields, own_differ}
use Rattle.ron_types_fields.specs.Spelled.{and_spelled, spelled_fields, spelled_normal, SpelledThen, NoneSpelled}
use Rattle.ron_types_fields.specs.SpelledLaws.{HasOther, other_first, front-spelled, behind-spelled, first_differs, others_differ}
use Rattle.ron_types_fields.proofs.SpelledLemmas.{other_of, front-called, behind-called}

-- ---- schemas

-- from no shapes and no fields on
pub from_nothing : (names : List Name) (ps : List Part) (old : List Shape) (before : List SchemaField) (new : List Shape) (after : List SchemaField) → old ≡ []
    → before ≡ [] → AddsFields names ps old before new after → AddsFields names ps [] [] new after
from_nothing names ps old before new after e k h =
    subst (λ old. AddsFields names ps old [] new after) e (subst (λ before. AddsFields names ps old before new after) k h)

-- without types, nothing is added
pub none_added : (names : List Name) (old : List Shape) (before : List SchemaField) → AddsFields names [] old before old before
none_added names old before = record {
  shapes = refl;
  fields = sym (append-nil before) ∙ ap (λ fields. before ++ fields) (sym (nothing names));
  in_range = refl;
  grown = omega arith;
}
  where
    nothing : (names : List Name) → fields_at names [] [] ≡ []
    nothing [] = refl
    nothing (n ∷ ns) = refl

-- one field, and then the others
pub field_added : (t : Table) (missing : Bool) (ps : List Part) (n : Name) (ns : List Name) (old mid new : List Shape) (before middle after : List SchemaField)
    (root : ℕ) (f : SchemaField)
    → (mid ≡ put old t) × (root ≡ root_in old t) → root < length mid → length old ≤ length mid → f ≡ field_of n root missing → middle ≡ before ++ f ∷ []
    → AddsFields ns ps mid middle new after → AddsFields (n ∷ ns) ((t, missing) ∷ ps) old before new after
field_added t missing ps n ns old mid new before middle after root f puts less wider is push h =
    let ts = tables_of ps in
    let g = field_of n (root_in old t) missing in
    let rest = fields_at ns ps (roots_in (put old t) ts) in
    let is_first : f ≡ g = is ∙ ap (λ j. field_of n j missing) puts.1 in
    let within : root_in old t < length new = omega (arith, less, h.grown, puts.1) in
    record {
      shapes = h.shapes ∙ ap (λ shapes. put_all shapes ts) puts.0;
      fields = h.fields ∙ ap (λ (fs : List SchemaField). fs ++ fields_at ns ps (roots_in mid ts)) push
          ∙ ap (λ (shapes : List Shape). (before ++ f ∷ []) ++ fields_at ns ps (roots_in shapes ts)) puts.0
          ∙ append_assoc before (f ∷ []) rest ∙ ap (λ (g : SchemaField). before ++ g ∷ rest) is_first;
      in_range = and_from _ _ (lt-ltb (root_in old t) (length new) within)
          (ap (λ (shapes : List Shape). list_all (λ j. nat_lt j (length new)) (roots_in shapes ts)) (sym puts.0) ∙ h.in_range);
      grown = omega (arith, wider, h.grown);
    }

-- ---- data

-- without values, nothing is pushed
pub none_pushed : (names : List Name) (old : List Field) → PushesFields names [] NoneSpelled old old
none_pushed names old = record {
  added = [];
  fields = sym (append-nil old);
  value = nothing names;
  accepted = λ many differ. none names many;
}
  where
    nothing : (names : List Name) → plain.no_fields ≡ spelled_fields names []
    nothing [] = refl
    nothing (n ∷ ns) = refl

    none : (names : List Name) → length names ≡ 0 → NoneSpelled names []
    none [] h = tt
    none (n ∷ ns) h = absurd (omega (arith, h))

-- and nothing is changed
pub none_kept : (names : List Name) → spelled_normal names [] (spelled_fields names []) ≡ spelled_fields names []
none_kept [] = refl
none_kept (n ∷ ns) = refl

module _ (P : Option Data → Type 0) (Rest : List Name → List Field → Type 0) (n : Name) (ns : List Name) (ds : List (Option plain.Data)) where
  one_less : (d : Option plain.Data) → length (n ∷ ns) ≡ length (d ∷ ds) → length ns ≡ length ds
  one_less d e = omega (arith, e)

  -- a field that is left out: those behind it are all
  pub left_out : (old new : List Field) → P None → PushesFields ns ds Rest old new → PushesFields (n ∷ ns) (None ∷ ds) (SpelledThen P Rest) old new
  left_out old new accepted h = record {
    added = h.added;
    fields = h.fields;
    value = h.value;
    accepted = λ many differ.
        let other = other_of (own n) h.added (subst (HasOther (own n)) (sym h.value) (other_first (own n) ns ds (first_differs n ns differ))) in
        (subst P (sym other.none) accepted, subst (Rest ns) (sym other.all) (h.accepted (one_less None many) (others_differ n ns differ)));
  }

  -- a field that is there, and those behind it
  pub put_in : (d : plain.Data) (old mid new : List Field) (held : Field) → chars (string_bytes held.0) ≡ own n → data_view held.1 ≡ d → P (Some held.1)
      → mid ≡ old ++ held ∷ [] → PushesFields ns ds Rest mid new → PushesFields (n ∷ ns) (Some d ∷ ds) (SpelledThen P Rest) old new
  put_in d old mid new held called is accepted push h = record {
    added = held ∷ h.added;
    fields = h.fields ∙ ap (λ fields. fields ++ h.added) push ∙ append_assoc old (held ∷ []) h.added;
    value = λ i. plain.field_and (called i) (is i) (h.value i);
    accepted = λ many differ. (
      subst P (sym (front-called (own n) held h.added called)) accepted,
      subst (Rest ns) (sym (behind-called (own n) held h.added called)) (h.accepted (one_less (Some d) many) (others_differ n ns differ)),
    );
  }

-- what is kept of each field is kept of all
pub kept_then : (f : Option plain.Data → Option plain.Data) (fs : List (Option plain.Data → Option plain.Data)) (n : Name) (ns : List Name)
    (d : Option plain.Data) (ds : List (Option plain.Data))
    → f d ≡ d → (own_differ ns ≡ true → spelled_normal ns fs (spelled_fields ns ds) ≡ spelled_fields ns ds)
    → own_differ (n ∷ ns) ≡ true → spelled_normal (n ∷ ns) (f ∷ fs) (spelled_fields (n ∷ ns) (d ∷ ds)) ≡ spelled_fields (n ∷ ns) (d ∷ ds)
kept_then f fs n ns d ds own_kept rest differ =
    let other = other_first (own n) ns ds (first_differs n ns differ) in
    let behind_is = ap (spelled_normal ns fs) (behind-spelled (own n) d (spelled_fields ns ds) other) ∙ rest (others_differ n ns differ) in
    let front_is = ap f (front-spelled (own n) d (spelled_fields ns ds) other) ∙ own_kept in
    λ i. and_spelled (own n) (front_is i) (behind_is i)
