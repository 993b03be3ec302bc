-- What a name in a list of fields stands for, by the index that code finds.
use Rattle.std.proofs.Common.{◌≡◌, ℕ, ◌<◌, Bool, true, false, not, ◌&&◌, cond, List, [], map, length, Option, Some, None, option_map, slice_get, get_or, IfSome}
use Rattle.std.proofs.Common.{refl, sym, subst, ap, ap₂, ◌∙◌, arith}
use Rattle.std.specs.List.{list_any, position}
use Rattle.std.proofs.lemmas.List.{length-map}
use Rattle.std.proofs.lemmas.Option.{slice_get-get_or}
use Rattle.std.proofs.Math.Bool.{and-false}
use Rattle.ron_spec_words.specs.Characters.{Text}
use Rattle.ron_spec_grammar.specs.Schema.{Field, FieldList, field, is_called}
use Rattle.ron_spec_grammar.specs.Shapes.Struct.{Item, known, unknown, target, new_field}
use Rattle.ron_spec_grammar.proofs.Finding.{found_any, none_any}
use Rattle.ron_data.specs.declared.data.Data.{Data}
use Rattle.ron_data_schema.specs.declared.schema.FieldList as code
use Rattle.ron_data_schema.specs.declared.schema.FieldShape.{FieldShape}
use Rattle.ron_data_schema.specs.Shapes.{field_view, list_view}
use Rattle.ron_data.specs.declared.slots.Slots.{Slots}
use Rattle.ron_data.specs.Slots.{slots_view, AreSlotsOf, is_filled, so_far, slots_in, IsFree, IsUnknownField}
use Rattle.ron_base.specs.declared.error.Error.{Error}
use Rattle.ron_de_parts.specs.Errors.{IsOfText}
use Rattle.ron_data.proofs.SlotLemmas.{slot_kept}
use Rattle.ron_de_parts.proofs.SlotLemmas.{found_at, no_new_field, taken, empty}

-- ---- what a name stands for

module _ (list : FieldList) (seen : List Item) (name : Text) where
  target_there : list_any (is_called name) list.fields ≡ true → target list seen name ≡ option_map known (new_field list.fields seen name)
  target_there h = let e : (list.skips_unknown && not (list_any (is_called name) list.fields)) ≡ false =
      ap (λ b. list.skips_unknown && not b) h ∙ and-false list.skips_unknown in
      ap (λ b. cond b (Some (unknown name)) (option_map known (new_field list.fields seen name))) e

  target_kept : list.skips_unknown ≡ false → target list seen name ≡ option_map known (new_field list.fields seen name)
  target_kept h = ap (λ b. cond (b && not (list_any (is_called name) list.fields)) (Some (unknown name)) (option_map known (new_field list.fields seen name))) h

  target_skipped : list.skips_unknown ≡ true → list_any (is_called name) list.fields ≡ false → target list seen name ≡ Some (unknown name)
  target_skipped h k = ap₂ (λ a b. cond (a && not b) (Some (unknown name)) (option_map known (new_field list.fields seen name))) h k

-- ---- what code finds

-- an index of code's list is one of the list
pub in_view : (fields : List FieldShape) (slots : Slots) (index : Option ℕ) → IfSome index (IsFree fields slots)
    → IfSome index (λ i. i < length (map field_view fields))
in_view fields slots None free = tt
in_view fields slots (Some i) free = omega (arith, free.0, length-map fields field_view)

-- the index of a name's field is one of the list, and its slot is filled where code has put something in
module _ (name : Text) (fields : List FieldShape) (slots : Slots) (index : ℕ) (e : Some index ≡ position (λ f. is_called name (field_view f)) fields) where
  pub in_list : index < length fields
  in_list = (found_at name fields (Some index) e).0

  pub kept_in : (b r : Bool) → r ≡ is_filled (slice_get (so_far slots) index) → r ≡ b → is_filled (slice_get (slots_in fields slots) index) ≡ b
  kept_in b r is eq = slot_kept (length fields) (so_far slots) index in_list ∙ sym is ∙ eq

  pub free_there : (r : Bool) → r ≡ is_filled (slice_get (so_far slots) index) → r ≡ false → IsFree fields slots index
  free_there r is eq = (in_list, sym is ∙ eq)

module _ (name : Text) (list : code.FieldList) (seen : List Item) (fields : List FieldShape) (same : fields ≡ list.fields.items) where
  -- where no index is found: none of the name, or it is skipped
  module _ (e : None ≡ position (λ f. is_called name (field_view f)) fields) where
    none_here : None ≡ position (λ f. is_called name (field_view f)) list.fields.items
    none_here = e ∙ ap (position (λ (f : FieldShape). is_called name (field_view f))) same

    pub no_target : list.skip_unknown ≡ false → target (list_view list) seen name ≡ None
    no_target h = target_kept (list_view list) seen name h ∙ ap (option_map known) (no_new_field name list.fields.items seen none_here)

    pub unknown_target : list.skip_unknown ≡ true → target (list_view list) seen name ≡ Some (unknown name)
    unknown_target h = target_skipped (list_view list) seen name h
        (none_any (is_called name) (map field_view list.fields.items) (found_at name list.fields.items None none_here))

  -- where one is: the field there, if its slot is empty
  module _ (index : ℕ) (e : Some index ≡ position (λ f. is_called name (field_view f)) fields) (slots : List (Option Data))
      (h : AreSlotsOf (slots_view slots) (map field_view list.fields.items) seen) where
    some_here : Some index ≡ position (λ f. is_called name (field_view f)) list.fields.items
    some_here = e ∙ ap (position (λ (f : FieldShape). is_called name (field_view f))) same

    is_there : list_any (is_called name) (map field_view list.fields.items) ≡ true
    is_there =
        let found = found_at name list.fields.items (Some index) some_here in
        let lt : index < length (map field_view list.fields.items) = omega (arith, found.0, length-map list.fields.items field_view) in
        let none : Field = field [] 0 in
        found_any (is_called name) (map field_view list.fields.items) (get_or (map field_view list.fields.items) index none)
        (found.1 ∙ slice_get-get_or (map field_view list.fields.items) index none lt)

    pub taken_target : is_filled (slice_get slots index) ≡ true → target (list_view list) seen name ≡ None
    taken_target t = target_there (list_view list) seen name is_there ∙ ap (option_map known) (taken name list.fields.items seen slots index some_here h t)

    pub new_target : is_filled (slice_get slots index) ≡ false
        → target (list_view list) seen name ≡ option_map known (slice_get (map field_view list.fields.items) index)
    new_target t = target_there (list_view list) seen name is_there ∙ ap (option_map known) (empty name list.fields.items seen slots index some_here h t)

-- what is told of a name that no field has
pub unknown_text : (e : Error) → IsUnknownField e → IsOfText e
unknown_text e h = subst IsOfText (sym h.3) (refl, tt)
