-- Slots by field, and the items that they hold: for fields that a text gives in any order.
use Rattle.std.proofs.Common.{◌≡◌, ℕ, zero, suc, ◌<◌, Bool, true, false, not, ◌||◌, cond, List, [], ◌∷◌, map, length, Option, Some, None, option_map}
use Rattle.std.proofs.Common.{MatchOption, slice_get, set, find, refl, sym, ap, ap₂, subst, ◌∙◌}
use Rattle.std.specs.Option.{is_some, option_and_then}
use Rattle.std.specs.List.{list_any, position}
use Rattle.std.proofs.lemmas.Option.{slice_get-map}
use Rattle.std.proofs.lemmas.List.{map-set}
use Rattle.ron_spec_words.specs.Characters.{Text}
use Rattle.ron_spec_words.specs.Runs.{same_text}
use Rattle.ron_spec_grammar.specs.Data as plain
use Rattle.ron_spec_grammar.specs.Schema.{Field, is_named, is_called, names_differ}
use Rattle.ron_spec_grammar.specs.Shapes.Struct.{Item, is_of, unless_seen, new_field}
use Rattle.ron_spec_grammar.proofs.Finding.{same_self, other_sym, nor, names_parts, named_called}
use Rattle.ron_data.proofs.PositionLemmas.{find_position}
use Rattle.ron_data.specs.declared.data.Data.{Data}
use Rattle.ron_data_schema.specs.declared.schema.FieldShape.{FieldShape}
use Rattle.ron_data.specs.Datum.{data_view}
use Rattle.ron_data_schema.specs.Shapes.{field_view}
use Rattle.ron_data.specs.Slots.{slots_view, slot_of, AreSlotsOf, is_filled}
use Rattle.ron_data.proofs.ItemLemmas.{none_at}
use Rattle.ron_data.proofs.SlotLemmas.{filled_slot}

-- ---- one more item before others

slot_other : (seen : List Item) (item : Item) (f : Field) → same_text item.0 f.name ≡ false → slot_of (item ∷ seen) f ≡ slot_of seen f
slot_other seen item f e = rw e refl

slots_other : (seen : List Item) (name : Text) (d : plain.Data) (fields : List Field) → not (list_any (is_named name) fields) ≡ true
    → map (slot_of ((name, d) ∷ seen)) fields ≡ map (slot_of seen) fields
slots_other seen name d [] h = refl
slots_other seen name d (f ∷ fields) h =
    let k = nor (is_named name f) (list_any (is_named name) fields) h in
    ap₂ (λ slot slots. slot ∷ slots) (slot_other seen (name, d) f (other_sym f.name name k.0)) (slots_other seen name d fields k.1)

slots_set : (fields : List Field) (seen : List Item) (index : ℕ) (f : Field) (d : plain.Data) → names_differ fields ≡ true → slice_get fields index ≡ Some f
    → set (map (slot_of seen) fields) index (Some d) ≡ map (slot_of ((f.name, d) ∷ seen)) fields
slots_set [] seen index f d h e = absurd (cc)
slots_set (g ∷ fields) seen zero f d h e =
    let same : g ≡ f = cc in
    let k = names_parts g fields h in
    let here : slot_of ((g.name, d) ∷ seen) g ≡ Some d = rw (same_self g.name) refl in
    subst (λ (u : Field). Some d ∷ map (slot_of seen) fields ≡ map (slot_of ((u.name, d) ∷ seen)) (g ∷ fields)) same
    (ap₂ (λ slot slots. slot ∷ slots) (sym here) (sym (slots_other seen g.name d fields k.0)))
slots_set (g ∷ fields) seen (suc index) f d h e =
    let k = names_parts g fields h in
    ap₂ (λ slot slots. slot ∷ slots) (sym (slot_other seen (f.name, d) g (none_at (is_named g.name) fields index f k.0 e)))
    (slots_set fields seen index f d k.1 e)

pub slots-more : (fields : List Field) (seen : List Item) (slots more : List (Option Data)) (index : ℕ) (f : Field) (d : Data) → names_differ fields ≡ true
    → AreSlotsOf (slots_view slots) fields seen → slice_get fields index ≡ Some f
    → more ≡ set slots index (Some d) → AreSlotsOf (slots_view more) fields ((f.name, data_view d) ∷ seen)
slots-more fields seen slots more index f d h e at m = ap slots_view m ∙ map-set (option_map data_view) slots index (Some d)
    ∙ ap (λ s. set s index (Some (data_view d))) e ∙ slots_set fields seen index f (data_view d) h at

-- a name that calls no field names none
unnamed : (name : Text) (fields : List Field) → list_any (is_called name) fields ≡ false → not (list_any (is_named name) fields) ≡ true
unnamed name fields u = go (list_any (is_named name) fields) refl
  where
    go : (b : Bool) → list_any (is_named name) fields ≡ b → not b ≡ true
    go true e = absurd (let q : true ≡ false = sym (named_called name fields e) ∙ u in cc)
    go false e = refl

-- an item whose name calls no field leaves the slots as they are
pub slots-skipped : (fields : List Field) (seen : List Item) (slots more : List (Option Data)) (name : Text) (d : plain.Data) → list_any (is_called name) fields
    ≡ false → AreSlotsOf (slots_view slots) fields seen → more ≡ slots → AreSlotsOf (slots_view more) fields ((name, d) ∷ seen)
slots-skipped fields seen slots more name d u e m = ap slots_view m ∙ e ∙ sym (slots_other seen name d fields (unnamed name fields u))

-- ---- the slot of an index

pub in_slot : (fields : List Field) (seen : List Item) (slots : List (Option Data)) (index : ℕ) (f : Field) → AreSlotsOf (slots_view slots) fields seen
    → slice_get fields index ≡ Some f → option_map (option_map data_view) (slice_get slots index) ≡ Some (slot_of seen f)
in_slot fields seen slots index f h at = sym (slice_get-map (option_map data_view) slots index) ∙ ap (λ s. slice_get s index) h
    ∙ slice_get-map (slot_of seen) fields index ∙ ap (option_map (slot_of seen)) at

seen_any : (name : Text) (seen : List Item) → list_any (is_of name) seen ≡ is_some (option_map (λ (i : Item). i.1) (find (is_of name) seen))
seen_any name [] = refl
seen_any name (item ∷ seen) = go (is_of name item) (seen_any name seen)
  where
    go : (b : Bool) → list_any (is_of name) seen ≡ is_some (option_map (λ (i : Item). i.1) (find (is_of name) seen))
        → (b || list_any (is_of name) seen) ≡ is_some (option_map (λ (i : Item). i.1) (cond b (Some item) (find (is_of name) seen)))
    go true ih = refl
    go false ih = ih

-- ---- the field of a name

pub found_at : (name : Text) (fields : List FieldShape) (o : Option ℕ) → o ≡ position (λ f. is_called name (field_view f)) fields
    → MatchOption o (find (is_called name) (map field_view fields) ≡ None)
    (λ index. (index < length fields) × (find (is_called name) (map field_view fields) ≡ slice_get (map field_view fields) index))
found_at name fields = find_position field_view (is_called name) fields

pub no_new_field : (name : Text) (fields : List FieldShape) (seen : List Item) → None ≡ position (λ f. is_called name (field_view f)) fields
    → new_field (map field_view fields) seen name ≡ None
no_new_field name fields seen e = ap (option_and_then (unless_seen seen)) (found_at name fields None e)

no_field : (b : Bool) (o : Option Field) → o ≡ None → cond b None o ≡ None
no_field true o e = refl
no_field false o e = e

pub new_at : (name : Text) (fields : List FieldShape) (seen : List Item) (slots : List (Option Data)) (index : ℕ)
    → Some index ≡ position (λ f. is_called name (field_view f)) fields → AreSlotsOf (slots_view slots) (map field_view fields) seen
    → new_field (map field_view fields) seen name ≡ cond (is_filled (slice_get slots index)) None (slice_get (map field_view fields) index)
new_at name fields seen slots index e h = go (slice_get (map field_view fields) index) refl
  where
    found : find (is_called name) (map field_view fields) ≡ slice_get (map field_view fields) index
    found = (found_at name fields (Some index) e).1

    go : (o : Option Field) → slice_get (map field_view fields) index ≡ o
        → new_field (map field_view fields) seen name ≡ cond (is_filled (slice_get slots index)) None (slice_get (map field_view fields) index)
    go None at = ap (option_and_then (unless_seen seen)) (found ∙ at) ∙ sym (no_field (is_filled (slice_get slots index)) _ at)
    go (Some f) at =
        let slot : is_filled (slice_get slots index) ≡ is_some (slot_of seen f) =
        filled_slot (slice_get slots index) (slot_of seen f) (in_slot (map field_view fields) seen slots index f h at) in
        let any : list_any (is_of f.name) seen ≡ is_filled (slice_get slots index) = seen_any f.name seen ∙ sym slot in
        ap (option_and_then (unless_seen seen)) (found ∙ at) ∙ ap₂ (λ b o. cond b None o) any (sym at)

pub taken : (name : Text) (fields : List FieldShape) (seen : List Item) (slots : List (Option Data)) (index : ℕ)
    → Some index ≡ position (λ f. is_called name (field_view f)) fields → AreSlotsOf (slots_view slots) (map field_view fields) seen
    → is_filled (slice_get slots index) ≡ true → new_field (map field_view fields) seen name ≡ None
taken name fields seen slots index e h t = new_at name fields seen slots index e h ∙ ap (λ b. cond b None (slice_get (map field_view fields) index)) t

pub empty : (name : Text) (fields : List FieldShape) (seen : List Item) (slots : List (Option Data)) (index : ℕ)
    → Some index ≡ position (λ f. is_called name (field_view f)) fields → AreSlotsOf (slots_view slots) (map field_view fields) seen
    → is_filled (slice_get slots index) ≡ false → new_field (map field_view fields) seen name ≡ slice_get (map field_view fields) index
empty name fields seen slots index e h t = new_at name fields seen slots index e h ∙ ap (λ b. cond b None (slice_get (map field_view fields) index)) t
