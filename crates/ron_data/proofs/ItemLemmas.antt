-- The items that slots hold, by field: for the readers and conversions that fill slots.
use Rattle.std.proofs.Common.{◌≡◌, ℕ, zero, suc, Bool, true, false, not, List, [], ◌∷◌, map, Option, Some, None, option_map, slice_get, find, refl, sym, ap}
use Rattle.std.proofs.Common.{◌∙◌}
use Rattle.std.specs.List.{list_any}
use Rattle.ron_spec_grammar.specs.Data as plain
use Rattle.ron_spec_grammar.specs.Schema.{Field}
use Rattle.ron_spec_grammar.specs.Shapes.Struct.{Item, is_of, with_item, arranged}
use Rattle.ron_spec_grammar.proofs.Finding.{same_is, nor, find_some, each_any}
use Rattle.ron_data.specs.declared.data.Data.{Data}
use Rattle.ron_data_schema.specs.declared.schema.FieldShape.{FieldShape}
use Rattle.ron_data_schema.specs.Shapes.{field_view}
use Rattle.ron_data.specs.Slots.{slots_view, slot_of, AreSlotsOf, filled}

-- an element of a list of which none passes a test
pub none_at : {A : Type 0} (test : A → Bool) (xs : List A) (i : ℕ) (a : A) → not (list_any test xs) ≡ true → slice_get xs i ≡ Some a → test a ≡ false
none_at test [] i a h e = absurd (cc)
none_at test (y ∷ xs) zero a h e = let same : a ≡ y = cc in ap test same ∙ (nor (test y) (list_any test xs) h).0
none_at test (y ∷ xs) (suc i) a h e = none_at test xs i a (nor (test y) (list_any test xs) h).1 e

-- empty slots hold no items
pub slots-nothing : (fields : List FieldShape) (slots : List (Option Data)) → slots ≡ map (λ _. None) fields
    → AreSlotsOf (slots_view slots) (map field_view fields) []
slots-nothing fields slots e = ap slots_view e ∙ go fields
  where
    go : (fields : List FieldShape) → slots_view (map (λ _. None) fields) ≡ map (slot_of []) (map field_view fields)
    go [] = refl
    go (f ∷ fields) = ap (λ slots. None ∷ slots) (go fields)

-- the fields from their slots are the items in the list's order

slot_item : (items : List Item) (f : Field) (rest : Option plain.Fields)
    → with_item f.may_be_missing (option_map (λ d. (f.name, d)) (slot_of items f)) rest ≡ with_item f.may_be_missing (find (is_of f.name) items) rest
slot_item items f rest = go (find (is_of f.name) items) refl
  where
    go : (o : Option Item) → find (is_of f.name) items ≡ o
        → with_item f.may_be_missing (option_map (λ (d : plain.Data). (f.name, d)) (option_map (λ (i : Item). i.1) o)) rest ≡ with_item f.may_be_missing o rest
    go None e = refl
    go (Some item) e =
        let named : item.0 ≡ f.name = same_is item.0 f.name (find_some (λ _. Unit {0}) (is_of f.name) items item e (each_any items)).0 in
        ap (λ n. option_map (plain.field_and n item.1) rest) (sym named)

filled_seen : (fields : List Field) (items : List Item) → filled fields (map (slot_of items) fields) ≡ arranged fields items
filled_seen [] items = refl
filled_seen (f ∷ fields) items =
    ap (with_item f.may_be_missing (option_map (λ d. (f.name, d)) (slot_of items f))) (filled_seen fields items) ∙ slot_item items f (arranged fields items)

pub filled_is : (fields : List Field) (items : List Item) (slots : List (Option plain.Data)) → AreSlotsOf slots fields items
    → filled fields slots ≡ arranged fields items
filled_is fields items slots h = ap (filled fields) h ∙ filled_seen fields items
