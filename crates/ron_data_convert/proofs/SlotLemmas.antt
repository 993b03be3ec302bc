-- Slots by field, and the items that they hold: for fields that a map gives in any order.
use Rattle.std.proofs.Common.{◌≡◌, ℕ, zero, suc, Bool, true, false, not, ◌||◌, cond, List, [], ◌∷◌, ◌++◌, map, Option, Some, None, option_map, slice_get, set}
use Rattle.std.proofs.Common.{find, refl, sym, ap, ap₂, ◌∙◌, append_assoc}
use Rattle.std.specs.Option.{is_some, option_or}
use Rattle.std.specs.List.{list_any}
use Rattle.std.proofs.lemmas.Option.{slice_get-map}
use Rattle.std.proofs.lemmas.List.{map-set}
use Rattle.std.proofs.lemmas.List.Folds.{find-append}
use Rattle.ron_spec_words.specs.Turns.{all_items}
use Rattle.ron_spec_grammar.specs.Data as plain
use Rattle.ron_spec_grammar.specs.Schema.{Field, is_named, names_differ}
use Rattle.ron_spec_grammar.specs.Shapes.Struct.{Item, is_of}
use Rattle.ron_spec_grammar.proofs.Finding.{same_self, other_sym, nor, names_parts}
use Rattle.ron_spec_grammar.proofs.Seen.{or_none}
use Rattle.ron_data.specs.declared.data.Data.{Data}
use Rattle.ron_data.specs.Datum.{data_view}
use Rattle.ron_data.specs.Slots.{slots_view, slot_of, AreSlotsOf, is_filled}
use Rattle.ron_data.proofs.ItemLemmas.{none_at}
use Rattle.ron_data.proofs.SlotLemmas.{filled_slot}

-- ---- the items so far, the last of them first

items_before : (seen xs : List Item) → all_items seen xs ≡ all_items seen [] ++ xs
items_before [] xs = refl
items_before (item ∷ seen) xs =
    items_before seen (item ∷ xs) ∙ sym (append_assoc (all_items seen []) (item ∷ []) xs) ∙ ap (λ ys. ys ++ xs) (sym (items_before seen (item ∷ [])))

find_last : (test : Item → Bool) (seen : List Item) (item : Item)
    → find test (all_items (item ∷ seen) []) ≡ option_or (find test (all_items seen [])) (find test (item ∷ []))
find_last test seen item = ap (find test) (items_before seen (item ∷ [])) ∙ find-append test (all_items seen []) (item ∷ [])

-- one is found among all where one is among those that were seen
found_seen : (test : Item → Bool) (seen : List Item) → is_some (find test (all_items seen [])) ≡ list_any test seen
found_seen test [] = refl
found_seen test (item ∷ seen) = ap is_some (find_last test seen item) ∙ go (find test (all_items seen [])) (test item) (found_seen test seen)
  where
    go : (o : Option Item) (b : Bool) → is_some o ≡ list_any test seen → is_some (option_or o (cond b (Some item) None)) ≡ (b || list_any test seen)
    go None true e = refl
    go None false e = e
    go (Some x) true e = refl
    go (Some x) false e = e

none_of : {A : Type 0} (o : Option A) → is_some o ≡ false → o ≡ None
none_of None e = refl
none_of (Some a) e = absurd (cc)

-- ---- one more item

slot_other : (seen : List Item) (item : Item) (f : Field) → is_of f.name item ≡ false → slot_of (all_items (item ∷ seen) []) f ≡ slot_of (all_items seen []) f
slot_other seen item f e =
    ap (option_map (λ (i : Item). i.1)) (find_last (is_of f.name) seen item
    ∙ ap (λ b. option_or (find (is_of f.name) (all_items seen [])) (cond b (Some item) None)) e ∙ or_none (find (is_of f.name) (all_items seen [])))

slot_own : (seen : List Item) (f : Field) (d : plain.Data) → list_any (is_of f.name) seen ≡ false → slot_of (all_items ((f.name, d) ∷ seen) []) f ≡ Some d
slot_own seen f d e =
    ap (option_map (λ (i : Item). i.1)) (find_last (is_of f.name) seen (f.name, d) ∙ ap₂ (λ o b. option_or o (cond b (Some (f.name, d)) None))
    (none_of (find (is_of f.name) (all_items seen [])) (found_seen (is_of f.name) seen ∙ e)) (same_self f.name))

-- of a name that no field has
pub slots_other : (seen : List Item) (item : Item) (fields : List Field) → not (list_any (is_named item.0) fields) ≡ true
    → map (slot_of (all_items (item ∷ seen) [])) fields ≡ map (slot_of (all_items seen [])) fields
slots_other seen item [] h = refl
slots_other seen item (f ∷ fields) h =
    let k = nor (is_named item.0 f) (list_any (is_named item.0) fields) h in
    ap₂ (λ slot slots. slot ∷ slots) (slot_other seen item f (other_sym f.name item.0 k.0)) (slots_other seen item fields k.1)

-- of the field at an index, where none is of it yet
slots_set : (fields : List Field) (seen : List Item) (i : ℕ) (f : Field) (d : plain.Data) → names_differ fields ≡ true → slice_get fields i ≡ Some f
    → list_any (is_of f.name) seen ≡ false
    → map (slot_of (all_items ((f.name, d) ∷ seen) [])) fields ≡ set (map (slot_of (all_items seen [])) fields) i (Some d)
slots_set [] seen i f d h at new = absurd (cc)
slots_set (g ∷ fields) seen zero f d h at new =
    let same : f ≡ g = cc in
    let others : not (list_any (is_named f.name) fields) ≡ true =
    ap (λ (k : Field). not (list_any (is_named k.name) fields)) same ∙ (names_parts g fields h).0 in
    ap₂ (λ slot slots. slot ∷ slots) (ap (slot_of (all_items ((f.name, d) ∷ seen) [])) (sym same) ∙ slot_own seen f d new)
    (slots_other seen (f.name, d) fields others)
slots_set (g ∷ fields) seen (suc i) f d h at new =
    let k = names_parts g fields h in
    ap₂ (λ slot slots. slot ∷ slots) (slot_other seen (f.name, d) g (none_at (is_named g.name) fields i f k.0 at)) (slots_set fields seen i f d k.1 at new)

pub slots_more : (fields : List Field) (seen : List Item) (slots more : List (Option Data)) (i : ℕ) (f : Field) (d : Data) → names_differ fields ≡ true
    → AreSlotsOf (slots_view slots) fields (all_items seen []) → slice_get fields i ≡ Some f → list_any (is_of f.name) seen ≡ false
    → more ≡ set slots i (Some d) → AreSlotsOf (slots_view more) fields (all_items ((f.name, data_view d) ∷ seen) [])
slots_more fields seen slots more i f d h are at new m =
    ap slots_view m ∙ map-set (option_map data_view) slots i (Some d) ∙ ap (λ s. set s i (Some (data_view d))) are
    ∙ sym (slots_set fields seen i f (data_view d) h at new)

-- ---- the slot of a field

some_mapped : (o : Option Item) → is_some (option_map (λ (i : Item). i.1) o) ≡ is_some o
some_mapped None = refl
some_mapped (Some item) = refl

-- it is filled where an item of the field was seen
pub filled_seen : (fields : List Field) (seen : List Item) (slots : List (Option Data)) (i : ℕ) (f : Field)
    → AreSlotsOf (slots_view slots) fields (all_items seen []) → slice_get fields i ≡ Some f → is_filled (slice_get slots i) ≡ list_any (is_of f.name) seen
filled_seen fields seen slots i f are at =
    let slot = sym (slice_get-map (option_map data_view) slots i) ∙ ap (λ s. slice_get s i) are ∙ slice_get-map (slot_of (all_items seen [])) fields i
    ∙ ap (option_map (slot_of (all_items seen []))) at in
    filled_slot (slice_get slots i) (slot_of (all_items seen []) f) slot ∙ some_mapped (find (is_of f.name) (all_items seen []))
    ∙ found_seen (is_of f.name) seen
