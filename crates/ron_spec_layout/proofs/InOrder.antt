-- Each field of data that stands in the schema's order is a new one: for layouts of structs and of variants with fields.
use Rattle.std.proofs.Common.{◌≡◌, Bool, true, false, not, ◌&&◌, cond, List, [], ◌∷◌, Some, option_map, find, refl, sym, ap, ap₂}
use Rattle.std.specs.List.{list_any}
use Rattle.ron_spec_words.specs.Characters.{Text}
use Rattle.ron_spec_words.specs.Runs.{same_text}
use Rattle.std.proofs.lemmas.Bool.{and_parts}
use Rattle.ron_spec_words.proofs.Values.{Each}
use Rattle.ron_spec_grammar.specs.Data.{Data}
use Rattle.ron_spec_grammar.specs.Schema.{Field, FieldList, is_named, is_called, names_differ, in_order}
use Rattle.ron_spec_grammar.specs.Shapes.Struct.{Item, is_of, new_field, known, unknown, target, with_item, arranged}
use Rattle.ron_spec_grammar.proofs.Finding.{same_is, other_sym, nor, found_any, IsFound, are_found, IsMeant, are_meant, names_parts}

-- none of the fields has the first one's name
pub others : (name : Text) (fields : List Field) → not (list_any (is_named name) fields) ≡ true → Each (λ f. same_text f.name name ≡ false) fields
others name [] h = tt
others name (f ∷ fields) h = let k = nor (is_named name f) (list_any (is_named name) fields) h in (k.0, others name fields k.1)

-- ---- the fields from the items

pub skip_item : (item : Item) (xs : List Item) (fields : List Field) → Each (λ f. same_text f.name item.0 ≡ false) fields
    → arranged fields (item ∷ xs) ≡ arranged fields xs
skip_item item xs [] h = refl
skip_item item xs (f ∷ fields) h = ap₂ (with_item f.may_be_missing) (rw (other_sym f.name item.0 h.0) refl) (skip_item item xs fields h.1)

-- ---- each item's name is a new field

-- a field of the schema, called by its name, that no item before it is of
pub record IsNew (all : List Field) (seen : List Item) (f : Field) : Type 0 where
  pub unseen : list_any (is_of f.name) seen ≡ false
  pub known : find (is_called f.name) all ≡ Some f
  pub named : find (is_named f.name) all ≡ Some f

pub is_new_field : (all : List Field) (seen : List Item) (f : Field) → IsNew all seen f → new_field all seen f.name ≡ Some f
is_new_field all seen f h = rw (h.known, h.unseen) refl

pub is_new_target : (list : FieldList) (seen : List Item) (f : Field) → IsNew list.fields seen f → target list seen f.name ≡ Some (known f)
is_new_target list seen f h = go list.skips_unknown
  where
    go : (b : Bool) → cond (b && not (list_any (is_called f.name) list.fields)) (Some (unknown f.name)) (option_map known (new_field list.fields seen f.name))
        ≡ Some (known f)
    go true = rw (found_any (is_called f.name) list.fields f h.known) (ap (option_map known) (is_new_field list.fields seen f h))
    go false = ap (option_map known) (is_new_field list.fields seen f h)

-- behind another item
pub behind_item : (all : List Field) (seen : List Item) (item : Item) (fields : List Field) → Each (λ f. same_text f.name item.0 ≡ false) fields
    → Each (IsNew all seen) fields → Each (IsNew all (item ∷ seen)) fields
behind_item all seen item [] o h = tt
behind_item all seen item (f ∷ fields) o h =
    (record { unseen = rw (other_sym f.name item.0 o.0) h.0.unseen; known = h.0.known; named = h.0.named }, behind_item all seen item fields o.1 h.1)

pub all_new : (fields : List Field) → names_differ fields ≡ true → Each (IsNew fields []) fields
unfolding IsFound IsMeant
all_new fields h = both fields (are_found fields h) (are_meant fields h)
  where
    both : (gs : List Field) → Each (IsFound fields) gs → Each (IsMeant fields) gs → Each (IsNew fields []) gs
    both [] f m = tt
    both (g ∷ gs) f m = (record { unseen = refl; known = m.0; named = f.0 }, both gs f.1 m.1)

-- each name is that of a new field, behind items of the names before it
abbrev pub AreNewNames : List Field → List Item → List Text → Type 0
AreNewNames all seen [] = Unit {0}
AreNewNames all seen (n ∷ names) = (f : Field) × (n ≡ f.name) × IsNew all seen f × ((d : Data) → AreNewNames all ((n, d) ∷ seen) names)

pub new_names : (all : List Field) (fields : List Field) (names : List Text) (seen : List Item) → names_differ fields ≡ true → in_order fields names ≡ true
    → Each (IsNew all seen) fields → AreNewNames all seen names
new_names all [] [] seen h e new = tt
new_names all [] (n ∷ names) seen h e new = absurd (cc)
new_names all (f ∷ fields) [] seen h e new = tt
new_names all (f ∷ fields) (n ∷ names) seen h e new =
    go (is_named n f) refl e (λ d q z. new_names all fields names ((n, d) ∷ seen) differ.1 q z) (λ q. new_names all fields (n ∷ names) seen differ.1 q new.1)
  where
    differ : (not (list_any (is_named f.name) fields) ≡ true) × (names_differ fields ≡ true)
    differ = names_parts f fields h

    go : (b : Bool) → is_named n f ≡ b → cond b (in_order fields names) (f.may_be_missing && in_order fields (n ∷ names)) ≡ true
        → ((d : Data) → in_order fields names ≡ true → Each (IsNew all ((n, d) ∷ seen)) fields → AreNewNames all ((n, d) ∷ seen) names)
        → (in_order fields (n ∷ names) ≡ true → AreNewNames all seen (n ∷ names)) → AreNewNames all seen (n ∷ names)
    go true k q there other =
        let same : f.name ≡ n = same_is f.name n k in
        let unlike : Each (λ g. same_text g.name n ≡ false) fields = rw same at (others f.name fields differ.0) in
        (f, sym same, new.0, λ d. there d q (behind_item all seen (n, d) fields unlike new.1))
    go false k q there other = other (and_parts f.may_be_missing (in_order fields (n ∷ names)) q).1
