-- The fields of data are items in the schema's order: for layouts of structs and of variants with fields.
use Rattle.std.proofs.Common.{◌≡◌, Bool, true, false, not, ◌&&◌, cond, List, [], ◌∷◌, Some, None, find, refl, ap, ap₂, ◌∙◌}
use Rattle.std.specs.List.{list_any}
use Rattle.ron_spec_words.specs.Characters.{Text}
use Rattle.ron_spec_words.specs.Runs.{same_text}
use Rattle.std.proofs.lemmas.Bool.{and_parts}
use Rattle.ron_spec_words.proofs.Values.{Each}
use Rattle.ron_spec_grammar.specs.Data.{Fields, no_fields, field_and}
use Rattle.ron_spec_grammar.specs.Schema.{Field, is_named, names_differ, names_of, in_order}
use Rattle.ron_spec_grammar.specs.Shapes.Struct.{Item, is_of, with_item, arranged}
use Rattle.ron_spec_grammar.proofs.Finding.{same_is, same_self, names_parts}
use Rattle.ron_spec_grammar.proofs.Orders.{all_unlike}
use Rattle.ron_spec_layout.proofs.InOrder.{skip_item, others}

-- each field as an item
abbrev pub entries : Fields → List Item
entries no_fields = []
entries (field_and name d fields) = (name, d) ∷ entries fields

-- ---- the fields from the items

-- no item is of a name that none of the fields has
none_of : (name : Text) (ds : Fields) → Each (λ n. same_text n name ≡ false) (names_of ds) → find (is_of name) (entries ds) ≡ None
none_of name no_fields h = refl
none_of name (field_and n d ds) h = rw h.0 (none_of name ds h.1)

pub arranged_entries : (fields : List Field) (ds : Fields) → names_differ fields ≡ true → in_order fields (names_of ds) ≡ true
    → arranged fields (entries ds) ≡ Some ds
arranged_entries [] no_fields h e = refl
arranged_entries [] (field_and name d ds) h e = absurd (cc)
arranged_entries (f ∷ fields) no_fields h e =
    let k = and_parts f.may_be_missing (in_order fields []) e in
    ap (λ b. with_item b None (arranged fields [])) k.0 ∙ arranged_entries fields no_fields (names_parts f fields h).1 k.1
arranged_entries (f ∷ fields) (field_and name d ds) h e =
    go (is_named name f) refl e (arranged_entries fields ds differ.1) (arranged_entries fields (field_and name d ds) differ.1)
  where
    differ : (not (list_any (is_named f.name) fields) ≡ true) × (names_differ fields ≡ true)
    differ = names_parts f fields h

    item : Item
    item = (name, d)

    go : (b : Bool) → is_named name f ≡ b → cond b (in_order fields (names_of ds)) (f.may_be_missing && in_order fields (name ∷ names_of ds)) ≡ true
        → (in_order fields (names_of ds) ≡ true → arranged fields (entries ds) ≡ Some ds)
        → (in_order fields (name ∷ names_of ds) ≡ true → arranged fields (item ∷ entries ds) ≡ Some (field_and name (d) ds))
        → arranged (f ∷ fields) (item ∷ entries ds) ≡ Some (field_and name (d) ds)
    go true k q there other =
        let same : f.name ≡ name = same_is f.name name k in
        let first : find (is_of f.name) (item ∷ entries ds) ≡ Some item = ap (λ n. find (is_of n) (item ∷ entries ds)) same ∙ rw same_self refl in
        let unlike : Each (λ g. same_text g.name name ≡ false) fields = rw same at (others f.name fields differ.0) in
        ap₂ (with_item f.may_be_missing) first (skip_item item (entries ds) fields unlike ∙ there q)
    go false k q there other =
        let m = and_parts f.may_be_missing (in_order fields (name ∷ names_of ds)) q in
        let first : find (is_of f.name) (item ∷ entries ds) ≡ None =
        none_of f.name (field_and name d ds) (all_unlike f.name fields (name ∷ names_of ds) (others f.name fields differ.0) m.1) in
        ap₂ (λ b o. with_item b o (arranged fields (item ∷ entries ds))) m.0 first ∙ other m.1
