-- The items that were seen, the last of them first, say the same as the items in order.
use Rattle.std.proofs.Common.{◌≡◌, Bool, true, false, not, ◌&&◌, ◌||◌, cond, List, [], ◌∷◌, Option, Some, None, option_map, find, refl}
use Rattle.std.specs.List.{list_any}
use Rattle.std.specs.Option.{option_and_then, option_or}
use Rattle.ron_spec_words.specs.Characters.{Text}
use Rattle.ron_spec_grammar.specs.Schema.{Field, FieldList, is_called}
use Rattle.ron_spec_grammar.specs.Shapes.Struct.{Item, is_of, unless_seen, new_field, Target, known, unknown, target}

-- each item's name is none of those before it
abbrev pub AreNew : List Item → Type 0
AreNew [] = Unit {0}
AreNew (item ∷ seen) = (list_any (is_of item.0) seen ≡ false) × AreNew seen

-- what it takes to be a new field
pub record NewField (fields : List Field) (seen : List Item) (name : Text) (f : Field) : Type 0 where
  pub is_new : list_any (is_of f.name) seen ≡ false
  pub known : find (is_called name) fields ≡ Some f

pub new_field_some : (fields : List Field) (seen : List Item) (name : Text) (f : Field) → new_field fields seen name ≡ Some f → NewField fields seen name f
new_field_some fields seen name f e = found (find (is_called name) fields) refl e
  where
    found : (o : Option Field) → find (is_called name) fields ≡ o → option_and_then (unless_seen seen) o ≡ Some f → NewField fields seen name f
    found None k q = absurd (cc)
    found (Some g) k q = unseen (list_any (is_of g.name) seen) refl q
      where
        unseen : (b : Bool) → list_any (is_of g.name) seen ≡ b → cond b None (Some g) ≡ Some f → NewField fields seen name f
        unseen true h q = absurd (cc)
        unseen false h q = let same : g ≡ f = cc in rw (← same) (record { is_new = h; known = k })

-- what a name stands for behind these items: a new field, or none that it calls
abbrev pub StandsFor : FieldList → List Item → Text → Target → Type 0
StandsFor list seen name (known f) = NewField list.fields seen name f
StandsFor list seen name (unknown other) = (other ≡ name) × (list_any (is_called name) list.fields ≡ false)

pub target_some : (list : FieldList) (seen : List Item) (name : Text) (t : Target) → target list seen name ≡ Some t → StandsFor list seen name t
target_some list seen name t e = go list.skips_unknown (list_any (is_called name) list.fields) refl e
  where
    new : (o : Option Field) → new_field list.fields seen name ≡ o → option_map known o ≡ Some t → StandsFor list seen name t
    new None k q = absurd (cc)
    new (Some f) k q = let same : known f ≡ t = cc in rw (← same) (new_field_some list.fields seen name f k)

    go : (a b : Bool) → list_any (is_called name) list.fields ≡ b
        → cond (a && not b) (Some (unknown name)) (option_map known (new_field list.fields seen name)) ≡ Some t → StandsFor list seen name t
    go true false h q = let same : unknown name ≡ t = cc in rw (← same) (refl, h)
    go true true h q = new (new_field list.fields seen name) refl q
    go false b h q = new (new_field list.fields seen name) refl q

pub none_found : {A : Type 0} (test : A → Bool) (seen : List A) → list_any test seen ≡ false → find test seen ≡ None
none_found test [] e = refl
none_found {A} test (item ∷ seen) e = go (test item) refl e (none_found test seen)
  where
    go : (b : Bool) → test item ≡ b → (b || list_any test seen) ≡ false → (list_any test seen ≡ false → find test seen ≡ None)
        → cond b (Some item) (find test seen) ≡ None
    go true h k ih = absurd (cc)
    go false h k ih = ih k

pub or_none : {A : Type 0} (o : Option A) → option_or o None ≡ o
or_none None = refl
or_none (Some a) = refl
