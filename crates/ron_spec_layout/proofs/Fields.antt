-- Fields from a list whose elements have names and data: for the loops of `ron_ser` over fields.
use Rattle.std.proofs.Common.{◌≡◌, Bool, true, false, cond, ◌&&◌, Option, Some, List, [], ◌∷◌, refl}
use Rattle.std.specs.List.{list_all}
use Rattle.std.specs.Option.{option_or}
use Rattle.ron_spec_words.specs.Characters.{Text}
use Rattle.ron_spec_words.specs.Name.{is_name}
use Rattle.ron_spec_grammar.specs.Data.{Data, Fields, no_fields, field_and}
use Rattle.ron_spec_layout.specs.Name.{names_ok, field_names_ok, first_refused, first_refused_of}
use Rattle.ron_spec_layout.proofs.Firsts.{first_name}

-- ---- of one field

-- its names can be written
abbrev pub field_ok : Text → Data → Bool
field_ok name d = is_name name && names_ok d

-- its first name that cannot
abbrev pub field_refused : Text → Data → Option Text
field_refused name d = cond (is_name name) (first_refused d) (Some name)

-- ---- of a list of them

pub and_sides : (a b c : Bool) → (a && (b && c)) ≡ ((a && b) && c)
and_sides true b c = refl
and_sides false b c = refl

module _ {A : Type 0} (name : A → Text) (data_of : A → Data) where
  abbrev pub fields_from : List A → Fields
  fields_from [] = no_fields
  fields_from (e ∷ es) = field_and (name e) (data_of e) (fields_from es)

  pub names-from : (es : List A) → field_names_ok (fields_from es) ≡ list_all (λ e. field_ok (name e) (data_of e)) es
  names-from [] = refl
  names-from (e ∷ es) = rw (names-from es) (and_sides (is_name (name e)) (names_ok (data_of e)) (list_all (λ e. field_ok (name e) (data_of e)) es))

  pub refused-from : (es : List A) → first_refused_of (fields_from es) ≡ first_name (λ e. field_refused (name e) (data_of e)) es
  refused-from [] = refl
  refused-from (e ∷ es) = rw (refused-from es) (sides (is_name (name e)))
    where
      sides : (b : Bool) → cond b (option_or (first_refused (data_of e)) (first_name (λ e. field_refused (name e) (data_of e)) es)) (Some (name e))
          ≡ option_or (cond b (first_refused (data_of e)) (Some (name e))) (first_name (λ e. field_refused (name e) (data_of e)) es)
      sides true = refl
      sides false = refl
