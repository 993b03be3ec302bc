-- Fields that may be left out, name by name: for the calls of a row.
use Rattle.std.proofs.Common.{◌≡◌, Bool, true, false, cond, List, [], ◌∷◌, Some, None, option_map, chars, string_bytes, refl, ap, ◌∙◌}
use Rattle.ron_spec_words.specs.Characters.{Text}
use Rattle.ron_spec_words.specs.Runs.{same_text}
use Rattle.ron_spec_grammar.specs.Data as plain
use Rattle.ron_spec_grammar.proofs.Finding.{same_self}
use Rattle.ron_data.specs.Datum.{data_view, fields_view}
use Rattle.ron_types.specs.FieldNames.{Field}
use Rattle.ron_types_fields.specs.Spelled.{front, behind, front_of, behind_of}
use Rattle.ron_types_fields.specs.SpelledLaws.{HasOther}

-- ---- fields of code, as data sees them

pub front-view : (name : Text) (fs : List Field) → front name (fields_view fs) ≡ option_map data_view (front_of name fs)
front-view name [] = refl
front-view name (f ∷ fs) = go (same_text (chars (string_bytes f.0)) name)
  where
    go : (b : Bool) → cond b (Some (data_view f.1)) None ≡ option_map data_view (cond b (Some f.1) None)
    go true = refl
    go false = refl

pub behind-view : (name : Text) (fs : List Field) → behind name (fields_view fs) ≡ fields_view (behind_of name fs)
behind-view name [] = refl
behind-view name (f ∷ fs) = go (same_text (chars (string_bytes f.0)) name)
  where
    go : (b : Bool) → cond b (fields_view fs) (plain.field_and (chars (string_bytes f.0)) (data_view f.1) (fields_view fs)) ≡ fields_view (cond b fs (f ∷ fs))
    go true = refl
    go false = refl

-- ---- no field of a name is first

-- the first field of code, if there is one, has another name
pub record HasOtherOf (name : Text) (fs : List Field) : Type 0 where
  pub none : front_of name fs ≡ None
  pub all : behind_of name fs ≡ fs

-- fields of code that stand for such
pub other_of : (name : Text) (fs : List Field) → HasOther name (fields_view fs) → HasOtherOf name fs
other_of name [] h = record { none = refl; all = refl }
other_of name (f ∷ fs) h = go (same_text (chars (string_bytes f.0)) name) h.none refl
  where
    go : (b : Bool) → cond b (Some (data_view f.1)) None ≡ None → same_text (chars (string_bytes f.0)) name ≡ b → HasOtherOf name (f ∷ fs)
    go true k e = absurd (cc)
    go false k e = record {
      none = ap (λ b. cond b (Some f.1) None) e;
      all = ap (λ b. cond b fs (f ∷ fs)) e;
    }

-- ---- a field before others

-- what is put before such fields of code comes off again
module _ (name : Text) (held : Field) (fs : List Field) (called : chars (string_bytes held.0) ≡ name) where
  same : same_text (chars (string_bytes held.0)) name ≡ true
  same = ap (λ t. same_text t name) called ∙ same_self name

  pub front-called : front_of name (held ∷ fs) ≡ Some held.1
  front-called = ap (λ b. cond b (Some held.1) None) same

  pub behind-called : behind_of name (held ∷ fs) ≡ fs
  behind-called = ap (λ b. cond b fs (held ∷ fs)) same
