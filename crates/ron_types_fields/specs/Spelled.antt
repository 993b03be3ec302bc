-- Fields that may be left out: what stands under each name, where anything does.
use Rattle.std.specs.Prelude.{Bool, false, List, [], ◌∷◌, Option, Some, None, chars, string_bytes, if◌then◌else◌}
use Rattle.ron_spec_words.specs.Characters.{Text}
use Rattle.ron_spec_words.specs.Runs.{same_text}
use Rattle.ron_spec_grammar.specs.Data as plain
use Rattle.ron_data.specs.declared.data.Data.{Data}
use Rattle.ron_types.specs.FieldNames.{Field}
use Rattle.ron_types_fields.specs.Names.{Name, own}

-- fields, and before them one of this name, if it is there
abbrev pub and_spelled : Text → Option plain.Data → plain.Fields → plain.Fields
and_spelled name None ds = ds
and_spelled name (Some d) ds = plain.field_and name d ds

-- data by their names, without what is left out
abbrev pub spelled_fields : List Name → List (Option plain.Data) → plain.Fields
spelled_fields [] ds = plain.no_fields
spelled_fields (n ∷ ns) [] = plain.no_fields
spelled_fields (n ∷ ns) (d ∷ ds) = and_spelled (own n) d (spelled_fields ns ds)

-- ---- the first field, where it has a name, and those behind it

abbrev pub front : Text → plain.Fields → Option plain.Data
front name plain.no_fields = None
front name (plain.field_and n d ds) = if same_text n name then Some d else None

abbrev pub behind : Text → plain.Fields → plain.Fields
behind name plain.no_fields = plain.no_fields
behind name (plain.field_and n d ds) = if same_text n name then ds else plain.field_and n d ds

-- the same of fields of code
abbrev pub front_of : Text → List Field → Option Data
front_of name [] = None
front_of name (f ∷ fs) = if same_text (chars (string_bytes f.0)) name then Some f.1 else None

abbrev pub behind_of : Text → List Field → List Field
behind_of name [] = []
behind_of name (f ∷ fs) = if same_text (chars (string_bytes f.0)) name then fs else f ∷ fs

-- the first field has this name
abbrev pub is_called_first : Text → List Field → Bool
is_called_first name [] = false
is_called_first name (f ∷ fs) = same_text (chars (string_bytes f.0)) name

-- ---- one field

-- it is there, and accepted
abbrev pub IsThere : (Data → Type 0) → Option Data → Type 0
IsThere P None = ⊥
IsThere P (Some d) = P d

-- it is accepted, or left out
abbrev pub IsThereOrLeft : (Data → Type 0) → Option Data → Type 0
IsThereOrLeft P None = Unit {0}
IsThereOrLeft P (Some d) = P d

-- what is kept of it, and the default where it is left out
abbrev pub or_default : (plain.Data → plain.Data) → plain.Data → Option plain.Data → Option plain.Data
or_default f default None = Some default
or_default f default (Some d) = Some (f d)

-- ---- each name in turn

-- what is kept of each field, there or not
abbrev pub spelled_normal : List Name → List (Option plain.Data → Option plain.Data) → plain.Fields → plain.Fields
spelled_normal [] fs ds = ds
spelled_normal (n ∷ ns) [] ds = ds
spelled_normal (n ∷ ns) (f ∷ fs) ds = and_spelled (own n) (f (front (own n) ds)) (spelled_normal ns fs (behind (own n) ds))

-- what stands under the first name, if anything does, is accepted, and the fields behind it are by the other names
abbrev pub SpelledThen : (Option Data → Type 0) → (List Name → List Field → Type 0) → List Name → List Field → Type 0
SpelledThen P Rest [] fs = ⊥
SpelledThen P Rest (n ∷ ns) fs = P (front_of (own n) fs) × Rest ns (behind_of (own n) fs)

abbrev pub NoneSpelled : List Name → List Field → Type 0
NoneSpelled [] [] = Unit {0}
NoneSpelled [] (f ∷ fs) = ⊥
NoneSpelled (n ∷ ns) fs = ⊥
