-- Doc comments as plain trees: what is said of fields, without where it lies in memory.
use Rattle.std.specs.Prelude.{ℕ, List, [], ◌∷◌, Option, None, Some}

-- a doc comment, alone or with the fields within, in the order of their names; texts are lists of bytes
mutual
  pub data FieldTree : Type 0 where
    plain : List ℕ → FieldTree
    holding : List ℕ → FieldsTree → FieldTree

  pub data FieldsTree : Type 0 where
    no_fields : FieldsTree
    field_and : List ℕ → FieldTree → FieldsTree → FieldsTree

-- a doc comment and the fields within, if there are any
abbrev pub field_from : List ℕ → Option FieldsTree → FieldTree
field_from doc None = plain doc
field_from doc (Some fields) = holding doc fields

-- a list of names and their fields, as fields
abbrev pub fields_from : List (List ℕ × FieldTree) → FieldsTree
fields_from [] = no_fields
fields_from (e ∷ es) = field_and e.0 e.1 (fields_from es)
