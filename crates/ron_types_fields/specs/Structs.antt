-- Structs of fields that may be left out.
use Rattle.std.specs.Prelude.{◌≡◌, ℕ, Bool, true, not, ◌||◌, List, length, chars, Option}
use Rattle.std.specs.List.{list_any, list_all}
use Rattle.ron_spec_words.specs.Characters.{Text}
use Rattle.ron_spec_words.specs.Runs.{same_text}
use Rattle.ron_spec_grammar.specs.Data as plain
use Rattle.ron_spec_grammar.specs.Schema.{struct, all_differ, range_names}
use Rattle.ron_data.specs.declared.data.Data.{Data}
use Rattle.ron_data_schema.specs.Table.{Table}
use Rattle.ron_types.specs.Accepts.{IsStruct}
use Rattle.ron_types.specs.FieldNames.{Field}
use Rattle.ron_types.specs.Tables.{beside}
use Rattle.ron_types_fields.specs.Names.{Name, all_called}
use Rattle.ron_types_fields.specs.Rows.{Part, tables_of, fields_at}
use Rattle.ron_types_fields.specs.Spelled.{spelled_fields, spelled_normal}

-- no part may be left out of a range struct
abbrev pub is_whole_range : Text → List Part → Bool
is_whole_range name parts = not (list_any (same_text name) range_names) || list_all (λ (p : Part). not p.1) parts

-- A struct of this name may have these fields: a name for each part, no name or alias twice, and a range struct has all of its parts.
pub record MayBeFields (name : List ℕ) (names : List Name) (parts : List Part) : Type 0 where
  pub as_many : length names ≡ length parts
  pub differ : all_differ (all_called names) ≡ true
  pub whole : is_whole_range (chars name) parts ≡ true

-- the schema of a struct of this name, with a field of each of these names, and whether unknown fields are skipped
abbrev pub table_of_fields : List ℕ → List Name → List Part → Bool → Table
table_of_fields name names parts skips =
    beside (λ js. struct (chars name) (record { fields = fields_at names parts js; skips_unknown = skips })) (tables_of parts)

-- the struct of this name, with these data under these names, but for those that are left out
abbrev pub data_of_fields : List ℕ → List Name → List (Option plain.Data) → plain.Data
data_of_fields name names ds = plain.struct_of (chars name) (spelled_fields names ds)

-- what is kept of a struct
abbrev pub normal_of_fields : List Name → List (Option plain.Data → Option plain.Data) → plain.Data → plain.Data
normal_of_fields names fs (plain.struct_of name ds) = plain.struct_of name (spelled_normal names fs ds)
normal_of_fields names fs d = d

-- a struct of this name, whose fields of these names are accepted
abbrev pub IsOfFields : List ℕ → List Name → (List Name → List Field → Type 0) → Data → Type 0
IsOfFields name names Accepts = IsStruct (chars name) (Accepts names)
