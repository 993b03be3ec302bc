-- Types in a row, and fields of their values under names.
use Rattle.std.specs.Prelude.{◌≡◌, ℕ, true, ◌++◌, ◌≤◌, List, [], ◌∷◌, length, map, chars, nat_lt}
use Rattle.std.specs.List.{list_all}
use Rattle.ron_spec_grammar.specs.Data as plain
use Rattle.ron_spec_grammar.specs.Schema as schema
use Rattle.ron_spec_grammar.specs.Schema.{all_differ}
use Rattle.ron_data.specs.declared.data.Data.{Data}
use Rattle.ron_data.specs.Datum.{fields_view, items_view}
use Rattle.ron_data_schema.specs.Table.{Table}
use Rattle.ron_types.specs.Accepts.{IsStruct, IsField}
use Rattle.ron_types.specs.FieldNames.{Field}
use Rattle.ron_types.specs.Tables.{Named, fields_at, put_all, roots_in, struct_table}

-- ---- under names

-- the types' schemas by their names
abbrev pub named_tables : List (List ℕ) → List Table → List Named
named_tables [] ts = []
named_tables (n ∷ ns) [] = []
named_tables (n ∷ ns) (t ∷ ts) = (chars n, t) ∷ named_tables ns ts

-- data by their names
abbrev pub named_fields : List (List ℕ) → List plain.Data → plain.Fields
named_fields [] ds = plain.no_fields
named_fields (n ∷ ns) [] = plain.no_fields
named_fields (n ∷ ns) (d ∷ ds) = plain.field_and (chars n) d (named_fields ns ds)

-- names that differ, as many as the types
pub record AreNames (names : List (List ℕ)) (ts : List Table) : Type 0 where
  pub as_many : length names ≡ length ts
  pub differ : all_differ (map chars names) ≡ true

-- a field of the first name that is accepted, and others of the others
abbrev pub NamedThen : (Data → Type 0) → (List (List ℕ) → List Field → Type 0) → List (List ℕ) → List Field → Type 0
NamedThen P Rest [] fs = ⊥
NamedThen P Rest (n ∷ ns) [] = ⊥
NamedThen P Rest (n ∷ ns) (f ∷ fs) = IsField (chars n) P f × Rest ns fs

abbrev pub NoneNamed : List (List ℕ) → List Field → Type 0
NoneNamed [] [] = Unit {0}
NoneNamed [] (f ∷ fs) = ⊥
NoneNamed (n ∷ ns) fs = ⊥

-- what is kept of each field
abbrev pub fields_normal : List (plain.Data → plain.Data) → plain.Fields → plain.Fields
fields_normal [] fs = fs
fields_normal (f ∷ fs) plain.no_fields = plain.no_fields
fields_normal (f ∷ fs) (plain.field_and n d ds) = plain.field_and n (f d) (fields_normal fs ds)

-- ---- structs

-- the schema of a struct of this name, with a field of each of these names
abbrev pub table_of_struct : List ℕ → List (List ℕ) → List Table → Table
table_of_struct name names ts = struct_table (chars name) (named_tables names ts)

-- the struct of this name, with these data under these names
abbrev pub struct_data : List ℕ → List (List ℕ) → List plain.Data → plain.Data
struct_data name names ds = plain.struct_of (chars name) (named_fields names ds)

-- a struct of this name, whose fields of these names are accepted
abbrev pub IsStructOf : List ℕ → List (List ℕ) → (List (List ℕ) → List Field → Type 0) → Data → Type 0
IsStructOf name names Accepts = IsStruct (chars name) (Accepts names)

-- what is kept of a struct
abbrev pub struct_normal : List (plain.Data → plain.Data) → plain.Data → plain.Data
struct_normal fs (plain.struct_of name ds) = plain.struct_of name (fields_normal fs ds)
struct_normal fs d = d

-- ---- what the calls of a row do

-- Behind the old shapes stand the tables now, and behind the old roots theirs; each lies among the shapes.
pub record AddsItems (ts : List Table) (old : List schema.Shape) (before : List ℕ) (new : List schema.Shape) (after : List ℕ) : Type 0 where
  pub shapes : new ≡ put_all old ts
  pub roots : after ≡ before ++ roots_in old ts
  pub in_range : list_all (λ j. nat_lt j (length new)) (roots_in old ts) ≡ true
  pub grown : length old ≤ length new

-- the same, with the fields of these names
pub record AddsFields (names : List (List ℕ)) (ts : List Table) (old : List schema.Shape) (before : List schema.Field) (new : List schema.Shape)
    (after : List schema.Field) : Type 0 where
  pub shapes : new ≡ put_all old ts
  pub fields : after ≡ before ++ fields_at (named_tables names ts) (roots_in old ts)
  pub in_range : list_all (λ j. nat_lt j (length new)) (roots_in old ts) ≡ true
  pub grown : length old ≤ length new

-- Behind the old items stand some now that stand for the data and are accepted.
pub record PushesItems (ds : List plain.Data) (Accepts : List Data → Type 0) (old new : List Data) : Type 0 where
  pub added : List Data
  pub items : new ≡ old ++ added
  pub value : items_view added ≡ plain.datas ds
  pub accepted : Accepts added

-- the same of fields of these names, which are accepted where there is a name for each
pub record PushesFields (names : List (List ℕ)) (ds : List plain.Data) (Accepts : List (List ℕ) → List Field → Type 0) (old new : List Field) : Type 0 where
  pub added : List Field
  pub fields : new ≡ old ++ added
  pub value : fields_view added ≡ named_fields names ds
  pub accepted : length names ≡ length ds → Accepts names added
