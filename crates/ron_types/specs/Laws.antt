-- Types that refuse no data of their schemas by themselves.
use Rattle.std.specs.Prelude.{◌≡◌, ℕ, true, List, [], ◌∷◌, chars}
use Rattle.ron_base.specs.declared.error.Error.{Error}
use Rattle.ron_spec_grammar.specs.Schema.{is_well_formed}
use Rattle.ron_data_schema.specs.Table.{Table}
use Rattle.ron_data.specs.declared.data.Data.{Data}
use Rattle.ron_data.specs.Datum.{data_view}
use Rattle.ron_types.specs.Accepts.{IsField}
use Rattle.ron_types.specs.Faults.{IsRefusal}
use Rattle.ron_types.specs.FieldNames.{Field}
use Rattle.ron_types.specs.Kinds.{Kind, unit, newtype, tuple, named, Kinds}
use Rattle.ron_types.specs.Lists.{Each}
use Rattle.ron_types.specs.OfTables.{IsOf}
use Rattle.ron_types.specs.Rows.{AreNames}

-- data of code is of the schema
abbrev pub IsOfTable : Table → Data → Type 0
IsOfTable t d = IsOf t (data_view d)

-- The table is well formed, as that of each schema that is made is. In one that is not, an index may go past the end, and stand for another shape once more
-- shapes follow.
abbrev pub IsFormed : Table → Type 0
IsFormed t = is_well_formed t.shapes t.root ≡ true

-- the table is well formed, and all data of it is accepted
pub record AcceptsAll (t : Table) (Accepts : Data → Type 0) : Type 0 where
  pub formed : IsFormed t
  pub accepted : (d : Data) → IsOfTable t d → Accepts d

-- ---- types in a row

-- an item of each table, in order
abbrev pub AreItems : List Table → List Data → Type 0
AreItems [] [] = Unit {0}
AreItems (t ∷ ts) (d ∷ ds) = IsOfTable t d × AreItems ts ds
AreItems [] (d ∷ ds) = ⊥
AreItems (t ∷ ts) [] = ⊥

-- a field of each of these names and tables, in order
abbrev pub AreFields : List (List ℕ) → List Table → List Field → Type 0
AreFields [] [] [] = Unit {0}
AreFields (n ∷ ns) (t ∷ ts) (f ∷ fs) = IsField (chars n) (IsOfTable t) f × AreFields ns ts fs
AreFields _ _ _ = ⊥

-- the tables are well formed, and all items of them are accepted
pub record AcceptsItems (ts : List Table) (Accepts : List Data → Type 0) : Type 0 where
  pub formed : Each IsFormed ts
  pub accepted : (ds : List Data) → AreItems ts ds → Accepts ds

-- the tables are well formed, and all fields of them are accepted, whatever their names
pub record AcceptsFields (ts : List Table) (Accepts : List (List ℕ) → List Field → Type 0) : Type 0 where
  pub formed : Each IsFormed ts
  pub accepted : (names : List (List ℕ)) (fs : List Field) → AreFields names ts fs → Accepts names fs

-- ---- variants of enums

-- all that the variant may hold is accepted, and its fields' names differ
abbrev pub AcceptsKind : Kind → Type 0
AcceptsKind unit = Unit {0}
AcceptsKind (newtype t Accepts f) = AcceptsAll t Accepts
AcceptsKind (tuple ts Accepts fs) = AcceptsItems ts Accepts
AcceptsKind (named names ts Accepts fs) = AreNames names ts × AcceptsFields ts Accepts

-- likewise of each of the variants
abbrev pub AcceptsEach : Kinds → Type 0
AcceptsEach [] = Unit {0}
AcceptsEach (k ∷ ks) = AcceptsKind k.1 × AcceptsEach ks

-- ---- by which errors types refuse data

-- all of a type's are refusals of data, and so no errors of a text, a device or a writer
abbrev pub AreRefusals : (Data → Error → Type 0) → Type 0
AreRefusals refuses = (d : Data) (e : Error) → refuses d e → IsRefusal e

-- likewise of types in a row, whatever the data
abbrev pub AreRowRefusals : (Error → Type 0) → Type 0
AreRowRefusals refuses = (e : Error) → refuses e → IsRefusal e
