-- Structs whose fields have no names: newtypes, tuple structs and unit structs.
use Rattle.std.specs.Prelude.{◌≡◌, ℕ, List, chars, string_bytes}
use Rattle.ron_spec_words.specs.Characters.{Text}
use Rattle.ron_spec_grammar.specs.Data as plain
use Rattle.ron_spec_grammar.specs.Schema.{newtype, tuple_struct, unit_struct}
use Rattle.ron_data.specs.declared.data.Data.{Data, out-Data}
use Rattle.ron_data.specs.declared.data.Data.TheOpen.{Data-F}
use Rattle.ron_data.specs.declared.data.Data.TheVariants as held
use Rattle.ron_data.specs.declared.data.VariantData.{VariantData}
use Rattle.ron_data_schema.specs.Table.{Table}
use Rattle.ron_types.specs.Normal.{each_normal}
use Rattle.ron_types.specs.Tables.{leaf, above, beside}

-- ---- schemas: by a name, and what the struct holds

abbrev pub table_of_newtype : List ℕ → Table → Table
table_of_newtype name = above (newtype (chars name))

abbrev pub table_of_tuple_struct : List ℕ → List Table → Table
table_of_tuple_struct name = beside (tuple_struct (chars name))

abbrev pub table_of_unit_struct : List ℕ → Table
table_of_unit_struct name = leaf (unit_struct (chars name))

-- ---- data

abbrev pub data_of_newtype : List ℕ → plain.Data → plain.Data
data_of_newtype name d = plain.newtype_of (chars name) d

abbrev pub data_of_tuple_struct : List ℕ → List plain.Data → plain.Data
data_of_tuple_struct name ds = plain.tuple_struct_of (chars name) (plain.datas ds)

abbrev pub data_of_unit_struct : List ℕ → plain.Data
data_of_unit_struct name = plain.unit_struct_of (chars name)

-- what is kept of it
abbrev pub normal_of_newtype : (plain.Data → plain.Data) → plain.Data → plain.Data
normal_of_newtype f (plain.newtype_of name d) = plain.newtype_of name (f d)
normal_of_newtype f d = d

abbrev pub normal_of_tuple_struct : List (plain.Data → plain.Data) → plain.Data → plain.Data
normal_of_tuple_struct fs (plain.tuple_struct_of name ds) = plain.tuple_struct_of name (each_normal fs ds)
normal_of_tuple_struct fs d = d

-- ---- data of code: of this name, and what it holds is accepted

abbrev newtype_step : Text → (Data → Type 0) → Data-F Data VariantData → Type 0
newtype_step name P (Data-F.Data::Newtype found d) = (chars (string_bytes found) ≡ name) × P d.value
newtype_step name P d = ⊥

abbrev pub IsNewtypeOf : List ℕ → (Data → Type 0) → Data → Type 0
IsNewtypeOf name P d = newtype_step (chars name) P (out-Data d)

abbrev tuple_struct_step : Text → (List Data → Type 0) → Data-F Data VariantData → Type 0
tuple_struct_step name P (Data-F.TupleStruct found ds) = (chars (string_bytes found) ≡ name) × P ds.items
tuple_struct_step name P d = ⊥

abbrev pub IsTupleStructOf : List ℕ → (List Data → Type 0) → Data → Type 0
IsTupleStructOf name P d = tuple_struct_step (chars name) P (out-Data d)

abbrev pub IsUnitStructOf : List ℕ → Data → Type 0
IsUnitStructOf name (held.UnitStruct found) = chars (string_bytes found) ≡ chars name
IsUnitStructOf name d = ⊥
