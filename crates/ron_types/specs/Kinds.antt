-- Variants of enums: their names, and what each holds.
use Rattle.std.specs.Prelude.{◌≡◌, ℕ, zero, suc, Bool, true, false, cond, List, [], ◌∷◌, Some, chars, String, string_bytes}
use Rattle.std.specs.declared.alloc.Global.{Global}
use Rattle.ron_spec_words.specs.Characters.{Text}
use Rattle.ron_spec_words.specs.Runs.{same_text}
use Rattle.ron_spec_grammar.specs.Data as plain
use Rattle.ron_data.specs.Datum.{Content, no_content, one_of, items_of, named_of, variant_of}
use Rattle.ron_data.specs.declared.data.Data.{Data}
use Rattle.ron_data.specs.declared.data.Data.TheVariants as held
use Rattle.ron_data.specs.declared.data.VariantData.{VariantData}
use Rattle.ron_data_schema.specs.Table.{Table}
use Rattle.ron_types.specs.Accepts.{IsVariant, HoldsNothing, HoldsOne, HoldsItems, HoldsFields}
use Rattle.ron_types.specs.FieldNames.{Field}
use Rattle.ron_types.specs.Normal.{each_normal}
use Rattle.ron_types.specs.OfTables.{holding_of}
use Rattle.ron_types.specs.Rows.{named_tables, fields_normal}
use Rattle.ron_types.specs.Tables.{Holding, nothing, one, several, fields, enum_table}

-- What a variant holds: nothing, one value, values in a row, or such values under names. Of each: its schema, which data is accepted, and what is kept of it.
pub data Kind : Type 1 where
  unit : Kind
  newtype : Table → (Data → Type 0) → (plain.Data → plain.Data) → Kind
  tuple : List Table → (List Data → Type 0) → List (plain.Data → plain.Data) → Kind
  named : List (List ℕ) → List Table → (List (List ℕ) → List Field → Type 0) → List (plain.Data → plain.Data) → Kind

-- the schemas in it
abbrev pub holding : Kind → Holding
holding unit = nothing
holding (newtype t P f) = one t
holding (tuple ts P fs) = several ts
holding (named names ts P fs) = fields (named_tables names ts)

-- the content is accepted
abbrev pub Holds : Kind → VariantData → Type 0
Holds unit c = HoldsNothing c
Holds (newtype t P f) c = HoldsOne P c
Holds (tuple ts P fs) c = HoldsItems P c
Holds (named names ts P fs) c = HoldsFields (P names) c

-- what is kept of it
abbrev pub keeps : Kind → Content → Content
keeps (newtype t P f) (one_of d) = one_of (f d)
keeps (tuple ts P fs) (items_of ds) = items_of (each_normal fs ds)
keeps (named names ts P fs) (named_of ds) = named_of (fields_normal fs ds)
keeps _ c = c

-- ---- all variants of an enum

-- the variants' names, each with what it holds
abbrev pub Kinds : Type 1
Kinds = List (List ℕ × Kind)

abbrev pub names_in : Kinds → List (List ℕ)
names_in [] = []
names_in (k ∷ ks) = k.0 ∷ names_in ks

abbrev pub holdings : Kinds → List (Text × Holding)
holdings [] = []
holdings (k ∷ ks) = (chars k.0, holding k.1) ∷ holdings ks

-- the schema of an enum of this name
abbrev pub table_of_enum : List ℕ → Kinds → Table
table_of_enum name ks = enum_table (chars name) (holdings ks)

-- the variant of this name of the enum of that name, with what it holds
abbrev pub variant_data : List ℕ → List ℕ → Content → plain.Data
variant_data name variant c = variant_of (chars name) (chars variant) c

-- one of two facts
abbrev pub OneOr : Bool → Type 0 → Type 0 → Type 0
OneOr true P Q = P
OneOr false P Q = Q

-- what the variant of this name holds is accepted
abbrev pub HeldBy : Kinds → Text → VariantData → Type 0
HeldBy [] variant c = ⊥
HeldBy (k ∷ ks) variant c = OneOr (same_text (chars k.0) variant) (Holds k.1 c) (HeldBy ks variant c)

-- one of the variants of the enum of this name
abbrev pub IsOneOf : List ℕ → Kinds → Data → Type 0
IsOneOf name ks d = IsVariant (chars name) (HeldBy ks) d

-- what is kept of what the variant of this name holds
abbrev pub kept_by : Kinds → Text → Content → Content
kept_by [] variant c = c
kept_by (k ∷ ks) variant c = cond (same_text (chars k.0) variant) (keeps k.1 c) (kept_by ks variant c)

abbrev pub enum_normal : Kinds → plain.Data → plain.Data
enum_normal ks (plain.unit_variant_of name v) = variant_of name v (kept_by ks v no_content)
enum_normal ks (plain.newtype_variant_of name v d) = variant_of name v (kept_by ks v (one_of d))
enum_normal ks (plain.tuple_variant_of name v ds) = variant_of name v (kept_by ks v (items_of ds))
enum_normal ks (plain.struct_variant_of name v ds) = variant_of name v (kept_by ks v (named_of ds))
enum_normal ks d = d

-- ---- one of them

-- the first of the names that is the text stands at this place
abbrev pub IsFirst : List (List ℕ) → ℕ → Text → Type 0
IsFirst [] i t = ⊥
IsFirst (n ∷ ns) zero t = same_text (chars n) t ≡ true
IsFirst (n ∷ ns) (suc i) t = (same_text (chars n) t ≡ false) × IsFirst ns i t

-- none of them is
abbrev pub IsNone : List (List ℕ) → Text → Type 0
IsNone [] t = Unit {0}
IsNone (n ∷ ns) t = (same_text (chars n) t ≡ false) × IsNone ns t

-- the name of the variant at this place, what is accepted there, and what is kept of it
abbrev pub name_at : Kinds → ℕ → List ℕ
name_at [] i = []
name_at (k ∷ ks) zero = k.0
name_at (k ∷ ks) (suc i) = name_at ks i

abbrev pub HeldAt : Kinds → ℕ → VariantData → Type 0
HeldAt [] i c = ⊥
HeldAt (k ∷ ks) zero c = Holds k.1 c
HeldAt (k ∷ ks) (suc i) c = HeldAt ks i c

abbrev pub kept_at : Kinds → ℕ → Content → Content
kept_at [] i c = c
kept_at (k ∷ ks) zero c = keeps k.1 c
kept_at (k ∷ ks) (suc i) c = kept_at ks i c

-- The enum has a variant of this name that holds this.
pub record HasVariant (ks : Kinds) (variant : Text) (k : Kind) : Type 0 where
  pub schema : holding_of variant (holdings ks) ≡ Some (holding k)
  pub accepts : (c : VariantData) → Holds k c → HeldBy ks variant c
  pub kept : (c : Content) → kept_by ks variant c ≡ keeps k c

-- The variant at this place holds this.
pub record HasVariantAt (ks : Kinds) (i : ℕ) (k : Kind) : Type 0 where
  pub accepts : (c : VariantData) → Holds k c → HeldAt ks i c
  pub accepted : (c : VariantData) → HeldAt ks i c → Holds k c
  pub kept : (c : Content) → kept_at ks i c ≡ keeps k c

-- the data is the variant of these names with this content
pub record IsVariantWith (name variant : Text) (c : VariantData) (d : Data) : Type 0 where
  pub enum : String Global
  pub own : String Global
  pub is : d ≡ held.Variant enum own c
  pub enum_is : chars (string_bytes enum) ≡ name
  pub own_is : chars (string_bytes own) ≡ variant

-- the data is the variant at this place among those of these names, with this content
pub record IsVariantAt (name : List ℕ) (names : List (List ℕ)) (i : ℕ) (c : VariantData) (d : Data) : Type 0 where
  pub variant : Text
  pub is : IsVariantWith (chars name) variant c d
  pub first : IsFirst names i variant

-- This holds of all data that is the variant at this place of an enum, with this content: the enum's name is the first argument.
abbrev pub EachAt : Kinds → ℕ → VariantData → (List ℕ → Data → Type 0) → Type 0
EachAt ks place c P = (name : List ℕ) → (d : Data) → (i : ℕ) → i ≡ place → IsVariantAt name (names_in ks) i c d → P name d
