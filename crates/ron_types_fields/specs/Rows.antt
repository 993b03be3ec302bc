-- Rows of fields: their schemas, and what the calls of a row do.
use Rattle.std.specs.Prelude.{◌≡◌, ◌⊎◌, ℕ, Bool, true, ◌++◌, ◌≤◌, List, [], ◌∷◌, length, map, nat_lt, Option, Some, None}
use Rattle.std.specs.List.{list_all}
use Rattle.ron_base.specs.declared.error.Error.{Error}
use Rattle.ron_spec_grammar.specs.Data as plain
use Rattle.ron_spec_grammar.specs.Schema as schema
use Rattle.ron_spec_grammar.specs.Schema.{all_differ}
use Rattle.ron_data.specs.Datum.{fields_view}
use Rattle.ron_data_schema.specs.Table.{Table}
use Rattle.ron_types.specs.FieldNames.{Field}
use Rattle.ron_types.specs.OfTables.{IsOfOrdered}
use Rattle.ron_types.specs.Tables.{put_all, roots_in}
use Rattle.ron_types_fields.specs.Names.{Name, own, others}
use Rattle.ron_types_fields.specs.Spelled.{spelled_fields}

-- ---- schemas

-- a field's schema, and whether a text may leave the field out
abbrev pub Part : Type 0
Part = Table × Bool

abbrev pub tables_of : List Part → List Table
tables_of parts = map (λ p. p.0) parts

-- the field of this name, with the shape at this index
abbrev pub field_of : Name → ℕ → Bool → schema.Field
field_of n j missing = record { name = own n; aliases = others n; shape = j; may_be_missing = missing }

-- the fields of these names, with the shapes at these indices
abbrev pub fields_at : List Name → List Part → List ℕ → List schema.Field
fields_at [] ps js = []
fields_at (n ∷ ns) [] js = []
fields_at (n ∷ ns) (p ∷ ps) [] = []
fields_at (n ∷ ns) (p ∷ ps) (j ∷ js) = field_of n j p.1 ∷ fields_at ns ps js

-- ---- data

-- data of the schema, or none where it may be left out
abbrev pub MayStand : Part → Option plain.Data → Type 0
MayStand p None = p.1 ≡ true
MayStand p (Some d) = IsOfOrdered p.0 d

-- of each of the parts, in order
abbrev pub EachMayStand : List Part → List (Option plain.Data) → Type 0
EachMayStand [] [] = Unit {0}
EachMayStand (p ∷ ps) (d ∷ ds) = MayStand p d × EachMayStand ps ds
EachMayStand [] (d ∷ ds) = ⊥
EachMayStand (p ∷ ps) [] = ⊥

-- no two fields have one name
abbrev pub own_differ : List Name → Bool
own_differ names = all_differ (map own names)

-- what the first type refuses by, or what the others do
abbrev pub EitherPart : (Error → Type 0) → (Error → Type 0) → Error → Type 0
EitherPart First Others e = First e ⊎ Others e

-- ---- what the calls of a row do

-- Behind the old shapes stand those of the parts now, and behind the old fields those of these names; each shape lies among the shapes.
pub record AddsFields (names : List Name) (parts : List Part) (old : List schema.Shape) (before : List schema.Field) (new : List schema.Shape)
    (after : List schema.Field) : Type 0 where
  pub shapes : new ≡ put_all old (tables_of parts)
  pub fields : after ≡ before ++ fields_at names parts (roots_in old (tables_of parts))
  pub in_range : list_all (λ j. nat_lt j (length new)) (roots_in old (tables_of parts)) ≡ true
  pub grown : length old ≤ length new

-- Behind the old fields stand those of the data that are there, by these names; they are accepted where there is a name for each and no two are one.
pub record PushesFields (names : List Name) (ds : List (Option plain.Data)) (Accepts : List Name → List Field → Type 0) (old new : List Field) : Type 0 where
  pub added : List Field
  pub fields : new ≡ old ++ added
  pub value : fields_view added ≡ spelled_fields names ds
  pub accepted : length names ≡ length ds → own_differ names ≡ true → Accepts names added
