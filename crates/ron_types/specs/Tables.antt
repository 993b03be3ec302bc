-- Schemas of types, put together from those of their parts.
use Rattle.std.specs.Prelude.{◌≡◌, ℕ, ◌+◌, Bool, true, ◌&&◌, List, [], ◌∷◌, ◌++◌, length, map}
use Rattle.std.specs.List.{list_all}
use Rattle.ron_spec_words.specs.Characters.{Text}
use Rattle.ron_spec_grammar.specs.Schema.{Shape, optional, seq, tuple, struct, enum, Field, field, only, VariantShape, unit_variant, newtype_variant}
use Rattle.ron_spec_grammar.specs.Schema.{tuple_variant, struct_variant, Variant, holds_below, has_no_cycle, has_distinct_names, has_whole_range}
use Rattle.ron_spec_grammar.specs.Schema as plain
use Rattle.ron_data_schema.specs.Shapes.{moved}
use Rattle.ron_data_schema.specs.Table.{Table}

-- a shape that holds no others
abbrev pub leaf : Shape → Table
leaf s = record { shapes = s ∷ []; root = 0 }

-- ---- tables behind one another

-- the shapes of a table behind others, and where its root then stands
abbrev pub put : List Shape → Table → List Shape
put shapes t = shapes ++ map (moved (length shapes)) t.shapes

abbrev pub root_in : List Shape → Table → ℕ
root_in shapes t = length shapes + t.root

-- likewise of several tables, one behind another
abbrev pub put_all : List Shape → List Table → List Shape
put_all shapes [] = shapes
put_all shapes (t ∷ ts) = put_all (put shapes t) ts

abbrev pub roots_in : List Shape → List Table → List ℕ
roots_in shapes [] = []
roots_in shapes (t ∷ ts) = root_in shapes t ∷ roots_in (put shapes t) ts

-- the shapes, and one more, by which a text is read
abbrev pub topped : List Shape → Shape → Table
topped shapes s = record { shapes = shapes ++ s ∷ []; root = length shapes }

-- ---- a shape over those of its parts

-- over one part
abbrev pub above : (ℕ → Shape) → Table → Table
above f t = topped (put [] t) (f (root_in [] t))

-- over several
abbrev pub beside : (List ℕ → Shape) → List Table → Table
beside f ts = topped (put_all [] ts) (f (roots_in [] ts))

abbrev pub optional_table : Table → Table
optional_table = above optional

abbrev pub seq_table : Table → Table
seq_table = above seq

abbrev pub tuple_table : List Table → Table
tuple_table = beside tuple

-- of keys and of values
abbrev pub map_table : Table → Table → Table
map_table k v = topped (put (put [] k) v) (plain.map (root_in [] k) (root_in (put [] k) v))

-- ---- structs and enums: none of their fields may be missing, and unknown ones are not skipped

-- a part, by its name
abbrev pub Named : Type 0
Named = Text × Table

abbrev pub tables_of : List Named → List Table
tables_of parts = map (λ p. p.1) parts

-- the fields of these names, with the shapes at these indices
abbrev pub fields_at : List Named → List ℕ → List Field
fields_at [] js = []
fields_at (p ∷ ps) [] = []
fields_at (p ∷ ps) (j ∷ js) = field p.0 j ∷ fields_at ps js

abbrev pub struct_table : Text → List Named → Table
struct_table name fields = beside (λ js. struct name (only (fields_at fields js))) (tables_of fields)

-- what a variant holds: nothing, one part, several, or fields
pub data Holding : Type 0 where
  nothing : Holding
  one : Table → Holding
  several : List Table → Holding
  fields : List Named → Holding

-- its parts
abbrev pub parts_of : Holding → List Table
parts_of nothing = []
parts_of (one t) = t ∷ []
parts_of (several ts) = ts
parts_of (fields ps) = tables_of ps

-- what it holds, its parts behind these shapes
abbrev pub held_in : List Shape → Holding → VariantShape
held_in shapes nothing = unit_variant
held_in shapes (one t) = newtype_variant (root_in shapes t)
held_in shapes (several ts) = tuple_variant (roots_in shapes ts)
held_in shapes (fields ps) = struct_variant (only (fields_at ps (roots_in shapes (tables_of ps))))

-- the parts of several variants behind these shapes, and the variants by their names
abbrev pub put_variants : List Shape → List (Text × Holding) → List Shape
put_variants shapes [] = shapes
put_variants shapes (v ∷ vs) = put_variants (put_all shapes (parts_of v.1)) vs

abbrev pub variants_in : List Shape → List (Text × Holding) → List Variant
variants_in shapes [] = []
variants_in shapes (v ∷ vs) = record { name = v.0; content = held_in shapes v.1 } ∷ variants_in (put_all shapes (parts_of v.1)) vs

abbrev pub enum_table : Text → List (Text × Holding) → Table
enum_table name variants = topped (put_variants [] variants) (enum name (variants_in [] variants))

-- ---- which shapes may stand at the end of a table

-- Shapes that are well formed with any of them as the root: each index that one of them holds lies among them, options and newtypes form no cycle, no name
-- stands twice, and no field of a range struct may be missing.
abbrev pub is_closed : List Shape → Bool
is_closed shapes =
    list_all (holds_below (length shapes)) shapes && (has_no_cycle shapes && (list_all has_distinct_names shapes && list_all has_whole_range shapes))

-- The shape may stand behind these: each index that it holds lies among them, no name stands twice in it, and if it is a range struct, no field of it may be
-- missing.
pub record MayTop (shapes : List Shape) (s : Shape) : Type 0 where
  pub in_range : holds_below (length shapes) s ≡ true
  pub distinct : has_distinct_names s ≡ true
  pub whole : has_whole_range s ≡ true
