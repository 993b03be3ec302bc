-- The tables of the trees that are read and written.
use Rattle.std.specs.Prelude.{ℕ, zero, suc, ◌+◌, List, [], ◌∷◌, ◌++◌, codes}
use Rattle.ron.specs.Characters.{Text}
use Rattle.ron.specs.Widths.TheVariants.{I32, U32, U64}
use Rattle.ron.specs.Schema.{VariantShape, Variant, Shape, field, only, bool, int, str, bytes, optional, seq, map, struct, enum, unit_variant, newtype_variant}
use Rattle.ron.specs.Schema.{struct_variant}
use Rattle.ron_bench.specs.declared.tree.Leaf.{Leaf}
use Rattle.ron_bench.specs.declared.tree.Leaf.TheVariants.{Points, Records, Entities}

-- a struct of two fields of one shape
abbrev pub twofold : Text → Text → Text → ℕ → Shape
twofold name first second shape = struct name (only (field first shape ∷ field second shape ∷ []))

abbrev pub variant : Text → VariantShape → Variant
variant name content = record { name = name; content = content }

-- what an entity is
abbrev pub kind_shape : Shape
kind_shape = enum (codes "Kind") (variant (codes "Player") unit_variant ∷ variant (codes "Npc") (newtype_variant 4)
    ∷ variant (codes "Item") (struct_variant (only (field (codes "weight") 4 ∷ field (codes "fragile") 5 ∷ []))) ∷ [])

-- what the fields of leaves are, at the indices 0 to 9
abbrev pub field_shapes : List Shape
field_shapes = int I32 ∷ str ∷ bytes ∷ int U64 ∷ int U32 ∷ bool ∷ seq 1 ∷ optional 4 ∷ map 1 0 ∷ kind_shape ∷ []

-- a leaf: a point of two integers; a record of a text, bytes and two integers; or an entity of a text, a list of texts, an option, an enum and a map
abbrev pub leaf_shape : Leaf → Shape
leaf_shape Points = twofold (codes "Point") (codes "x") (codes "y") 0
leaf_shape Records = struct (codes "Record") (only (field (codes "name") 1 ∷ field (codes "data") 2 ∷ field (codes "id") 3 ∷ field (codes "size") 4 ∷ []))
leaf_shape Entities = struct (codes "Entity")
    (only (field (codes "name") 1 ∷ field (codes "tags") 6 ∷ field (codes "level") 7 ∷ field (codes "kind") 9 ∷ field (codes "stats") 8 ∷ []))

-- the shapes of the fields and the leaf, and for each level a pair of what stands before it
abbrev pub tree_shapes : Leaf → ℕ → List Shape
tree_shapes leaf zero = field_shapes ++ leaf_shape leaf ∷ []
tree_shapes leaf (suc n) = tree_shapes leaf n ++ twofold (codes "Pair") (codes "a") (codes "b") (n + 10) ∷ []
