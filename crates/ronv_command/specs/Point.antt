-- The table of `ronv point`.
use Rattle.std.specs.Prelude.{List, [], ◌∷◌, codes}
use Rattle.ron.specs.Widths.TheVariants.{I32}
use Rattle.ron.specs.Schema.{Shape, field, only, int, struct}
use Rattle.ron.specs.Table.{Table}

-- Point(x: i32, y: i32), the root, and its fields' shape
abbrev pub point_shapes : List Shape
point_shapes = struct (codes "Point") (only (field (codes "x") 1 ∷ field (codes "y") 1 ∷ [])) ∷ int I32 ∷ []

-- these shapes, and the first of them as the root
abbrev pub point_table : Table
point_table = record { shapes = point_shapes; root = 0 }
