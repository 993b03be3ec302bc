-- What a schema shows of its table.
use Rattle.std.specs.Prelude.{ℕ, List}
use Rattle.ron_spec_grammar.specs.Schema as plain
use Rattle.ron_data_schema.specs.Shapes.{table_view}
use Rattle.ron_data_schema.specs.declared.schema.Schema.{Schema}

-- the schema's shapes
abbrev pub shapes_of : Schema → List plain.Shape
shapes_of s = table_view s.shapes.items

-- the index of the shape that a text is read by
abbrev pub root_of : Schema → ℕ
root_of s = s.root

-- a table of shapes, and the index of the one that a text is read by
pub record Table : Type 0 where
  pub shapes : List plain.Shape
  pub root : ℕ

-- what the schema stands for
abbrev pub table_of : Schema → Table
table_of s = record { shapes = shapes_of s; root = root_of s }
