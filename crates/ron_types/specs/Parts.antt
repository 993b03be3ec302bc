-- The shapes of a type's parts.
use Rattle.std.specs.Prelude.{List}
use Rattle.ron_spec_grammar.specs.Schema.{Shape}
use Rattle.ron_data_schema.specs.Shapes.{table_view}
use Rattle.ron_types.specs.declared.tables.Parts.{Parts}

abbrev pub shapes_in : Parts → List Shape
shapes_in parts = table_view parts.shapes.items
