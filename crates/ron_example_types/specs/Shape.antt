-- What a shape is as data.
use Rattle.std.specs.Prelude.{pos, [], ◌∷◌, codes, chars, string_bytes}
use Rattle.ron_spec_grammar.specs.Data as plain
use Rattle.ron_value_number.specs.declared.width.Width.TheVariants.{I32, U32}
use Rattle.ron_data.specs.Datum.{no_content, one_of, items_of, named_of}
use Rattle.ron_types.specs.Kinds.{variant_data}
use Rattle.ron_types.specs.Rows.{named_fields}
use Rattle.ron_example_types.specs.declared.types.shape.Shape.{Shape}
use Rattle.ron_example_types.specs.declared.types.shape.Shape.TheVariants.{Empty, Named, Size, At}

abbrev pub shape_data : Shape → plain.Data
shape_data Empty = variant_data (codes "Shape") (codes "Empty") no_content
shape_data (Named s) = variant_data (codes "Shape") (codes "Named") (one_of (plain.str_of (chars (string_bytes s))))
shape_data (Size w h) = variant_data (codes "Shape") (codes "Size") (items_of (plain.datas (plain.int_of U32 (pos w) ∷ plain.int_of U32 (pos h) ∷ [])))
shape_data (At x s) = variant_data (codes "Shape") (codes "At")
    (named_of (named_fields (codes "x" ∷ codes "label" ∷ []) (plain.int_of I32 x ∷ plain.str_of (chars (string_bytes s)) ∷ [])))
