use Rattle.std.proofs.Common.{◌≡◌, map, take, chars}
use Rattle.ron_data_schema.specs.Shapes.{text_view}
use Rattle.ron_types.specs.FieldNames.{texts_of}
use Rattle.ron_types_fields.proofs.shapes.copies_of.Given as goal

-- the texts passed are copied
abbrev pub invariant-loop-text : goal.invariant-loop-text
invariant-loop-text l = map text_view l.copies.items ≡ map chars (texts_of (take l.text-index l.texts))
