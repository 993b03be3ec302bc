use Rattle.std.proofs.Common.{map}
use Rattle.ron_data_schema.specs.Shapes.{field_view}
use Rattle.ron_types.specs.FieldNames.{texts_of}
use Rattle.ron_types.specs.Parts.{shapes_in}
use Rattle.ron_types.proofs.RowLemmas.{none_added}
use Rattle.ron_types.proofs.rows.UnitRow.add_fields.Goals as goal

pub returns : goal.returns
returns c = none_added (texts_of c.args.names.now) (shapes_in c.args.parts.now) (map field_view c.args.fields.now.items)
