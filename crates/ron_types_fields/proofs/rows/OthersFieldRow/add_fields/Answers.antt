use Rattle.std.proofs.Common.{map}
use Rattle.ron_data_schema.specs.Shapes.{field_view}
use Rattle.ron_types.specs.Parts.{shapes_in}
use Rattle.ron_types_fields.specs.Names.{names_in}
use Rattle.ron_types_fields.proofs.RowLemmas.{none_added}
use Rattle.ron_types_fields.proofs.rows.OthersFieldRow.add_fields.Goals as goal

pub returns : goal.returns
returns c = none_added (names_in c.args.names.now) (shapes_in c.args.parts.now) (map field_view c.args.fields.now.items)
