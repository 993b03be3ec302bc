use Rattle.ron_types.proofs.RowLaws.{more_items, more_fields}
use Rattle.ron_types.proofs.laws.rows.rows_accept_their_data.Goals as goal

pub returns : goal.returns
returns g c = record {
  items = λ first. more_items g.A.Schematic.schema_is g.R.Row.tables g.A.Schematic.accepts first g.R.Row.accepts;
  fields = λ first. more_fields g.A.Schematic.schema_is g.R.Row.tables g.A.Schematic.accepts first g.R.Row.accepts_named;
}
