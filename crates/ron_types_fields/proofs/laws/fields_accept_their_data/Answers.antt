use Rattle.ron_types_fields.proofs.FieldLaws.{must_be_there, may_be_left}
use Rattle.ron_types_fields.proofs.laws.fields_accept_their_data.Goals as goal

pub returns : goal.returns
returns g c = record {
  must = must_be_there g.A.Schematic.schema_is g.A.Schematic.accepts;
  may = may_be_left g.A.Schematic.schema_is g.A.Schematic.accepts;
  or = may_be_left g.A.Schematic.schema_is g.A.Schematic.accepts;
}
