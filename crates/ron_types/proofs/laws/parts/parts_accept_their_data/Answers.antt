use Rattle.ron_types.proofs.PartLaws.{options, lists}
use Rattle.ron_types.proofs.laws.parts.parts_accept_their_data.Goals as goal

pub returns : goal.returns
returns g c = record {
  options = options g.T.Schematic.schema_is g.T.Schematic.accepts;
  boxes = λ all. all;
  lists = lists g.T.Schematic.schema_is g.T.Schematic.accepts;
}
