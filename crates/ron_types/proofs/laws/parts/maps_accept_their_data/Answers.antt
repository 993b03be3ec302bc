use Rattle.ron_types.proofs.PartLaws.{maps}
use Rattle.ron_types.proofs.laws.parts.maps_accept_their_data.Goals as goal

pub returns : goal.returns
returns g c = maps g.K.Schematic.schema_is g.V.Schematic.schema_is g.K.Schematic.accepts g.V.Schematic.accepts
