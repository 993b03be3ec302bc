use Rattle.ron_types.proofs.PartLemmas.{map_is}
use Rattle.ron_types.proofs.types.maps.BTreeMapSchematic.schema.Goals as goal

pub returns : goal.returns
returns g c = map_is c.top.result g.K.Schematic.schema_is g.V.Schematic.schema_is c.in_ok-key.key c.in_ok-value.value _ _ _ c.new-parts.ensures
    c.in_ok-key.ensures.value c.in_ok-value.ensures.value c.top.ensures
