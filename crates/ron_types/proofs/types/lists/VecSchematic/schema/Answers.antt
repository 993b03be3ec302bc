use Rattle.ron_spec_grammar.specs.Schema.{seq}
use Rattle.ron_types.proofs.PartLemmas.{above_is}
use Rattle.ron_types.proofs.types.lists.VecSchematic.schema.Goals as goal

pub returns : goal.returns
returns g c = above_is c.top.result seq g.T.Schematic.schema_is c.in_ok-item.item _ _ c.new-parts.ensures c.in_ok-item.ensures.value c.top.ensures
