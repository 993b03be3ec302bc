use Rattle.ron_spec_grammar.specs.Schema.{optional}
use Rattle.ron_types.proofs.PartLemmas.{above_is}
use Rattle.ron_types.proofs.types.options.OptionSchematic.schema.Goals as goal

pub returns : goal.returns
returns g c = above_is c.top.result optional g.T.Schematic.schema_is c.in_ok-content.content _ _ c.new-parts.ensures c.in_ok-content.ensures.value c.top.ensures
