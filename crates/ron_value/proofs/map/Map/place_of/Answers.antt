use Rattle.ron_value.specs.View.{entries}
use Rattle.ron_value.proofs.PlaceLemmas.{finds}
use Rattle.ron_value.proofs.map.Map.place_of.Goals as goal

pub unwrap-requires : goal.unwrap-requires
unwrap-requires c = finds c.args.key.now (entries c.args.self.now) c.search.result c.requires.0 c.requires.1 (c.search.ensures.place c.requires.0)
