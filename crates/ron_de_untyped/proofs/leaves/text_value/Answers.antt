use Rattle.ron_de_untyped.proofs.ValueLemmas.{as_characters}
use Rattle.ron_de_untyped.proofs.leaves.text_value.Goals as goal

pub returns : goal.returns
returns c = as_characters c.args.text.now c.utf8.text c.string.result c.string.ensures
