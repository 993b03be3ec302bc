use Rattle.ron_types.specs.TextLaws.{spelled}
use Rattle.ron_types.proofs.types.texts.as_read.Goals as goal

pub returns-clause-spelled : goal.returns-clause-spelled
returns-clause-spelled c = spelled c.args.text.now c.utf8.text
