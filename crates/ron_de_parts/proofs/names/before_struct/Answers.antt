use Rattle.ron_spec_words.specs.Openings.{same}
use Rattle.ron_de_parts.proofs.names.before_struct.Goals as goal

pub returns-clause-leads : goal.returns-clause-leads
returns-clause-leads c = same c.args.cursor.now.rest
