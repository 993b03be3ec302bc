use Rattle.ron_spec_words.proofs.Leading.{leads_name}
use Rattle.ron_de_steps.proofs.NearLemmas.{name_nears}
use Rattle.ron_de_parts.proofs.TurnLemmas.{so}
use Rattle.ron_de_parts.proofs.names.take_name.Goals as goal

pub returns-in-Ok-clause-near : goal.returns-in-Ok-clause-near
returns-in-Ok-clause-near c = so _ c.expect_name.result (name_nears _ c.args.cursor.now c.identifier.new.self c.in-Ok.ensures.value)

pub returns-in-Ok-clause-leads : goal.returns-in-Ok-clause-leads
returns-in-Ok-clause-leads c = so _ c.expect_name.result (leads_name c.args.cursor.now.rest _ c.identifier.new.self.rest c.in-Ok.ensures.value)
