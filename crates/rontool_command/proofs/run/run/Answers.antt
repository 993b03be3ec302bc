use Rattle.rontool_command.specs.Kept.KeepsText.{relaid, put}
use Rattle.rontool_command.proofs.run.run.Goals as goal

pub returns-in-Ok-Format-clause-kept : goal.returns-in-Ok-Format-clause-kept
returns-in-Ok-Format-clause-kept g c = λ told. relaid (c.format_all.ensures.kept told)

pub returns-in-Ok-Set-clause-kept : goal.returns-in-Ok-Set-clause-kept
returns-in-Ok-Set-clause-kept g c = λ told. put _ (c.set_value.ensures.kept told)
