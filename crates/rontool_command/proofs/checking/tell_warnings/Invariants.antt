use Rattle.rontool_command.specs.Told.{TellsAll}
use Rattle.rontool_command.proofs.checking.tell_warnings.Given as goal

abbrev pub invariant-warnings : goal.invariant-warnings
invariant-warnings l = TellsAll l.fn.report → TellsAll l.report
