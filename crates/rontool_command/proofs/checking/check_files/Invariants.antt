use Rattle.std.proofs.Common.{◌≡◌}
use Rattle.rontool_command.specs.Told.{TellsAll}
use Rattle.rontool_command.proofs.checking.check_files.Given as goal

abbrev pub invariant-paths : goal.invariant-paths
invariant-paths g l = (g.S.Store.told → g.S.Store.stands l.store ≡ g.S.Store.stands l.fn.store) × (g.S.Store.changes l.store ≡ g.S.Store.changes l.fn.store)
    × (TellsAll l.fn.report → TellsAll l.report)
