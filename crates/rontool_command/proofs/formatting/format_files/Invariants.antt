use Rattle.std.proofs.Common.{◌≡◌, true}
use Rattle.rontool_command.specs.Kept.{KeepsAll, Relaid, only_looks}
use Rattle.rontool_command.specs.Told.{TellsAll}
use Rattle.rontool_command.proofs.formatting.format_files.Given as goal

abbrev pub invariant-paths : goal.invariant-paths
invariant-paths g l = (g.S.Store.told → KeepsAll Relaid (g.S.Store.stands l.fn.store) (g.S.Store.stands l.store))
    × (g.S.Store.told → only_looks l.asked ≡ true → g.S.Store.stands l.store ≡ g.S.Store.stands l.fn.store)
    × (only_looks l.asked ≡ true → g.S.Store.changes l.store ≡ g.S.Store.changes l.fn.store) × (TellsAll l.fn.report → TellsAll l.report)
