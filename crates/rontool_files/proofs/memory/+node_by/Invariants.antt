use Rattle.std.proofs.Common.{length}
use Rattle.rontool_files.proofs.memory.+node_by.Given as goal

abbrev pub decreases-node_by : goal.decreases-node_by
decreases-node_by l = length l.changes.now
