use Rattle.std.proofs.Common.{length}
use Rattle.ron_base.proofs.error.message.+write_further.Given as goal

abbrev pub decreases-write_further : goal.decreases-write_further
decreases-write_further g l = length l.names.now
