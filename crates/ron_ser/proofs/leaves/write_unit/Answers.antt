use Rattle.ron_ser.proofs.Pieces.{one}
use Rattle.ron_ser.proofs.leaves.write_unit.Goals as goal

pub returns-then-not-bare : goal.returns-then-not-bare
returns-then-not-bare g c = rw c.if-not-bare.true (one g.O.Output.puts _ _ _ c.put.ensures)
