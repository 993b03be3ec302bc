use Rattle.ron_ser.proofs.Pieces.{one}
use Rattle.ron_ser.proofs.leaves.write_boolean.Goals as goal

pub returns-then-b : goal.returns-then-b
returns-then-b g c = rw c.if-b.true ((one g.O.Output.puts _ _ _ (c.put.ensures)))

pub returns-else-b : goal.returns-else-b
returns-else-b g c = rw c.if-b.false ((one g.O.Output.puts _ _ _ (c.put-else-b.ensures)))
