use Rattle.std.proofs.Common.{subst}
use Rattle.std.specs.Fmt.{WritesInCalls}
use Rattle.ron_ser.proofs.Pieces.{one}
use Rattle.ron_ser.proofs.leaves.write_digits.Goals as goal

pub returns : goal.returns
returns g c =
    let took = g.O.Output.puts in
    subst (λ bs. WritesInCalls took c.args.out.now bs c.put.new.self) c.digits.ensures (one took _ _ _ c.put.ensures)
