use Rattle.std.proofs.Common.{subst}
use Rattle.std.specs.Fmt.{WritesInCalls}
use Rattle.ron_ser.proofs.Pieces.{one}
use Rattle.ron_ser.proofs.escapes.write_escape.Goals as goal

pub returns-in-Some : goal.returns-in-Some
returns-in-Some g c =
    let took = g.O.Output.puts in
    subst (λ bs. WritesInCalls took c.args.out.now bs c.put.new.self) c.in-Some.ensures (one took _ _ _ c.put.ensures)
