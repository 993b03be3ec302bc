use Rattle.std.proofs.Common.{subst}
use Rattle.std.specs.Fmt.{WritesInCalls}
use Rattle.ron_ser.proofs.Pieces.{one}
use Rattle.ron_ser.proofs.AroundLemmas.{comma_later}
use Rattle.ron_ser.proofs.around.write_comma.Goals as goal

pub returns-then-i-gt0 : goal.returns-then-i-gt0
returns-then-i-gt0 g c = (subst (λ bs. WritesInCalls g.O.Output.puts c.args.out.now bs c.put.new.self) (comma_later c.args.i c.if-i-gt0.true)
    (one g.O.Output.puts _ _ _ (c.put.ensures)))
