use Rattle.std.proofs.Common.{subst}
use Rattle.std.specs.Fmt.{WritesInCalls}
use Rattle.ron_ser.proofs.Pieces.{one, both}
use Rattle.ron_ser.proofs.ranges.write_range.Goals as goal

pub returns : goal.returns
returns g c =
    let took = g.O.Output.puts in
    let points = subst (λ bs. WritesInCalls took c.write_end.new.out bs c.put.new.self) c.dots.ensures (one took _ _ _ (c.put.ensures)) in
    both took _ _ _ _ _ c.write_end.ensures (both took _ _ _ _ _ points c.write_end-2.ensures)
