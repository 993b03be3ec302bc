use Rattle.std.proofs.Common.{subst, sym, ap}
use Rattle.std.specs.Fmt.{WritesInCalls}
use Rattle.ron_ser.specs.Written.{announced}
use Rattle.ron_ser.proofs.Pieces.{one, both}
use Rattle.ron_ser.proofs.head.write_attribute.Goals as goal

pub returns : goal.returns
returns g c =
    let took = g.O.Output.puts in
    let is = ap (λ b. announced b c.args.name.now c.args.new_line.now) c.if-not-taken.false in
    (subst (λ bs. WritesInCalls took c.args.out.now bs c.put-4.new.self) (sym is)
    (both took _ _ _ _ _ (one took _ _ _ (c.put.ensures)) (both took _ _ _ _ _ (one took _ _ _ (c.put-2.ensures))
    (both took _ _ _ _ _ (one took _ _ _ (c.put-3.ensures)) (one took _ _ _ (c.put-4.ensures))))))
