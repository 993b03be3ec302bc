use Rattle.std.proofs.Common.{subst, arith}
use Rattle.std.specs.Fmt.{WritesInCalls, digits}
use Rattle.ron_ser.proofs.Pieces.{one, both}
use Rattle.ron_ser.proofs.EscapeLemmas.{by_number}
use Rattle.ron_ser.proofs.escapes.write_numbered.Goals as goal

pub returns : goal.returns
unfolding digits
returns g c =
    let took = g.O.Output.puts in
    subst (λ bs. WritesInCalls took c.args.out.now bs c.put-2.new.self) (by_number c.args.c (omega arith) c.requires.hidden c.requires.long)
    (both took _ _ _ _ _ (one took _ _ _ c.put.ensures) (both took _ _ _ _ _ (c.write_hexadecimal.ensures 63 (omega arith)) (one took _ _ _ c.put-2.ensures)))
