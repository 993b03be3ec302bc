use Rattle.std.proofs.Common.{subst}
use Rattle.std.specs.Fmt.{WritesInCalls}
use Rattle.ron_ser.proofs.Pieces.{one, both}
use Rattle.ron_ser.proofs.docs.write_item_comment.Goals as goal

pub returns : goal.returns
returns g c =
    let took = g.O.Output.puts in
    let digits = subst (λ bs. WritesInCalls took c.put.new.self bs c.put-2.new.self) c.format.ensures.text (one took _ _ _ c.put-2.ensures) in
    both took _ _ _ _ _ (one took _ _ _ c.put.ensures) (both took _ _ _ _ _ digits (one took _ _ _ c.put-3.ensures))
