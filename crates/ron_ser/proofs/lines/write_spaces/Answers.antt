use Rattle.std.proofs.Common.{subst}
use Rattle.std.specs.Fmt.{WritesInCalls}
use Rattle.ron_ser.proofs.Pieces.{one, piece}
use Rattle.ron_ser.proofs.LineLemmas.{spaces_past, spaces_front, spaces_boundary}
use Rattle.ron_ser.proofs.lines.write_spaces.Goals as goal

pub loop-left-preserved : goal.loop-left-preserved
loop-left-preserved g c v h =
    let took = g.O.Output.puts in
    c.loop-left.invariant v (piece took _ _ _ _ _ _ (spaces_past c.loop-left.left c.loop-left-test.true) (one took _ _ _ (c.put.ensures)) h)

pub range-requires-clause-end_boundary : goal.range-requires-clause-end_boundary
range-requires-clause-end_boundary g c = spaces_boundary c.loop-left.left c.loop-left-test.false

pub returns : goal.returns
returns g c =
    let took = g.O.Output.puts in
    (c.loop-left.invariant _ (subst (λ bs. WritesInCalls took c.loop-left.out bs c.put-2.new.self)
    (spaces_front c.loop-left.left c.range.result.now c.loop-left-test.false c.range.ensures.value) (one took _ _ _ (c.put-2.ensures))))
