use Rattle.std.proofs.Common.{◌≡◌, chars, encode_utf8_all, subst, arith}
use Rattle.std.specs.Fmt.{WritesInCalls}
use Rattle.ron_spec_layout.specs.Config.{times}
use Rattle.ron_ser.proofs.Pieces.{nothing, one, piece}
use Rattle.ron_ser.proofs.LineLemmas.{times_more}
use Rattle.ron_ser.proofs.lines.write_each.Goals as goal

pub loop-init : goal.loop-init
loop-init g c = nothing g.O.Output.puts c.args.out.now

pub loop-preserved : goal.loop-preserved
loop-preserved g c =
    let took = g.O.Output.puts in
    piece took _ _ _ _ _ _ (times_more c.loop.counter c.args.text.now c.utf8.text) c.loop.invariant (one took _ _ _ (c.put.ensures))

pub returns : goal.returns
returns g c =
    let last : c.loop.counter ≡ c.args.n = omega arith in
    subst (λ k. WritesInCalls g.O.Output.puts c.args.out.now (encode_utf8_all (times k (chars c.args.text.now))) c.loop.out) last c.loop.invariant
