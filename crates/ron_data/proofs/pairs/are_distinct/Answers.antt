use Rattle.std.proofs.Common.{take, sym, ap, ◌∙◌, arith}
use Rattle.ron_data.specs.declared.data.Data.{Data}
use Rattle.ron_data.proofs.PairLemmas.{is_among, one_differs}
use Rattle.ron_data.proofs.pairs.are_distinct.Goals as goal

pub loop-i-preserved : goal.loop-i-preserved
loop-i-preserved c = one_differs c.args.pairs.now c.loop-i.i c.index-pairs-i.result (omega (arith, c.loop-i-test.true)) c.index-pairs-i.is
    (ap (λ (q : Data × Data). is_among q.0 (take c.loop-i.i c.args.pairs.now)) c.index-pairs-i.is ∙ sym c.is_key_among.ensures ∙ c.if-is_key_among.false)
    c.loop-i.invariant
