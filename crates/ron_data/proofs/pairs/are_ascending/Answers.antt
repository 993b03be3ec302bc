use Rattle.std.proofs.Common.{rules, sym, arith, ◌∙◌}
use Rattle.ron_data.specs.Datum.{data_view}
use Rattle.ron_data.specs.Order.{data_cmp}
use Rattle.ron_data.proofs.PairLemmas.{only_Less, first_ascends, one_ascends, all_differ}
use Rattle.ron_data.proofs.pairs.are_ascending.Goals as goal

pub loop-i-init : goal.loop-i-init
loop-i-init c = first_ascends c.args.pairs.now

pub loop-i-preserved : goal.loop-i-preserved
loop-i-preserved c =
    let before = c.index-pairs-i.is in
    let here = c.index-pairs-i-in-loop-i.is in
    one_ascends c.args.pairs.now c.loop-i.i c.index-pairs-i.result c.index-pairs-i-in-loop-i.result (omega arith) before here
    ((λ j. data_cmp (data_view (before j).0) (data_view (here j).0)) ∙ sym c.compare.ensures ∙ only_Less c.compare.result (search rules)) c.loop-i.invariant

pub returns : goal.returns
returns c = λ yes. all_differ c.args.pairs.now c.loop-i.i (omega arith) c.loop-i.invariant.differ
