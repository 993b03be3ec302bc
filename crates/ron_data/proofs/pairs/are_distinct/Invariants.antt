use Rattle.std.proofs.Common.{length, ◌-◌}
use Rattle.ron_data.proofs.PairLemmas.{FirstDiffer}
use Rattle.ron_data.proofs.pairs.are_distinct.Given as goal

abbrev pub invariant-loop-i : goal.invariant-loop-i
invariant-loop-i l = FirstDiffer l.i l.pairs

abbrev pub decreases-loop-i : goal.decreases-loop-i
decreases-loop-i l = length l.pairs - l.i
