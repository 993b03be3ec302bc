use Rattle.ron_data.proofs.PairLemmas.{FirstAscend}
use Rattle.ron_data.proofs.pairs.are_ascending.Given as goal

abbrev pub invariant-loop-i : goal.invariant-loop-i
invariant-loop-i l = FirstAscend l.i l.pairs
