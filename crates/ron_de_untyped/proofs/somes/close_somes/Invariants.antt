use Rattle.ron_de_untyped.proofs.SomeLemmas.{GoesOut}
use Rattle.ron_de_untyped.proofs.somes.close_somes.Given as goal

abbrev pub invariant-somes : goal.invariant-somes
invariant-somes l = GoesOut l.left l.depth l.initial.cursor l.initial.held l.cursor l.held

abbrev pub decreases-somes : goal.decreases-somes
decreases-somes l = l.left
