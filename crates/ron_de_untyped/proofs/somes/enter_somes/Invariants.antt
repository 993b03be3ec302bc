use Rattle.std.proofs.Common.{length}
use Rattle.ron_de_untyped.proofs.SomeLemmas.{GoesIn}
use Rattle.ron_de_untyped.proofs.somes.enter_somes.Given as goal

abbrev pub invariant-somes : goal.invariant-somes
invariant-somes l = GoesIn l.depth l.size l.initial.context l.initial.cursor l.context l.cursor

abbrev pub decreases-somes : goal.decreases-somes
decreases-somes l = length l.cursor.rest
