use Rattle.std.proofs.Common.{drop}
use Rattle.ron_data.proofs.FoldLemmas.{FoundSoFar}
use Rattle.ron_data.proofs.pairs.places.Given as goal

abbrev pub invariant-loop-key : goal.invariant-loop-key
invariant-loop-key g l = FoundSoFar g.K.Ord.cmp l.entries (drop l.key-index l.entries) l.found l.places.items
