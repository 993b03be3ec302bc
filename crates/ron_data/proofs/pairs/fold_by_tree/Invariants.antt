use Rattle.std.proofs.Common.{◌≡◌, ◌++◌, map}
use Rattle.std.specs.Vec.Iter.{into_iter_items}
use Rattle.ron_data.specs.Pairs.{with_key}
use Rattle.ron_data.proofs.pairs.fold_by_tree.Given as goal

abbrev pub invariant-loop-key : goal.invariant-loop-key
invariant-loop-key l = l.keyed.items ++ map with_key (into_iter_items l.key-iterator) ≡ map with_key l.fn.pairs.items
