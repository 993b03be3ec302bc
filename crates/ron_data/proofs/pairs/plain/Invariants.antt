use Rattle.std.proofs.Common.{◌≡◌, ◌++◌, map}
use Rattle.std.specs.Vec.Iter.{into_iter_items}
use Rattle.ron_data.specs.Pairs.{without_key}
use Rattle.ron_data.proofs.pairs.plain.Given as goal

abbrev pub invariant-loop-key : goal.invariant-loop-key
invariant-loop-key l = l.pairs.items ++ map without_key (into_iter_items l.key-iterator) ≡ map without_key l.fn.keyed.items
