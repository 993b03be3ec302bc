use Rattle.std.proofs.Common.{◌≡◌, ◌++◌, map, drop}
use Rattle.ron_value.specs.View.{tree_of, pair_tree}
use Rattle.ron_value.proofs.copy.+copy.Given as goal

abbrev pub invariant-clone_items-loop-item : goal.invariant-clone_items-loop-item
invariant-clone_items-loop-item l = map tree_of l.copies.items ++ map tree_of (drop l.item-index l.items) ≡ map tree_of l.items

abbrev pub invariant-clone_map-loop-key : goal.invariant-clone_map-loop-key
invariant-clone_map-loop-key l = map pair_tree l.pairs.items ++ map pair_tree (drop l.key-index l.key-items) ≡ map pair_tree l.key-items
