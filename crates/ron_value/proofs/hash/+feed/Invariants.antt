use Rattle.std.proofs.Common.{◌≡◌, map, fold, drop}
use Rattle.ron_value.specs.Tree.{items_from, pairs_from}
use Rattle.ron_value.specs.Writes.{items_writes, pairs_writes}
use Rattle.ron_value.specs.View.{tree_of, pair_tree}
use Rattle.ron_value.proofs.hash.+feed.Given as goal

abbrev pub invariant-feed_items-loop-item : goal.invariant-feed_items-loop-item
invariant-feed_items-loop-item g l =
    fold g.H.Hasher.write l.state (items_writes (items_from (map tree_of (drop l.item-index l.items))))
    ≡ fold g.H.Hasher.write l.fn.state (items_writes (items_from (map tree_of l.items)))

abbrev pub invariant-feed_map-loop-pair : goal.invariant-feed_map-loop-pair
invariant-feed_map-loop-pair g l =
    fold g.H.Hasher.write l.state (pairs_writes (pairs_from (map pair_tree (drop l.pair-index l.pair-items))))
    ≡ fold g.H.Hasher.write l.fn.state (pairs_writes (pairs_from (map pair_tree l.pair-items)))
