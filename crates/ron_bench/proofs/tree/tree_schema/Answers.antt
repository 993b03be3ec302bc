use Rattle.std.proofs.Common.{◌+◌, refl}
use Rattle.std.proofs.lemmas.List.{map-append}
use Rattle.ron.specs.Shapes.{shape_view}
use Rattle.ron_bench.proofs.TreeLemmas.{pair_texts, one_level_more}
use Rattle.ron_bench.proofs.tree.tree_schema.Goals as goal

pub loop-level-init : goal.loop-level-init
loop-level-init c =
    rw (c.in_ok-push.ensures.items, map-append shape_view c.in_ok-shapes.shapes.items _, c.in_ok-shapes.ensures, c.in_ok-leaf_shape.ensures) refl

pub loop-level-preserved : goal.loop-level-preserved
loop-level-preserved c = rw (
  c.in_ok-push-2.ensures.items,
  map-append shape_view c.loop-level.shapes.items _,
  c.loop-level.invariant,
  c.in_ok-twofold.ensures,
  c.from-below.ensures,
  pair_texts (c.loop-level.level + 10),
  one_level_more c.args.leaf c.loop-level.level,
) refl
