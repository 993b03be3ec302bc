use Rattle.std.proofs.Common.{◌≡◌}
use Rattle.ron.specs.Shapes.{table_view}
use Rattle.ron_bench.specs.Tree.{tree_shapes}
use Rattle.ron_bench.proofs.tree.tree_schema.Given as goal

abbrev pub invariant-loop-level : goal.invariant-loop-level
invariant-loop-level l = table_view l.shapes.items ≡ tree_shapes l.fn.leaf l.level
