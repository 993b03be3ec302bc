use Rattle.std.proofs.Common.{◌≡◌, map, take}
use Rattle.ron_data.specs.Datum.{data_view}
use Rattle.ron_types.specs.Lists.{Each}
use Rattle.ron_types.specs.OfTables.{IsOf}
use Rattle.ron_example_tree.specs.Tree.{tree_data, tree_table}
use Rattle.ron_example_tree.proofs.tree.+to_data.Given as goal

-- of the trees passed: what they stand for, and that it is of the schema
abbrev pub invariant-list_of-loop-tree : goal.invariant-list_of-loop-tree
invariant-list_of-loop-tree l = record {
  values : map data_view l.items.items ≡ map tree_data (take l.tree-index l.trees);
  of_schema : Each (λ t. IsOf tree_table (tree_data t)) (take l.tree-index l.trees);
}
