use Rattle.std.proofs.Common.{◌≡◌, Vec, Global, ◌++◌, map}
use Rattle.std.specs.Vec.Iter.{into_iter_items}
use Rattle.ron_data.specs.Datum.{data_view}
use Rattle.ron_types.specs.Lists.{Each}
use Rattle.ron_types.specs.Normal.{list_data}
use Rattle.ron_example_tree.specs.declared.tree.Tree.{Tree}
use Rattle.ron_example_tree.specs.Tree.{tree_data, IsTree}
use Rattle.ron_example_tree.proofs.tree.+from_data.Given as goal

-- the trees made, and the items left, stand for all items; where the data is a list of trees, so are the items left
abbrev pub invariant-children_of-loop-item : goal.invariant-children_of-loop-item
invariant-children_of-loop-item l = record {
  values : map tree_data l.children.items ++ map data_view (into_iter_items l.item-iterator) ≡ map data_view (into_iter_items l.initial.item-iterator);
  accepted : (ts : Vec Tree Global) → list_data tree_data ts.items ≡ data_view l.fn.from → Each IsTree (into_iter_items l.item-iterator);
}
