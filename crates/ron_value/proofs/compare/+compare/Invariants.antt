use Rattle.std.proofs.Common.{length, ◌-◌, ◌≡◌, map, drop, ◌≤◌}
use Rattle.std.specs.Cmp.Lexicographic.{slice_cmp}
use Rattle.ron_value.specs.Order.{tree_cmp, pair_cmp}
use Rattle.ron_value.specs.View.{tree_of, pair_tree}
use Rattle.ron_value.proofs.compare.+compare.Given as goal

abbrev pub invariant-compare_items-loop-i : goal.invariant-compare_items-loop-i
invariant-compare_items-loop-i l = record {
  in_items : l.i ≤ length l.items;
  in_others : l.i ≤ length l.others;
  rest : slice_cmp tree_cmp (map tree_of (drop l.i l.items)) (map tree_of (drop l.i l.others))
      ≡ slice_cmp tree_cmp (map tree_of l.items) (map tree_of l.others);
}

abbrev pub decreases-compare_items-loop-i : goal.decreases-compare_items-loop-i
decreases-compare_items-loop-i l = length l.items - l.i

abbrev pub invariant-compare_pairs-loop-i : goal.invariant-compare_pairs-loop-i
invariant-compare_pairs-loop-i l = record {
  in_pairs : l.i ≤ length l.pairs;
  in_others : l.i ≤ length l.others;
  rest : slice_cmp pair_cmp (map pair_tree (drop l.i l.pairs)) (map pair_tree (drop l.i l.others))
      ≡ slice_cmp pair_cmp (map pair_tree l.pairs) (map pair_tree l.others);
}

abbrev pub decreases-compare_pairs-loop-i : goal.decreases-compare_pairs-loop-i
decreases-compare_pairs-loop-i l = length l.pairs - l.i
