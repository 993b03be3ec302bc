use Rattle.std.proofs.Common.{length, ◌-◌, ◌≡◌, map, drop, ◌≤◌}
use Rattle.std.specs.Cmp.Lexicographic.{slice_cmp}
use Rattle.ron_data.specs.Datum.{data_view, pair_view, named_view}
use Rattle.ron_data.specs.Order.{data_cmp, pair_cmp, field_cmp}
use Rattle.ron_data.proofs.order.+compare.Given as goal

abbrev pub invariant-compare_items-loop-i : goal.invariant-compare_items-loop-i
invariant-compare_items-loop-i l = record {
  in_items : l.i ≤ length l.items;
  in_others : l.i ≤ length l.others;
  rest : slice_cmp data_cmp (map data_view (drop l.i l.items)) (map data_view (drop l.i l.others))
      ≡ slice_cmp data_cmp (map data_view l.items) (map data_view l.others);
}

abbrev pub decreases-compare_items-loop-i : goal.decreases-compare_items-loop-i
decreases-compare_items-loop-i l = length l.items - l.i

abbrev pub invariant-compare_pairs-loop-i : goal.invariant-compare_pairs-loop-i
invariant-compare_pairs-loop-i l = record {
  in_pairs : l.i ≤ length l.pairs;
  in_others : l.i ≤ length l.others;
  rest : slice_cmp pair_cmp (map pair_view (drop l.i l.pairs)) (map pair_view (drop l.i l.others))
      ≡ slice_cmp pair_cmp (map pair_view l.pairs) (map pair_view l.others);
}

abbrev pub decreases-compare_pairs-loop-i : goal.decreases-compare_pairs-loop-i
decreases-compare_pairs-loop-i l = length l.pairs - l.i

abbrev pub invariant-compare_fields-loop-i : goal.invariant-compare_fields-loop-i
invariant-compare_fields-loop-i l = record {
  in_fields : l.i ≤ length l.fields;
  in_others : l.i ≤ length l.others;
  rest : slice_cmp field_cmp (map named_view (drop l.i l.fields)) (map named_view (drop l.i l.others))
      ≡ slice_cmp field_cmp (map named_view l.fields) (map named_view l.others);
}

abbrev pub decreases-compare_fields-loop-i : goal.decreases-compare_fields-loop-i
decreases-compare_fields-loop-i l = length l.fields - l.i
