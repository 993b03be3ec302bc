use Rattle.std.proofs.Common.{◌≡◌, ◌+◌, ◌*◌, ◌≤◌, ◌++◌, map}
use Rattle.std.specs.Vec.Iter.{into_iter_items}
use Rattle.ron_data.specs.Datum.{data_view, content_view, items_view, pairs_view, fields_view, pair_view, named_view}
use Rattle.ron_data.proofs.WeightLemmas.{weight, content_weight, items_weight, pairs_weight, fields_weight}
use Rattle.ron_data.proofs.owned.+owned.Given as goal

-- ---- data is larger than what it holds; four steps of the code to each

abbrev pub decreases-owned : goal.decreases-owned
decreases-owned l = 4 * weight (data_view l.value)

abbrev pub decreases-owned_content : goal.decreases-owned_content
decreases-owned_content l = 4 * content_weight (content_view l.content) + 3

abbrev pub decreases-owned_box : goal.decreases-owned_box
decreases-owned_box l = 4 * weight (data_view l.content.value) + 2

abbrev pub decreases-owned_items : goal.decreases-owned_items
decreases-owned_items l = 4 * items_weight (items_view l.items.items) + 2

abbrev pub decreases-owned_pairs : goal.decreases-owned_pairs
decreases-owned_pairs l = 4 * pairs_weight (pairs_view l.pairs.items) + 2

abbrev pub decreases-owned_pair : goal.decreases-owned_pair
decreases-owned_pair l = 4 * (weight (data_view l.pair.0) + weight (data_view l.pair.1)) + 1

abbrev pub decreases-owned_fields : goal.decreases-owned_fields
decreases-owned_fields l = 4 * fields_weight (fields_view l.fields.items) + 2

abbrev pub decreases-owned_field : goal.decreases-owned_field
decreases-owned_field l = 4 * weight (data_view l.field.1) + 1

-- ---- what is owned already, and what is left, is seen as all was

abbrev pub invariant-owned_items-loop-item : goal.invariant-owned_items-loop-item
invariant-owned_items-loop-item l = record {
  seen : map data_view l.all.items ++ map data_view (into_iter_items l.item-iterator) ≡ map data_view l.fn.items.items;
  smaller : items_weight (items_view (into_iter_items l.item-iterator)) ≤ items_weight (items_view l.fn.items.items);
}

abbrev pub invariant-owned_pairs-loop-pair : goal.invariant-owned_pairs-loop-pair
invariant-owned_pairs-loop-pair l = record {
  seen : map pair_view l.all.items ++ map pair_view (into_iter_items l.pair-iterator) ≡ map pair_view l.fn.pairs.items;
  smaller : pairs_weight (pairs_view (into_iter_items l.pair-iterator)) ≤ pairs_weight (pairs_view l.fn.pairs.items);
}

abbrev pub invariant-owned_fields-loop-field : goal.invariant-owned_fields-loop-field
invariant-owned_fields-loop-field l = record {
  seen : map named_view l.all.items ++ map named_view (into_iter_items l.field-iterator) ≡ map named_view l.fn.fields.items;
  smaller : fields_weight (fields_view (into_iter_items l.field-iterator)) ≤ fields_weight (fields_view l.fn.fields.items);
}
