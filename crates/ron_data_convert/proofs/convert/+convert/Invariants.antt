use Rattle.std.proofs.Common.{◌≡◌, ◌+◌, ◌*◌, ◌≤◌, length}
use Rattle.std.specs.Vec.Iter.{into_iter_items}
use Rattle.ron_value.specs.View.{tree_of, entries}
use Rattle.ron_value.specs.Walk.{owned_left}
use Rattle.ron_data_schema.specs.Table.{shapes_of}
use Rattle.ron_data_convert.specs.Becomes.{items_tree, pairs_tree}
use Rattle.ron_data_schema.specs.Shapes.{list_view}
use Rattle.ron_data.specs.Slots.{slots_in, AreSlotsFor}
use Rattle.ron_data_convert.specs.Places.{ArePlaces, slots_at}
use Rattle.ron_data_convert.proofs.SizeLemmas.{size, items_size, pairs_size}
use Rattle.ron_data_convert.proofs.ItemLemmas.{AllGone, FirstOfAll, EachGone, FirstOfEach, PairsGone, FirstOfPairs}
use Rattle.ron_data_convert.proofs.FieldLemmas.{SlotsSoFar}
use Rattle.ron_data_convert.proofs.convert.+convert.Given as goal

-- ---- a value is larger than what it holds; four steps of the code to each

abbrev pub decreases-convert : goal.decreases-convert
decreases-convert l = 4 * size (tree_of l.value)

abbrev pub decreases-some : goal.decreases-some
decreases-some l = 4 * size (tree_of l.held) + 1

abbrev pub decreases-sequence : goal.decreases-sequence
decreases-sequence l = 4 * items_size (items_tree l.items.items) + 2

abbrev pub decreases-all_items : goal.decreases-all_items
decreases-all_items l = 4 * items_size (items_tree l.items.items) + 1

abbrev pub decreases-each_item : goal.decreases-each_item
decreases-each_item l = 4 * items_size (items_tree l.items.items) + 1

abbrev pub decreases-only_item : goal.decreases-only_item
decreases-only_item l = 4 * items_size (items_tree l.items.items) + 1

abbrev pub decreases-mapping : goal.decreases-mapping
decreases-mapping l = 4 * pairs_size (pairs_tree (entries l.held)) + 3

abbrev pub decreases-pairs : goal.decreases-pairs
decreases-pairs l = 4 * pairs_size (pairs_tree (entries l.held)) + 1

abbrev pub decreases-fields : goal.decreases-fields
decreases-fields l = 4 * pairs_size (pairs_tree (entries l.held)) + 2

abbrev pub decreases-wide_fields : goal.decreases-wide_fields
decreases-wide_fields l = 4 * pairs_size (pairs_tree (entries l.held)) + 1

abbrev pub decreases-slots : goal.decreases-slots
decreases-slots l = 4 * pairs_size (pairs_tree (entries l.held))

-- ---- loops

abbrev pub invariant-all_items-loop-item : goal.invariant-all_items-loop-item
invariant-all_items-loop-item l = record {
  gone : AllGone (shapes_of l.schema) l.index l.fn.items.items l.all.items (into_iter_items l.item-iterator);
  first : FirstOfAll (shapes_of l.schema) l.index l.fn.items.items (into_iter_items l.item-iterator);
  smaller : items_size (items_tree (into_iter_items l.item-iterator)) ≤ items_size (items_tree l.fn.items.items);
}

abbrev pub invariant-each_item-loop-item : goal.invariant-each_item-loop-item
invariant-each_item-loop-item l = record {
  gone : EachGone (shapes_of l.schema) l.shapes l.fn.items.items l.all.items l.left (into_iter_items l.item-iterator);
  first : FirstOfEach (shapes_of l.schema) l.shapes l.fn.items.items l.left (into_iter_items l.item-iterator);
  as_many : length l.left ≡ length (into_iter_items l.item-iterator);
  smaller : items_size (items_tree (into_iter_items l.item-iterator)) ≤ items_size (items_tree l.fn.items.items);
}

abbrev pub invariant-pairs-loop-key : goal.invariant-pairs-loop-key
invariant-pairs-loop-key l = record {
  gone : PairsGone (shapes_of l.schema) l.key_index l.value_index (entries l.fn.held) l.all.items (owned_left l.key-iterator);
  first : FirstOfPairs (shapes_of l.schema) l.key_index l.value_index (entries l.fn.held) (owned_left l.key-iterator);
  smaller : pairs_size (pairs_tree (owned_left l.key-iterator)) ≤ pairs_size (pairs_tree (entries l.fn.held));
}

abbrev pub invariant-slots-loop-key : goal.invariant-slots-loop-key
invariant-slots-loop-key l = record {
  named : AreSlotsFor l.list.fields.items l.slots;
  so_far : SlotsSoFar (shapes_of l.schema) (list_view l.list) (entries l.fn.held) (slots_in l.list.fields.items l.slots) (owned_left l.key-iterator);
  smaller : pairs_size (pairs_tree (owned_left l.key-iterator)) ≤ pairs_size (pairs_tree (entries l.fn.held));
}

abbrev pub invariant-fields-loop-key : goal.invariant-fields-loop-key
invariant-fields-loop-key l = record {
  few : length l.fn.list.fields.items ≤ length l.is_filled;
  places : ArePlaces l.list.fields.items l.is_filled l.all.items;
  so_far : SlotsSoFar (shapes_of l.schema) (list_view l.list) (entries l.fn.held) (slots_at l.list.fields.items l.is_filled l.all.items)
      (owned_left l.key-iterator);
  smaller : pairs_size (pairs_tree (owned_left l.key-iterator)) ≤ pairs_size (pairs_tree (entries l.fn.held));
}
