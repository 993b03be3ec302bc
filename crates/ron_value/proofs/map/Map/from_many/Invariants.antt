use Rattle.std.proofs.Common.{◌≡◌, []}
use Rattle.std.specs.Vec.Iter.{into_iter_items}
use Rattle.ron_value.specs.Entries.{with_entries, ArePartsOrdered}
use Rattle.ron_value.specs.Ordered.{IsOrdered}
use Rattle.ron_value.specs.View.{entries_tree}
use Rattle.ron_value.proofs.map.Map.from_many.Given as goal

abbrev pub invariant-loop-key : goal.invariant-loop-key
invariant-loop-key l = record {
  content : with_entries (into_iter_items l.key-iterator) l.tree.entries ≡ with_entries l.fn.pairs.items [];
  ordered : ArePartsOrdered l.fn.pairs.items → IsOrdered (entries_tree l.tree.entries) × ArePartsOrdered (into_iter_items l.key-iterator);
}
