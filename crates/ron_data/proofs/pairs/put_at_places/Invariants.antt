use Rattle.std.proofs.Common.{◌≡◌, [], drop}
use Rattle.std.specs.Vec.Iter.{into_iter_items}
use Rattle.ron_data.specs.Pairs.{places_in, with_entries}
use Rattle.ron_data.proofs.pairs.put_at_places.Given as goal

abbrev pub invariant-loop-entry : goal.invariant-loop-entry
invariant-loop-entry g l = record {
  put : with_entries g.K.Ord.cmp l.folded.items (into_iter_items l.entry-iterator) ≡ with_entries g.K.Ord.cmp [] l.fn.entries.items;
  places : drop l.i l.places ≡ places_in g.K.Ord.cmp l.folded.items (into_iter_items l.entry-iterator);
}
