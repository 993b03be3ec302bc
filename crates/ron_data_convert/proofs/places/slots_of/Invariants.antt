use Rattle.std.specs.Vec.Iter.{into_iter_items}
use Rattle.ron_data.specs.Slots.{slots_in, AreSlotsFor}
use Rattle.ron_data_convert.proofs.PlaceLemmas.{FromPlaces}
use Rattle.ron_data_convert.proofs.places.slots_of.Given as goal

abbrev pub invariant-loop-value : goal.invariant-loop-value
invariant-loop-value l = record {
  named : AreSlotsFor l.list.fields.items l.slots;
  from : FromPlaces l.list.fields.items l.is_filled l.fn.places.items (slots_in l.list.fields.items l.slots) l.index (into_iter_items l.value-iterator);
}
