use Rattle.std.proofs.Common.{◌≡◌, ◌+◌, ◌-◌, length}
use Rattle.ron_data_convert.proofs.PlaceLemmas.{Longer}
use Rattle.ron_data_convert.proofs.places.put_out_of_turn.Given as goal

abbrev pub invariant-loop-alloc : goal.invariant-loop-alloc
invariant-loop-alloc l = record {
  longer : Longer l.index l.fn.places.items l.places.items;
  value : l.value ≡ l.fn.value;
}

abbrev pub decreases-loop-alloc : goal.decreases-loop-alloc
decreases-loop-alloc l = l.index + 1 - length l.places.items
