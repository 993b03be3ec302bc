use Rattle.std.proofs.Common.{◌-◌}
use Rattle.ron_data.specs.Slots.{AddsEmpty}
use Rattle.ron_data.proofs.slots.add_empty.Given as goal

abbrev pub invariant-loop-slots : goal.invariant-loop-slots
invariant-loop-slots g l = AddsEmpty l.initial.slots.items l.slots.items

abbrev pub decreases-loop-slots : goal.decreases-loop-slots
decreases-loop-slots g l = l.len - l.slots.len
