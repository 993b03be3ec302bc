use Rattle.std.proofs.Common.{refl}
use Rattle.ron_data.proofs.SlotLemmas.{adds-nothing, adds-one}
use Rattle.ron_data.proofs.slots.add_empty.Goals as goal

pub loop-slots-init : goal.loop-slots-init
loop-slots-init g c = adds-nothing _ _ refl

pub loop-slots-preserved : goal.loop-slots-preserved
loop-slots-preserved g c = adds-one _ _ _ c.loop-slots.invariant c.in_ok-push.ensures.items
