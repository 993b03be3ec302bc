use Rattle.std.proofs.Common.{refl}
use Rattle.ron_data.proofs.slots.unknown_field.Goals as goal

pub returns : goal.returns
returns c = (_, _, _, refl)
