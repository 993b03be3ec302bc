use Rattle.ron_types.proofs.RefusalLaws.{own_or}
use Rattle.ron_types.proofs.laws.refusals.structs_refuse_as_data.Goals as goal

pub returns : goal.returns
returns g c = own_or g.R.FromRow.refuses
