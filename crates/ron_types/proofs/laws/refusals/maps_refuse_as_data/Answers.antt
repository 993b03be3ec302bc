use Rattle.ron_types.proofs.RefusalLaws.{two_parts}
use Rattle.ron_types.proofs.laws.refusals.maps_refuse_as_data.Goals as goal

pub returns : goal.returns
returns g c = λ keys values d. two_parts g.K.Deserialize.refuses g.V.Deserialize.refuses keys values
