use Rattle.ron_types.proofs.EnumLaws.{enums}
use Rattle.ron_types.proofs.laws.enums.enums_accept_their_data.Goals as goal

pub returns : goal.returns
returns g c = λ differ all name. enums name g.E.Enum.variants differ all
