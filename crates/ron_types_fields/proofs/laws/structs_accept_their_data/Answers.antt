use Rattle.ron_types_fields.proofs.StructLaws.{structs}
use Rattle.ron_types_fields.proofs.laws.structs_accept_their_data.Goals as goal

pub returns : goal.returns
returns g c = λ names name may every. structs name names g.R.FieldRow.members g.R.FieldRow.skips g.R.FieldRow.accepts may every
