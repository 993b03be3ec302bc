use Rattle.ron_types_fields.proofs.FieldLaws.{more_spelled}
use Rattle.ron_types_fields.proofs.laws.rows_accept_their_data.Goals as goal

pub returns : goal.returns
returns g c = more_spelled _ g.R.FieldRow.members g.F.FieldType.accepts g.R.FieldRow.accepts
