use Rattle.ron_types.proofs.RefusalLaws.{no_part, own_or}
use Rattle.ron_types_fields.proofs.FieldLaws.{either}
use Rattle.ron_types_fields.proofs.laws.rows_refuse_as_data.Goals as goal

pub returns : goal.returns
returns g c = record {
  none = no_part;
  more = either g.F.FieldFromData.refuses g.R.FieldsFromData.refuses;
  structs = own_or g.R.FieldsFromData.refuses;
}
