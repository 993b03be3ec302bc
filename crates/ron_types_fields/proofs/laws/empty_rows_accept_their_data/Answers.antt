use Rattle.ron_types_fields.proofs.FieldLaws.{none_spelled}
use Rattle.ron_types_fields.proofs.laws.empty_rows_accept_their_data.Goals as goal

pub returns : goal.returns
returns c = record { only = none_spelled; others = none_spelled }
