use Rattle.ron_types.proofs.RowLaws.{no_items, no_fields}
use Rattle.ron_types.proofs.laws.rows.empty_rows_accept_their_data.Goals as goal

pub returns : goal.returns
returns c = record { items = no_items; fields = no_fields }
