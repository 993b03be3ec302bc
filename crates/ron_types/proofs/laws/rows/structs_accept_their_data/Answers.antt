use Rattle.ron_types.proofs.RowLaws.{structs}
use Rattle.ron_types.proofs.laws.rows.structs_accept_their_data.Goals as goal

pub returns : goal.returns
returns g c = λ names differ all name. structs name names g.R.Row.tables g.R.Row.accepts_named differ all
