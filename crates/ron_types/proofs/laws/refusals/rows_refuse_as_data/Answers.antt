use Rattle.ron_types.proofs.RefusalLaws.{no_part, more_parts}
use Rattle.ron_types.proofs.laws.refusals.rows_refuse_as_data.Goals as goal

pub returns : goal.returns
returns g c = record { none = no_part; more = more_parts g.A.Deserialize.refuses g.R.FromRow.refuses }
