use Rattle.std.proofs.Common.{◌-◌, ◌<◌, ◌≤◌, length}
use Rattle.ron_data_schema.specs.Shapes.{table_view}
use Rattle.ron_data_schema.proofs.ChainLemmas.{GoesOn}
use Rattle.ron_data_schema.proofs.schema.chains.rank_of.Given as goal

abbrev pub invariant-loop-content : goal.invariant-loop-content
invariant-loop-content l = record {
  here : l.at < length l.shapes;
  within : l.members ≤ length l.shapes;
  goes_on : GoesOn (table_view l.shapes) l.index l.members l.at;
}

abbrev pub decreases-loop-content : goal.decreases-loop-content
decreases-loop-content l = length l.shapes - l.members
