use Rattle.std.proofs.Common.{◌≡◌, ◌<◌, true, length}
use Rattle.ron_spec_grammar.specs.Schema.{content_at}
use Rattle.ron_data_schema.specs.Shapes.{table_view}
use Rattle.ron_data_schema.specs.Chains.{is_of_length, AreRanks}
use Rattle.ron_data_schema.proofs.schema.chains.note_ranks.Given as goal

abbrev pub invariant-loop-content : goal.invariant-loop-content
invariant-loop-content l = record {
  here : l.at < length l.shapes;
  exact : is_of_length (table_view l.shapes) l.left (content_at (table_view l.shapes) l.at) ≡ true;
  ranks : AreRanks (table_view l.shapes) l.ranks;
}

abbrev pub decreases-loop-content : goal.decreases-loop-content
decreases-loop-content l = l.left
