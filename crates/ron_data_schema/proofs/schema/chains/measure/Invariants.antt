use Rattle.std.proofs.Common.{◌≡◌, ◌<◌, ℕ, true, length}
use Rattle.ron_spec_grammar.specs.Schema.{content_at, ends_within}
use Rattle.ron_spec_grammar.specs.Room.{longest_of}
use Rattle.ron_data_schema.specs.Shapes.{table_view}
use Rattle.ron_data_schema.specs.Chains.{AreRanks}
use Rattle.ron_data_schema.proofs.schema.chains.measure.Given as goal

abbrev pub invariant-loop-index : goal.invariant-loop-index
invariant-loop-index l = record {
  ranks : AreRanks (table_view l.shapes) l.ranks;
  ends : (i : ℕ) → i < l.index → ends_within (table_view l.shapes) (length l.shapes) (content_at (table_view l.shapes) i) ≡ true;
  longest : l.longest ≡ longest_of (table_view l.shapes) l.index;
}
