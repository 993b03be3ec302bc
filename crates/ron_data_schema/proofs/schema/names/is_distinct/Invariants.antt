use Rattle.std.proofs.Common.{◌≡◌, length, map}
use Rattle.ron_spec_grammar.specs.Schema.{names_differ}
use Rattle.ron_data_schema.specs.Names.{are_new, seen_in}
use Rattle.ron_data_schema.specs.Shapes.{field_view}
use Rattle.ron_data_schema.proofs.NameLemmas.{names_in}
use Rattle.ron_data_schema.proofs.schema.names.is_distinct.Given as goal

-- the names differ where those that are left are new beside those seen by now
abbrev pub invariant-loop-field : goal.invariant-loop-field
invariant-loop-field l = are_new (seen_in l.seen) (names_in l.rest) ≡ names_differ (map field_view l.fields)

abbrev pub decreases-loop-field : goal.decreases-loop-field
decreases-loop-field l = length l.rest
