use Rattle.std.proofs.Common.{◌≡◌, length, map}
use Rattle.ron_spec_grammar.specs.Schema.{variants_differ}
use Rattle.ron_data_schema.specs.Names.{are_new, seen_in}
use Rattle.ron_data_schema.specs.Shapes.{variant_view}
use Rattle.ron_data_schema.proofs.schema.names.are_variants_distinct.Given as goal

-- the names differ where those that are left are new beside those seen by now
abbrev pub invariant-loop-variant : goal.invariant-loop-variant
invariant-loop-variant l = are_new (seen_in l.seen) (map (λ v. v.0) l.rest) ≡ variants_differ (map variant_view l.variants)

abbrev pub decreases-loop-variant : goal.decreases-loop-variant
decreases-loop-variant l = length l.rest
