use Rattle.std.proofs.Common.{◌≡◌, length}
use Rattle.std.specs.List.{list_all}
use Rattle.ron_spec_grammar.specs.Schema.{has_distinct_names}
use Rattle.ron_data_schema.specs.Shapes.{shape_view}
use Rattle.ron_data_schema.proofs.schema.names.are_distinct.Given as goal

abbrev pub invariant-loop-shape : goal.invariant-loop-shape
invariant-loop-shape l = list_all (λ s. has_distinct_names (shape_view s)) l.rest ≡ list_all (λ s. has_distinct_names (shape_view s)) l.shapes

abbrev pub decreases-loop-shape : goal.decreases-loop-shape
decreases-loop-shape l = length l.rest
