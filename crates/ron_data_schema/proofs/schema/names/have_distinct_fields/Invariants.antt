use Rattle.std.proofs.Common.{◌≡◌, length}
use Rattle.std.specs.List.{list_all}
use Rattle.ron_spec_grammar.specs.Schema.{variant_has_distinct_names}
use Rattle.ron_data_schema.specs.Shapes.{content_view}
use Rattle.ron_data_schema.proofs.schema.names.have_distinct_fields.Given as goal

abbrev pub invariant-loop-variant : goal.invariant-loop-variant
invariant-loop-variant l =
    list_all (λ v. variant_has_distinct_names (content_view v.1)) l.rest ≡ list_all (λ v. variant_has_distinct_names (content_view v.1)) l.variants

abbrev pub decreases-loop-variant : goal.decreases-loop-variant
decreases-loop-variant l = length l.rest
