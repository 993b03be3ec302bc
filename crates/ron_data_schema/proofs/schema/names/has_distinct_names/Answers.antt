use Rattle.std.proofs.Common.{◌≡◌, true, map, sym, ap, subst, ◌∙◌}
use Rattle.std.specs.Prelude.{MatchResult}
use Rattle.std.specs.List.{list_all}
use Rattle.ron_base.specs.declared.error.Error.TheVariants.{OutOfMemory}
use Rattle.ron_spec_grammar.specs.Schema.{has_distinct_names, variant_has_distinct_names, variants_differ}
use Rattle.ron_data_schema.specs.Shapes.{content_view, shape_view, variant_view}
use Rattle.ron_data_schema.proofs.TableLemmas.{distinct_fields-view}
use Rattle.ron_data_schema.proofs.schema.names.has_distinct_names.Goals as goal

pub returns-else-not-branch : goal.returns-else-not-branch
returns-else-not-branch c =
    let items = c.in-Enum.variants.items in
    let slice = c.as_slice-variants.ensures.value in
    let differ : variants_differ (map variant_view items) ≡ true =
    ap (λ vs. variants_differ (map variant_view vs)) (sym slice) ∙ sym c.in_ok-are_variants_distinct-in-Enum.ensures ∙ c.if-not-branch.false in
    let same : list_all (λ v. variant_has_distinct_names (content_view v.1)) c.as_slice-variants.result.now ≡ has_distinct_names (shape_view c.args.shape.now) =
    rw (c.in-Enum.is, slice, differ) (sym (distinct_fields-view items)) in
    subst (λ b. MatchResult c.have_distinct_fields.result (λ d. d ≡ b) (λ e. e ≡ OutOfMemory)) same c.have_distinct_fields.ensures
