use Rattle.std.proofs.Common.{map, sym, ap, ◌∙◌}
use Rattle.ron_data_schema.specs.Names.{are_new, seen_in}
use Rattle.ron_data_schema.proofs.NameLemmas.{first_variant, name_known, name_new}
use Rattle.ron_data_schema.proofs.schema.names.are_variants_distinct.Goals as goal

pub loop-variant-init : goal.loop-variant-init
loop-variant-init c = first_variant c.args.variants.now c.new-seen.ensures.empty

pub returns-then-not-branch : goal.returns-then-not-branch
returns-then-not-branch c =
    sym (sym c.loop-variant.invariant ∙ ap (λ vs. are_new (seen_in c.loop-variant.seen) (map (λ v. v.0) vs)) c.in-Some.ensures.cases.0
    ∙ name_known _ c.as_str.result c.in-Some.variant.now.0 _ c.as_str.ensures.value c.in_ok-insert.ensures.added c.if-not-branch.true)

pub loop-variant-preserved : goal.loop-variant-preserved
loop-variant-preserved c =
    sym (ap (λ vs. are_new (seen_in c.loop-variant.seen) (map (λ v. v.0) vs)) c.in-Some.ensures.cases.0
    ∙ name_new _ c.as_str.result c.in-Some.variant.now.0 _ c.as_str.ensures.value c.in_ok-insert.ensures.added c.if-not-branch.false
    c.in_ok-insert.ensures.keys)
    ∙ c.loop-variant.invariant
