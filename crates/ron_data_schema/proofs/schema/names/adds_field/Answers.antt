use Rattle.std.proofs.Common.{◌++◌, sym, ap, ◌∙◌}
use Rattle.ron_data_schema.specs.Names.{are_new, seen_in}
use Rattle.ron_data_schema.proofs.NameLemmas.{name_known, name_new}
use Rattle.ron_data_schema.proofs.schema.names.adds_field.Goals as goal

pub returns-then-not-branch : goal.returns-then-not-branch
returns-then-not-branch c behind = name_known _ c.as_str.result c.args.field.now.name _ c.as_str.ensures.value c.in_ok-insert.ensures.added c.if-not-branch.true

pub loop-alias-init : goal.loop-alias-init
loop-alias-init c behind =
    name_new _ c.as_str.result c.args.field.now.name _ c.as_str.ensures.value c.in_ok-insert.ensures.added c.if-not-branch.false c.in_ok-insert.ensures.keys
    ∙ ap (λ ns. are_new (seen_in c.insert.new.self) (ns ++ behind)) (sym c.as_slice-aliases.ensures.value)

pub returns-then-not-branch-2 : goal.returns-then-not-branch-2
returns-then-not-branch-2 c behind =
    c.loop-alias.invariant behind ∙ ap (λ ns. are_new (seen_in c.loop-alias.seen) (ns ++ behind)) c.in-Some.ensures.cases.0
    ∙ name_known _ c.as_str-in-Some.result c.in-Some.alias.now _ c.as_str-in-Some.ensures.value c.in_ok-insert-2.ensures.added c.if-not-branch-2.true

pub loop-alias-preserved : goal.loop-alias-preserved
loop-alias-preserved c behind =
    c.loop-alias.invariant behind ∙ ap (λ ns. are_new (seen_in c.loop-alias.seen) (ns ++ behind)) c.in-Some.ensures.cases.0
    ∙ name_new _ c.as_str-in-Some.result c.in-Some.alias.now _ c.as_str-in-Some.ensures.value c.in_ok-insert-2.ensures.added c.if-not-branch-2.false
    c.in_ok-insert-2.ensures.keys
