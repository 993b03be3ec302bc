use Rattle.std.proofs.Common.{sym, ap, ◌&&◌, ◌∙◌}
use Rattle.ron_data_schema.specs.Names.{are_new, seen_in}
use Rattle.ron_data_schema.proofs.NameLemmas.{names_in, first_field, none_left}
use Rattle.ron_data_schema.proofs.schema.names.is_distinct.Goals as goal

pub loop-field-init : goal.loop-field-init
loop-field-init c = first_field c.args.fields.now c.new-seen.ensures.empty

pub returns-then-not-branch : goal.returns-then-not-branch
returns-then-not-branch c =
    let others = names_in c.in-Some.others.now in
    let tried = ap (λ fs. are_new (seen_in c.loop-field.seen) (names_in fs)) c.in-Some.ensures.cases.0 ∙ c.in_ok-adds_field.ensures others in
    sym (tried ∙ ap (λ b. b && are_new (seen_in c.adds_field.new.seen) others) c.if-not-branch.true) ∙ c.loop-field.invariant

pub loop-field-preserved : goal.loop-field-preserved
loop-field-preserved c =
    let others = names_in c.in-Some.others.now in
    let tried = ap (λ fs. are_new (seen_in c.loop-field.seen) (names_in fs)) c.in-Some.ensures.cases.0 ∙ c.in_ok-adds_field.ensures others in
    sym (tried ∙ ap (λ b. b && are_new (seen_in c.adds_field.new.seen) others) c.if-not-branch.false) ∙ c.loop-field.invariant

pub returns : goal.returns
returns c = sym (none_left (seen_in c.loop-field.seen) c.loop-field.rest.now c.in_default.ensures.cases) ∙ c.loop-field.invariant
