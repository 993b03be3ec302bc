use Rattle.std.proofs.lemmas.Result.{err_from_is_err_and}
use Rattle.std.proofs.Common.{not, chars, ap, ◌∙◌}
use Rattle.ron_base.specs.declared.error.Error.TheVariants.{ExpectedIdentifier}
use Rattle.ron_de_untyped.proofs.CountLemmas.{look_none, look_refused, look_open, look_word, name_word, name_scans}
use Rattle.ron_de_untyped.proofs.LeadLemmas.{leads_here, name_leads}
use Rattle.ron_de_untyped.proofs.words.enter_named.Goals as goal

pub returns-then-not-opens_named_group-clause-turns : goal.returns-then-not-opens_named_group-clause-turns
returns-then-not-opens_named_group-clause-turns c =
    look_none c.args.cursor.now c.opens_named_group.new.self c.opens_named_group.ensures.place c.opens_named_group.ensures.turns

pub returns-then-is_none-clause-turns : goal.returns-then-is_none-clause-turns
returns-then-is_none-clause-turns c =
    look_refused c.args.cursor.now c.opens_named_group.new.self c.opens_named_group.ensures.place c.opens_named_group.ensures.turns c.untyped_name.new.self
    ExpectedIdentifier (name_scans c.untyped_name.result c.opens_named_group.new.self c.untyped_name.new.self c.untyped_name.ensures.turns)

pub returns-in_err-pass_gap-clause-turns : goal.returns-in_err-pass_gap-clause-turns
returns-in_err-pass_gap-clause-turns c =
    let p = err_from_is_err_and c.from_residual.result c.from_residual.ensures.1 in
    rw p.1 (look_open c.args.cursor.now c.opens_named_group.new.self c.opens_named_group.ensures.place c.opens_named_group.ensures.turns c.untyped_name.new.self
    c.pass_gap.new.cursor p.0 (name_word c.untyped_name.result c.opens_named_group.new.self c.untyped_name.new.self (λ n. chars n.now)
    (c.is_none.ensures ∙ ap not c.if-is_none.false) c.untyped_name.ensures.value c.untyped_name.ensures.turns) c.in_err-pass_gap.ensures.turns.most)

pub returns-clause-turns : goal.returns-clause-turns
returns-clause-turns c = look_word c.args.cursor.now c.opens_named_group.new.self c.opens_named_group.ensures.place c.opens_named_group.ensures.turns
    c.untyped_name.new.self c.pass_gap.new.cursor (name_word c.untyped_name.result c.opens_named_group.new.self c.untyped_name.new.self (λ n. chars n.now)
    (c.is_none.ensures ∙ ap not c.if-is_none.false) c.untyped_name.ensures.value c.untyped_name.ensures.turns) c.in_ok-pass_gap.ensures.turns.moved
    c.in_ok-pass_gap.ensures.rest

pub returns-then-not-opens_named_group-clause-leads : goal.returns-then-not-opens_named_group-clause-leads
returns-then-not-opens_named_group-clause-leads c = leads_here c.args.cursor.now c.opens_named_group.new.self c.opens_named_group.ensures.place.rest

pub returns-clause-leads : goal.returns-clause-leads
returns-clause-leads c =
    name_leads c.untyped_name.result c.args.cursor.now c.opens_named_group.new.self c.untyped_name.new.self c.pass_gap.new.cursor (λ n. chars n.now)
    (c.is_none.ensures ∙ ap not c.if-is_none.false) c.opens_named_group.ensures.place.rest c.untyped_name.ensures.value c.in_ok-pass_gap.ensures.rest
