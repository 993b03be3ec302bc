use Rattle.std.proofs.lemmas.Result.{err_from_is_err_and}
use Rattle.ron_spec_grammar.proofs.Turns.{item_without_name}
use Rattle.ron_spec_words.specs.Reader.{bad}
use Rattle.ron_data_schema.specs.Shapes.{list_view}
use Rattle.ron_de_steps.proofs.ErrorLemmas.{text_and}
use Rattle.ron_de_parts.proofs.StepLemmas.{refused, no_colon, name_slash, colon_slash, at_target}
use Rattle.ron_de_parts.proofs.TargetLemmas.{in_view}
use Rattle.ron_de_parts.proofs.TurnLemmas.{field_enters, field_leads}
use Rattle.ron_de_parts.proofs.fields.read_any_field_name.Goals as goal

pub returns-in-Err-clause-value : goal.returns-in-Err-clause-value
returns-in-Err-clause-value c =
    λ x shapes room seen h. text_and _ c.in_ok-identifier_error-in-Err.ensures.0 (item_without_name x shapes room _ seen _ bad c.in-Err.ensures.value)

pub returns-in_err-field-clause-value : goal.returns-in_err-field-clause-value
returns-in_err-field-clause-value c =
    let p = err_from_is_err_and c.from_residual-in_err-field.result c.from_residual-in_err-field.ensures.1 in
    rw (p.1, p.2)
    (λ x shapes room seen h. refused x shapes room (list_view c.args.list.now) seen _ _ _ c.in-Ok.ensures.value _ (c.in_err-field.ensures.value seen h))

pub returns-in_err-pass_gap-clause-value : goal.returns-in_err-pass_gap-clause-value
returns-in_err-pass_gap-clause-value c =
    let p = err_from_is_err_and c.from_residual-in_err-pass_gap.result c.from_residual-in_err-pass_gap.ensures.1 in
    rw (p.1, p.2) (λ x shapes room seen h.
    text_and _ c.in_err-pass_gap.ensures.fault.0 (name_slash x shapes room _ seen _ _ _ c.in-Ok.ensures.value c.in_err-pass_gap.ensures.slash))

pub returns-in_err-pass_gap-2-clause-value : goal.returns-in_err-pass_gap-2-clause-value
returns-in_err-pass_gap-2-clause-value c =
    let p = err_from_is_err_and c.from_residual-in_err-pass_gap-2.result c.from_residual-in_err-pass_gap-2.ensures.1 in
    rw (p.1, p.2) (λ x shapes room seen h. text_and _ c.in_err-pass_gap-2.ensures.fault.0 (colon_slash x shapes room _ seen _ _ _ c.in-Ok.ensures.value _ _
    c.in_ok-pass_gap.ensures.rest c.if-not-take.ensures.taken c.in_err-pass_gap-2.ensures.slash))

pub returns-then-not-take-clause-value : goal.returns-then-not-take-clause-value
returns-then-not-take-clause-value c =
    λ x shapes room seen h. no_colon x shapes room _ seen _ _ _ c.in-Ok.ensures.value _ c.in_ok-pass_gap.ensures.rest c.if-not-take.ensures.taken.0

pub returns-clause-value : goal.returns-clause-value
returns-clause-value c =
    λ x shapes room seen h. at_target x shapes room (list_view c.args.list.now) seen _ _ _ c.in-Ok.ensures.value _ _ c.pass_gap-2.new.cursor
    c.in_ok-pass_gap.ensures.rest c.if-not-take.ensures.taken c.in_ok-pass_gap-2.ensures.slash c.in_ok-pass_gap-2.ensures.gap c.in_ok-pass_gap-2.ensures.rest
    c.in_ok-field.field (in_view c.args.list.now.fields.items c.args.found.now c.in_ok-field.field c.in_ok-field.ensures.index)
    (c.in_ok-field.ensures.value seen h)

pub returns-clause-enters : goal.returns-clause-enters
returns-clause-enters c = field_enters c.args.cursor.now c.identifier.new.self c.pass_gap.new.cursor c.take.new.self c.pass_gap-2.new.cursor _
    c.in-Ok.ensures.value c.in_ok-pass_gap.ensures.rest c.if-not-take.ensures.taken c.in_ok-pass_gap-2.ensures.rest c.in_ok-pass_gap-2.ensures.gap

pub returns-clause-leads : goal.returns-clause-leads
returns-clause-leads c = field_leads c.args.cursor.now c.identifier.new.self c.pass_gap.new.cursor c.take.new.self c.pass_gap-2.new.cursor _
    c.in-Ok.ensures.value c.in_ok-pass_gap.ensures.rest c.if-not-take.ensures.taken c.in_ok-pass_gap-2.ensures.rest
