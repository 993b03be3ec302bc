-- The count of turns in reading structs.
use Rattle.std.proofs.Common.{◌≡◌, true, nat_lt, get_or, map, ◌<◌, length, sym, subst, arith, Ok, Err, List}
use Rattle.std.proofs.Common.{false}
use Rattle.std.specs.List.{list_all}
use Rattle.std.proofs.lemmas.Result.{err_from_is_err_and}
use Rattle.ron_spec_grammar.specs.Data as plain
use Rattle.ron_spec_grammar.specs.Schema.{Shape}
use Rattle.ron_spec_grammar.specs.Turns.{read_fields_inside}
use Rattle.ron_data_schema.specs.Shapes.{field_view}
use Rattle.ron_de_parts.proofs.StepLemmas.{shape_in_range, free_field}
use Rattle.ron_spec_words.proofs.Leading.{leads_on}
use Rattle.ron_de.proofs.TurnLemmas.{made_turns, refused_turns, open_turns, here_spent, look_refused, look_entered, scan_settled, step_settled}
use Rattle.ron_de.proofs.TurnLemmas.{near_settled, mark_settled, gap_inside, scan_inside, counts_end, counts_item}
use Rattle.ron_de.proofs.ReachLemmas.{read_leads, skipped_leads, items_looks, item_spent}
use Rattle.ron_de_steps.proofs.LeadLemmas.{reached_on}
use Rattle.ron_de.specs.Turns.{SpendsShape, SpendsItems}
use Rattle.ron_de.proofs.+read.Goals as goal

-- ---- the count

pub structs::read_field-returns-in_err-field-clause-turns : goal.structs::read_field-returns-in_err-field-clause-turns
structs::read_field-returns-in_err-field-clause-turns t c =
    let p = err_from_is_err_and c.from_residual.result c.from_residual.ensures.1 in
    let turns = c.in_err-field.ensures.turns in
    rw (p.1, p.2) (look_refused _ c.args.cursor.now turns.looked turns.stays turns.looks c.read_field_name.new.cursor _ turns.moves.most)

pub structs::read_field-returns-in_err-inner-clause-turns : goal.structs::read_field-returns-in_err-inner-clause-turns
structs::read_field-returns-in_err-inner-clause-turns t c =
    let p = err_from_is_err_and c.from_residual-in_err-inner.result c.from_residual-in_err-inner.ensures.1 in
    let turns = c.in_ok-field.ensures.turns in
    rw (p.1, p.2) (look_refused _ c.args.cursor.now turns.looked turns.stays turns.looks c.read_field_name.new.cursor _ (omega (arith, turns.moves.moved)))

pub structs::read_field-returns-in_err-skip_untyped-clause-turns : goal.structs::read_field-returns-in_err-skip_untyped-clause-turns
structs::read_field-returns-in_err-skip_untyped-clause-turns t c =
    let p = err_from_is_err_and c.from_residual-in_err-skip_untyped.result c.from_residual-in_err-skip_untyped.ensures.1 in
    let turns = c.in_ok-field.ensures.turns in
    rw (p.1, p.2) (look_entered _ c.args.cursor.now turns.looked turns.stays turns.looks 2 c.read_field_name.new.cursor _ c.skip_untyped.new.cursor
    (omega arith) turns.moves.moved c.in_ok-field.ensures.enters (reached_on c.args.cursor.now c.read_field_name.new.cursor c.in_ok-field.ensures.text
    c.in_ok-field.ensures.leads) (refused_turns _ _ c.skip_untyped.new.cursor _ _ (c.in_err-skip_untyped.ensures.turns _)))

pub structs::read_field-returns-in_default-clause-turns : goal.structs::read_field-returns-in_default-clause-turns
structs::read_field-returns-in_default-clause-turns t c =
    let turns = c.in_ok-field.ensures.turns in
    look_entered _ c.args.cursor.now turns.looked turns.stays turns.looks 2 c.read_field_name.new.cursor _ c.skip_untyped.new.cursor (omega arith)
    turns.moves.moved c.in_ok-field.ensures.enters (reached_on c.args.cursor.now c.read_field_name.new.cursor c.in_ok-field.ensures.text
    c.in_ok-field.ensures.leads) (made_turns _ _ c.skip_untyped.new.cursor _ (Ok _) (c.in_ok-skip_untyped.ensures.turns _))

pub structs::read_field-returns-in_default-clause-leads : goal.structs::read_field-returns-in_default-clause-leads
structs::read_field-returns-in_default-clause-leads t c = λ f. leads_on c.in_ok-field.ensures.leads
    (skipped_leads c.in_ok-inner.inner c.read_field_name.new.cursor c.skip_untyped.new.cursor c.in_ok-skip_untyped.ensures.value f)

pub structs::read_field-returns-in_err-value-clause-turns : goal.structs::read_field-returns-in_err-value-clause-turns
structs::read_field-returns-in_err-value-clause-turns t c =
    let p = err_from_is_err_and c.from_residual-in_err-value.result c.from_residual-in_err-value.ensures.1 in
    let below = subst (λ fs. list_all (λ f. nat_lt f.shape (length c.args.context.now.schema)) (map field_view fs) ≡ true) (sym c.as_slice-fields.ensures.value)
    c.requires.1.1.0 in
    let lt = subst (λ fs. c.in-Some.index < length fs) (sym c.as_slice-fields.ensures.value)
    (free_field c.args.list.now.fields.items c.args.found.now _ _ c.in-Some.is c.in_ok-field.ensures.index).0 in
    let there = shape_in_range _ c.as_slice-fields.result.now c.in-Some.index c.index-fields-index.result below lt c.index-fields-index.is in
    let turns = c.in_ok-field.ensures.turns in
    rw (p.1, p.2) (look_entered _ c.args.cursor.now turns.looked turns.stays turns.looks _ c.read_field_name.new.cursor _ c.read_value.new.cursor
    (items_looks c.args.context.now.schema) turns.moves.moved c.in_ok-field.ensures.enters
    (reached_on c.args.cursor.now c.read_field_name.new.cursor c.in_ok-field.ensures.text c.in_ok-field.ensures.leads) (refused_turns _ _
    c.read_value.new.cursor _ _ (item_spent c.args.context.now.schema (get_or c.as_slice-fields.result.now c.in-Some.index c.index-fields-index.result).shape
    c.read_field_name.new.cursor (Err c.in_err-value.field-0.0) c.read_value.new.cursor there
    (subst (λ (s : List Shape). SpendsShape s (get_or c.as_slice-fields.result.now c.in-Some.index c.index-fields-index.result).shape
    c.read_field_name.new.cursor (Err c.in_err-value.field-0.0) c.read_value.new.cursor) c.in_ok-inner.ensures.1 c.in_err-value.ensures.turns))))

pub structs::read_field-returns-clause-turns : goal.structs::read_field-returns-clause-turns
structs::read_field-returns-clause-turns t c =
    let below = subst (λ fs. list_all (λ f. nat_lt f.shape (length c.args.context.now.schema)) (map field_view fs) ≡ true) (sym c.as_slice-fields.ensures.value)
    c.requires.1.1.0 in
    let lt = subst (λ fs. c.in-Some.index < length fs) (sym c.as_slice-fields.ensures.value)
    (free_field c.args.list.now.fields.items c.args.found.now _ _ c.in-Some.is c.in_ok-field.ensures.index).0 in
    let there = shape_in_range _ c.as_slice-fields.result.now c.in-Some.index c.index-fields-index.result below lt c.index-fields-index.is in
    let turns = c.in_ok-field.ensures.turns in
    look_entered _ c.args.cursor.now turns.looked turns.stays turns.looks _ c.read_field_name.new.cursor _ c.read_value.new.cursor
    (items_looks c.args.context.now.schema) turns.moves.moved c.in_ok-field.ensures.enters
    (reached_on c.args.cursor.now c.read_field_name.new.cursor c.in_ok-field.ensures.text c.in_ok-field.ensures.leads) (made_turns _ _ c.read_value.new.cursor _
    (Ok _) (item_spent c.args.context.now.schema (get_or c.as_slice-fields.result.now c.in-Some.index c.index-fields-index.result).shape
    c.read_field_name.new.cursor (Ok c.in_ok-value.value) c.read_value.new.cursor there
    (subst (λ (s : List Shape). SpendsShape s (get_or c.as_slice-fields.result.now c.in-Some.index c.index-fields-index.result).shape
    c.read_field_name.new.cursor (Ok c.in_ok-value.value) c.read_value.new.cursor) c.in_ok-inner.ensures.1 c.in_ok-value.ensures.turns)))

pub structs::read_field-returns-clause-leads : goal.structs::read_field-returns-clause-leads
structs::read_field-returns-clause-leads t c = λ f. leads_on c.in_ok-field.ensures.leads
    (read_leads c.in_ok-inner.inner c.read_field_name.new.cursor c.read_value.new.cursor _ c.in_ok-value.value c.in_ok-value.ensures.value f)

pub structs::read_fields-returns-in_err-found-clause-turns : goal.structs::read_fields-returns-in_err-found-clause-turns
structs::read_fields-returns-in_err-found-clause-turns t c =
    let p = err_from_is_err_and c.from_residual.result c.from_residual.ensures.1 in
    rw (p.1, p.2) (here_spent _ _ c.args.cursor.now c.args.cursor.now _ (omega arith))

pub structs::read_fields-returns-in_err-item-clause-turns : goal.structs::read_fields-returns-in_err-item-clause-turns
structs::read_fields-returns-in_err-item-clause-turns t c =
    let p = err_from_is_err_and c.from_residual-in_err-item.result c.from_residual-in_err-item.ensures.1 in
    rw (p.1, p.2) (counts_item c.fields.invariant.4 (sym c.fields-test.ensures) _ c.read_field.new.cursor
    (refused_turns _ _ c.read_field.new.cursor _ _ c.in_err-item.ensures.turns))

pub structs::read_fields-returns-in_err-put-clause-turns : goal.structs::read_fields-returns-in_err-put-clause-turns
structs::read_fields-returns-in_err-put-clause-turns t c =
    let p = err_from_is_err_and c.from_residual-in_err-put.result c.from_residual-in_err-put.ensures.1 in
    rw (p.1, p.2) (counts_item c.fields.invariant.4 (sym c.fields-test.ensures) _ c.read_field.new.cursor
    (made_turns _ _ c.read_field.new.cursor _ (Err _) c.in_ok-item.ensures.turns))

pub structs::read_fields-returns-in_err-read_comma-clause-turns : goal.structs::read_fields-returns-in_err-read_comma-clause-turns
structs::read_fields-returns-in_err-read_comma-clause-turns t c =
    let p = err_from_is_err_and c.from_residual-in_err-read_comma.result c.from_residual-in_err-read_comma.ensures.1 in
    rw (p.1, p.2) (counts_item c.fields.invariant.4 (sym c.fields-test.ensures) _ c.read_comma.new.cursor
    (open_turns _ _ c.read_field.new.cursor c.read_comma.new.cursor _ _ c.in_ok-item.ensures.turns c.in_err-read_comma.ensures.turns.most))

pub structs::read_fields-returns-clause-turns : goal.structs::read_fields-returns-clause-turns
structs::read_fields-returns-clause-turns t c = counts_end c.fields.invariant.4 _

pub structs::read_fields_inside-returns-in_err-inner-clause-turns : goal.structs::read_fields_inside-returns-in_err-inner-clause-turns
structs::read_fields_inside-returns-in_err-inner-clause-turns t c =
    let p = err_from_is_err_and c.from_residual.result c.from_residual.ensures.1 in
    rw (p.1, p.2) (here_spent _ _ c.args.cursor.now c.args.cursor.now _ (omega arith))

pub structs::read_fields_inside-returns-in_err-found-clause-turns : goal.structs::read_fields_inside-returns-in_err-found-clause-turns
structs::read_fields_inside-returns-in_err-found-clause-turns t c =
    let p = err_from_is_err_and c.from_residual-in_err-found.result c.from_residual-in_err-found.ensures.1 in
    rw (p.1, p.2) (refused_turns _ _ c.read_fields.new.cursor _ _ (subst (λ (s : List Shape).
    SpendsItems s c.args.cursor.now (Err c.in_err-found.field-0.0) c.read_fields.new.cursor) c.in_ok-inner.ensures.1 c.in_err-found.ensures.turns))

pub structs::read_fields_inside-returns-in_err-all-clause-turns : goal.structs::read_fields_inside-returns-in_err-all-clause-turns
structs::read_fields_inside-returns-in_err-all-clause-turns t c =
    let p = err_from_is_err_and c.from_residual-in_err-all.result c.from_residual-in_err-all.ensures.1 in
    rw (p.1, p.2) (made_turns _ _ c.read_fields.new.cursor _ (Err _) (subst (λ (s : List Shape).
    SpendsItems s c.args.cursor.now (Ok c.in_ok-found.found) c.read_fields.new.cursor) c.in_ok-inner.ensures.1 c.in_ok-found.ensures.turns))

pub structs::read_field_group-returns-in_err-pass_gap-clause-turns : goal.structs::read_field_group-returns-in_err-pass_gap-clause-turns
structs::read_field_group-returns-in_err-pass_gap-clause-turns t c =
    let p = err_from_is_err_and c.from_residual.result c.from_residual.ensures.1 in
    rw (p.1, p.2) (scan_inside _ c.args.cursor.now c.pass_gap.new.cursor _ c.in_err-pass_gap.ensures.turns.most)

pub structs::read_field_group-returns-clause-turns : goal.structs::read_field_group-returns-clause-turns
structs::read_field_group-returns-clause-turns t c = gap_inside _ c.args.cursor.now c.pass_gap.new.cursor c.read_fields_inside.result
    c.read_fields_inside.new.cursor false _ (items_looks c.args.context.now.schema) c.in_ok-pass_gap.ensures.text c.in_ok-pass_gap.ensures.gap
    c.in_ok-pass_gap.ensures.rest c.in_ok-pass_gap.ensures.turns.moved c.read_fields_inside.ensures.turns

pub structs::read_struct-returns-then-opens_interval-clause-turns : goal.structs::read_struct-returns-then-opens_interval-clause-turns
structs::read_struct-returns-then-opens_interval-clause-turns t c = c.read_range.ensures.turns _

pub structs::read_struct-returns-in_err-read_name-clause-turns : goal.structs::read_struct-returns-in_err-read_name-clause-turns
structs::read_struct-returns-in_err-read_name-clause-turns t c =
    let p = err_from_is_err_and c.from_residual.result c.from_residual.ensures.1 in
    rw (p.1, p.2) (scan_settled _ c.args.cursor.now c.read_name.new.cursor _ c.in_err-read_name.ensures.turns.most)

pub structs::read_struct-returns-in_err-own-clause-turns : goal.structs::read_struct-returns-in_err-own-clause-turns
structs::read_struct-returns-in_err-own-clause-turns t c =
    let p = err_from_is_err_and c.from_residual-in_err-own.result c.from_residual-in_err-own.ensures.1 in
    rw (p.1, p.2) (step_settled _ c.args.cursor.now c.read_name.new.cursor _ c.in_ok-read_name.ensures.turns.moved)

pub structs::read_struct-returns-then-not-take-clause-turns : goal.structs::read_struct-returns-then-not-take-clause-turns
structs::read_struct-returns-then-not-take-clause-turns t c = near_settled _ c.args.cursor.now c.read_name.new.cursor _ c.take.new.self
    c.in_ok-read_name.ensures.turns.moved c.in_ok-read_name.ensures.near (reached_on c.args.cursor.now c.read_name.new.cursor c.in_ok-read_name.ensures.text
    c.in_ok-read_name.ensures.leads) (step_settled _ c.read_name.new.cursor c.take.new.self _ c.take.ensures.turns)

pub structs::read_struct-returns-in_err-fields-clause-turns : goal.structs::read_struct-returns-in_err-fields-clause-turns
structs::read_struct-returns-in_err-fields-clause-turns t c =
    let p = err_from_is_err_and c.from_residual-in_err-fields.result c.from_residual-in_err-fields.ensures.1 in
    rw (p.1, p.2) (near_settled _ c.args.cursor.now c.read_name.new.cursor _ c.read_field_group.new.cursor c.in_ok-read_name.ensures.turns.moved
    c.in_ok-read_name.ensures.near (reached_on c.args.cursor.now c.read_name.new.cursor c.in_ok-read_name.ensures.text c.in_ok-read_name.ensures.leads)
    (mark_settled _ c.read_name.new.cursor c.take.new.self _ c.read_field_group.new.cursor c.if-not-take.ensures.text c.if-not-take.ensures.taken
    c.take.ensures.turns (refused_turns _ _ c.read_field_group.new.cursor _ _ c.in_err-fields.ensures.turns)))

pub structs::read_struct-returns-in_err-from_str-clause-turns : goal.structs::read_struct-returns-in_err-from_str-clause-turns
structs::read_struct-returns-in_err-from_str-clause-turns t c =
    let p = err_from_is_err_and c.from_residual-in_err-from_str.result c.from_residual-in_err-from_str.ensures.1 in
    rw (p.1, p.2) (near_settled _ c.args.cursor.now c.read_name.new.cursor _ c.take.new.self c.in_ok-read_name.ensures.turns.moved
    c.in_ok-read_name.ensures.near (reached_on c.args.cursor.now c.read_name.new.cursor c.in_ok-read_name.ensures.text c.in_ok-read_name.ensures.leads)
    (step_settled _ c.read_name.new.cursor c.take.new.self _ c.take.ensures.turns))
