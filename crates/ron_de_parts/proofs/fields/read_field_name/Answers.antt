use Rattle.std.proofs.lemmas.Result.{err_from_is_err_and}
use Rattle.ron_data.specs.Slots.{slots_in, slots_view}
use Rattle.ron_data_schema.specs.Shapes.{list_view}
use Rattle.ron_de_parts.proofs.AwaitedLemmas.{value_behind_look, enters_behind_look, leads_behind_look, awaited_some, awaited_none, moves_alone}
use Rattle.ron_de_parts.proofs.fields.read_field_name.Goals as goal

-- ---- a refusal

pub returns-in_err-index-clause-value : goal.returns-in_err-index-clause-value
returns-in_err-index-clause-value c =
    let p = err_from_is_err_and c.from_residual.result c.from_residual.ensures.1 in
    rw (p.1, p.2) c.in_err-index.ensures.takes.value

pub returns-in_err-index-clause-turns : goal.returns-in_err-index-clause-turns
returns-in_err-index-clause-turns c =
    let p = err_from_is_err_and c.from_residual.result c.from_residual.ensures.1 in
    rw (p.1, p.2) (moves_alone 1 c.args.cursor.now _ c.take_awaited.new.cursor c.in_err-index.ensures.takes.turns)

-- ---- the awaited field

pub returns-in-Some-clause-value : goal.returns-in-Some-clause-value
returns-in-Some-clause-value c = (awaited_some _ _ _ _ _ c.in_ok-index.ensures.takes c.in-Some.index c.in-Some.is).value

pub returns-in-Some-clause-shorter : goal.returns-in-Some-clause-shorter
returns-in-Some-clause-shorter c = (awaited_some _ _ _ _ _ c.in_ok-index.ensures.takes c.in-Some.index c.in-Some.is).shorter

pub returns-in-Some-clause-turns : goal.returns-in-Some-clause-turns
returns-in-Some-clause-turns c =
    moves_alone 1 c.args.cursor.now _ c.take_awaited.new.cursor (awaited_some _ _ _ _ _ c.in_ok-index.ensures.takes c.in-Some.index c.in-Some.is).turns

pub returns-in-Some-clause-enters : goal.returns-in-Some-clause-enters
returns-in-Some-clause-enters c = (awaited_some _ _ _ _ _ c.in_ok-index.ensures.takes c.in-Some.index c.in-Some.is).enters

pub returns-in-Some-clause-leads : goal.returns-in-Some-clause-leads
returns-in-Some-clause-leads c = (awaited_some _ _ _ _ _ c.in_ok-index.ensures.takes c.in-Some.index c.in-Some.is).leads

-- ---- another one, behind a look

pub returns-clause-value : goal.returns-clause-value
returns-clause-value c =
    let look = awaited_none _ _ _ _ _ c.in_ok-index.ensures.takes c.in_default.is in
    value_behind_look c.args.cursor.now c.take_awaited.new.cursor look.0 (list_view c.args.list.now)
    (slots_view (slots_in c.args.list.now.fields.items c.args.found.now)) c.read_any_field_name.result c.read_any_field_name.new.cursor
    c.read_any_field_name.ensures.value

pub returns-clause-turns : goal.returns-clause-turns
returns-clause-turns c =
    let look = awaited_none _ _ _ _ _ c.in_ok-index.ensures.takes c.in_default.is in
    record { looked = c.take_awaited.new.cursor; stays = look.0; looks = look.1; moves = c.read_any_field_name.ensures.turns }

pub returns-clause-enters : goal.returns-clause-enters
returns-clause-enters c =
    let look = awaited_none _ _ _ _ _ c.in_ok-index.ensures.takes c.in_default.is in
    enters_behind_look c.args.cursor.now c.take_awaited.new.cursor look.0 c.read_any_field_name.result c.read_any_field_name.new.cursor
    c.read_any_field_name.ensures.enters

pub returns-clause-leads : goal.returns-clause-leads
returns-clause-leads c =
    let look = awaited_none _ _ _ _ _ c.in_ok-index.ensures.takes c.in_default.is in
    leads_behind_look c.args.cursor.now c.take_awaited.new.cursor look.0 c.read_any_field_name.result c.read_any_field_name.new.cursor
    c.read_any_field_name.ensures.leads
