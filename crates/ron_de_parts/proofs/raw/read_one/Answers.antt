use Rattle.std.proofs.lemmas.Result.{err_from_is_err_and}
use Rattle.ron_de_parts.proofs.ContentLemmas.{closed_fault, not_closed, closed_value}
use Rattle.ron_de_parts.proofs.RawLemmas.{bare_raw_is}
use Rattle.ron_de_parts.proofs.RoomLemmas.{room_of_value}
use Rattle.ron_de_parts.proofs.AgainLemmas.{raw_open, raw_closed}
use Rattle.ron_de_parts.proofs.raw.read_one.Goals as goal

pub returns-in_err-data-clause-value : goal.returns-in_err-data-clause-value
returns-in_err-data-clause-value c =
    let p = err_from_is_err_and c.from_residual.result c.from_residual.ensures.1 in
    rw (p.1, p.2) (λ i is room r. closed_fault _ _ _ (bare_raw_is c.args.context.now i is.0 c.args.cursor.now room)
    (c.in_err-data.ensures.value i is room (room_of_value c.args.context.now.limit c.args.context.now.schema i _ room r)))

pub returns-in_err-close_content-clause-value : goal.returns-in_err-close_content-clause-value
returns-in_err-close_content-clause-value c =
    let p = err_from_is_err_and c.from_residual-in_err-close_content.result c.from_residual-in_err-close_content.ensures.1 in
    rw (p.1, p.2) (λ i is room r. not_closed _ _ _ _ (bare_raw_is c.args.context.now i is.0 c.args.cursor.now room)
    (c.in_ok-data.ensures.value i is room (room_of_value c.args.context.now.limit c.args.context.now.schema i _ room r)) _ c.in_err-close_content.ensures.value)

pub returns-clause-value : goal.returns-clause-value
returns-clause-value c = λ i is room r. closed_value _ _ _ _ _ (bare_raw_is c.args.context.now i is.0 c.args.cursor.now room)
    (c.in_ok-data.ensures.value i is room (room_of_value c.args.context.now.limit c.args.context.now.schema i _ room r)) c.in_ok-close_content.ensures.value

pub returns-in_err-close_content-clause-turns : goal.returns-in_err-close_content-clause-turns
returns-in_err-close_content-clause-turns c =
    let p = err_from_is_err_and c.from_residual-in_err-close_content.result c.from_residual-in_err-close_content.ensures.1 in
    rw (p.1, p.2) (raw_open c.args.cursor.now c.read_raw.new.cursor c.in_ok-data.data c.in_ok-data.ensures.turns c.close_content.new.cursor _
    c.in_err-close_content.ensures.turns.most)

pub returns-clause-turns : goal.returns-clause-turns
returns-clause-turns c = raw_closed c.args.cursor.now c.read_raw.new.cursor c.in_ok-data.data c.in_ok-data.ensures.turns c.close_content.new.cursor _
    c.in_ok-close_content.ensures.turns.moved c.in_ok-close_content.ensures.near
