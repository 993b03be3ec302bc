use Rattle.ron_de_steps.proofs.KeepLemmas.{over_on, goes_scan}
use Rattle.ron_de_parts.proofs.range_faults.refuse_range.Goals as goal

pub returns-in_err-end-clause-turns : goal.returns-in_err-end-clause-turns
returns-in_err-end-clause-turns c =
    let behind = over_on 2 c.args.cursor.now c.read_bound.new.cursor c.pass_operator.new.cursor c.in_ok-start.ensures.turns.moved
    c.in_ok-pass_operator.ensures.turns.moved in
    goes_scan 2 c.args.cursor.now c.pass_operator.new.cursor c.read_bound-2.new.cursor behind c.in_err-end.ensures.turns.most

pub returns-in_err-check_fit-clause-turns : goal.returns-in_err-check_fit-clause-turns
returns-in_err-check_fit-clause-turns c =
    let behind = over_on 2 c.args.cursor.now c.read_bound.new.cursor c.pass_operator.new.cursor c.in_ok-start.ensures.turns.moved
    c.in_ok-pass_operator.ensures.turns.moved in
    goes_scan 2 c.args.cursor.now c.pass_operator.new.cursor c.read_bound-2.new.cursor behind c.in_ok-end.ensures.turns.most

pub returns-clause-turns : goal.returns-clause-turns
returns-clause-turns c =
    let behind = over_on 2 c.args.cursor.now c.read_bound.new.cursor c.pass_operator.new.cursor c.in_ok-start.ensures.turns.moved
    c.in_ok-pass_operator.ensures.turns.moved in
    goes_scan 2 c.args.cursor.now c.pass_operator.new.cursor c.read_bound-2.new.cursor behind c.in_ok-end.ensures.turns.most
