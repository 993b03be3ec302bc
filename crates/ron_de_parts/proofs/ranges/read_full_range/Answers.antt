use Rattle.std.proofs.Common.{arith}
use Rattle.std.proofs.lemmas.Result.{err_from_is_err_and}
use Rattle.ron_lex.specs.Range.{interval_view}
use Rattle.ron_de_steps.proofs.NearLemmas.{number_or_range_nears}
use Rattle.ron_de_parts.proofs.TurnLemmas.{leaf_read, leaf_refused, leaf_again}
use Rattle.ron_de_parts.proofs.ranges.read_full_range.Goals as goal

pub returns-in_err-from_str-clause-turns : goal.returns-in_err-from_str-clause-turns
returns-in_err-from_str-clause-turns c =
    let p = err_from_is_err_and c.from_residual.result c.from_residual.ensures.1 in
    rw (p.1, p.2) (leaf_refused 2 (omega arith) c.args.cursor.now c.number_or_range.new.self _ c.number_or_range.ensures.turns.most)

pub returns-then-is_full-clause-turns : goal.returns-then-is_full-clause-turns
returns-then-is_full-clause-turns c = leaf_read 2 (omega arith) c.args.cursor.now c.number_or_range.new.self _ c.in-Ok.ensures.turns.moved
    (number_or_range_nears (interval_view c.in-Ok.interval) c.args.cursor.now c.number_or_range.new.self c.in-Ok.ensures.value)

pub returns-in_err-refuse_full_range-clause-turns : goal.returns-in_err-refuse_full_range-clause-turns
returns-in_err-refuse_full_range-clause-turns c =
    let p = err_from_is_err_and c.from_residual-in_err-refuse_full_range.result c.from_residual-in_err-refuse_full_range.ensures.1 in
    rw (p.1, p.2)
    (leaf_again 2 1 (omega arith) c.args.cursor.now c.mark-start.result c.number_or_range.new.self c.return_to.new.self c.refuse_full_range.new.cursor _
    c.mark-start.ensures c.number_or_range.ensures.turns.most c.return_to.ensures.place c.return_to.ensures.turns c.refuse_full_range.ensures.turns)

pub returns-clause-turns : goal.returns-clause-turns
returns-clause-turns c =
    leaf_again 2 1 (omega arith) c.args.cursor.now c.mark-start.result c.number_or_range.new.self c.return_to.new.self c.refuse_full_range.new.cursor _
    c.mark-start.ensures c.number_or_range.ensures.turns.most c.return_to.ensures.place c.return_to.ensures.turns c.refuse_full_range.ensures.turns
