use Rattle.std.proofs.Common.{arith}
use Rattle.std.proofs.lemmas.Result.{err_from_is_err_and}
use Rattle.ron_de_steps.proofs.AttributeCounts.{gap_twice}
use Rattle.ron_de_steps.proofs.attributes.read_ignored.Goals as goal

pub returns-in_err-take_mark-clause-turns : goal.returns-in_err-take_mark-clause-turns
returns-in_err-take_mark-clause-turns c =
    let p = err_from_is_err_and c.from_residual-in_err-take_mark.result c.from_residual-in_err-take_mark.ensures.1 in
    let gap = gap_twice c.take_ignored_word.new.cursor c.pass_gap.new.cursor c.in_ok-pass_gap.ensures.turns.moved c.in_ok-pass_gap.ensures.rest in
    rw (p.1, p.2) (record { moved = tt; most = omega (arith, gap, c.take_ignored_word.ensures.turns, c.in_err-take_mark.ensures.turns.most) })

pub returns-in_err-pass_string-clause-turns : goal.returns-in_err-pass_string-clause-turns
returns-in_err-pass_string-clause-turns c =
    let p = err_from_is_err_and c.from_residual-in_err-pass_string.result c.from_residual-in_err-pass_string.ensures.1 in
    let gap = gap_twice c.take_ignored_word.new.cursor c.pass_gap.new.cursor c.in_ok-pass_gap.ensures.turns.moved c.in_ok-pass_gap.ensures.rest in
    rw (p.1, p.2) (record {
      moved = tt;
      most = omega (arith, gap, c.take_ignored_word.ensures.turns, c.in_ok-take_mark.ensures.turns.moved, c.in_err-pass_string.ensures.turns.most);
    })

pub returns-clause-turns : goal.returns-clause-turns
returns-clause-turns c =
    let gap = gap_twice c.take_ignored_word.new.cursor c.pass_gap.new.cursor c.in_ok-pass_gap.ensures.turns.moved c.in_ok-pass_gap.ensures.rest in
    record {
      moved = omega (arith, gap, c.take_ignored_word.ensures.turns, c.in_ok-take_mark.ensures.turns.moved, c.in_ok-pass_string.ensures.turns.moved);
      most = omega (arith, gap, c.take_ignored_word.ensures.turns, c.in_ok-take_mark.ensures.turns.moved, c.in_ok-pass_string.ensures.turns.moved);
    }
