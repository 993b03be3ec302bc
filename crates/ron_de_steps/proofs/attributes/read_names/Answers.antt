use Rattle.std.proofs.Common.{arith}
use Rattle.std.proofs.lemmas.Result.{err_from_is_err_and}
use Rattle.ron_de_steps.proofs.AttributeLemmas.{names_refused, names_closed}
use Rattle.ron_de_steps.proofs.AttributeCounts.{mark_twice}
use Rattle.ron_de_steps.proofs.attributes.read_names.Goals as goal

pub returns-in_err-found-clause-value : goal.returns-in_err-found-clause-value
returns-in_err-found-clause-value c =
    let p = err_from_is_err_and c.from_residual-in_err-found.result c.from_residual-in_err-found.ensures.1 in
    rw (p.1, p.2) (names_refused _ c.args.cursor.now.rest (c.take_mark.new.cursor.gap, c.take_mark.new.cursor.rest) c.in_ok-take_mark.ensures.value
    c.in_err-found.ensures.value)

pub returns-clause-value : goal.returns-clause-value
returns-clause-value c = names_closed c.in_ok-found.found c.args.cursor.now.rest _ c.pass.new.self.rest
    (c.take_mark.new.cursor.gap, c.take_mark.new.cursor.rest) c.in_ok-take_mark.ensures.value c.in_ok-found.ensures.value c.pass.ensures.rest

pub returns-clause-turns : goal.returns-clause-turns
returns-clause-turns c =
    let close = mark_twice 41 c.read_list.new.cursor c.pass.new.self c.pass.ensures.turns c.pass.ensures.rest in
    record {
      moved = omega (arith, c.in_ok-take_mark.ensures.turns.moved, c.in_ok-found.ensures.turns.moved, close);
      most = omega (arith, c.in_ok-take_mark.ensures.turns.moved, c.in_ok-found.ensures.turns.moved, close);
    }
