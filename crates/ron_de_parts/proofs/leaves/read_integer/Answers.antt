use Rattle.std.proofs.Common.{arith}
use Rattle.std.proofs.lemmas.Result.{err_from_is_err_and}
use Rattle.ron_de_parts.proofs.TurnLemmas.{leaf_read, leaf_refused}
use Rattle.ron_de_parts.proofs.leaves.read_integer.Goals as goal

pub returns-in_err-read_number-clause-turns : goal.returns-in_err-read_number-clause-turns
returns-in_err-read_number-clause-turns c =
    let p = err_from_is_err_and c.from_residual.result c.from_residual.ensures.1 in
    rw (p.1, p.2) (leaf_refused 1 (omega arith) c.args.cursor.now c.read_number.new.cursor _ c.in_err-read_number.ensures.turns.most)

pub returns-clause-turns : goal.returns-clause-turns
returns-clause-turns c =
    leaf_read 1 (omega arith) c.args.cursor.now c.read_number.new.cursor _ c.in_ok-read_number.ensures.turns.moved c.in_ok-read_number.ensures.near
