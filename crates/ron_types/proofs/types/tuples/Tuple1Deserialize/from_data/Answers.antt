use Rattle.std.proofs.lemmas.Result.{err_from_is_err_and}
use Rattle.ron_types.proofs.types.tuples.Tuple1Deserialize.from_data.Goals as goal

pub returns-in_err-a-clause-accepted : goal.returns-in_err-a-clause-accepted
returns-in_err-a-clause-accepted g c =
    let p = err_from_is_err_and c.from_residual.result c.from_residual.ensures.1 in
    rw (p.1, p.2) c.in_err-a.ensures.accepted

pub returns-in_err-a-clause-refused : goal.returns-in_err-a-clause-refused
returns-in_err-a-clause-refused g c =
    let p = err_from_is_err_and c.from_residual.result c.from_residual.ensures.1 in
    rw (p.1, p.2) c.in_err-a.ensures.refused
