use Rattle.std.proofs.lemmas.Result.{err_from_is_err_and}
use Rattle.ron_example_types.proofs.types.point.PointDeserialize.from_data.Goals as goal

pub returns-in_err-x-clause-accepted : goal.returns-in_err-x-clause-accepted
returns-in_err-x-clause-accepted c =
    let p = err_from_is_err_and c.from_residual.result c.from_residual.ensures.1 in
    rw (p.1, p.2) c.in_err-x.ensures.accepted
