use Rattle.std.proofs.lemmas.Result.{err_from_is_err_and}
use Rattle.ron_example_types.proofs.types.borrowed.BorrowedDeserialize.from_data.Goals as goal

pub returns-in_err-value-clause-accepted : goal.returns-in_err-value-clause-accepted
returns-in_err-value-clause-accepted c =
    let p = err_from_is_err_and c.from_residual.result c.from_residual.ensures.1 in
    rw (p.1, p.2) c.in_err-value.ensures.accepted
