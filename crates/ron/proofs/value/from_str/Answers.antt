use Rattle.std.proofs.Common.{inl, inr}
use Rattle.std.proofs.lemmas.Result.{err_from_is_err_and}
use Rattle.ron.proofs.ValueLemmas.{value_maps, value_ok, value_err, value_deep, value_only, value_tells, value_refused}
use Rattle.ron.proofs.value.from_str.Goals as goal

pub returns-in_err-data-clause-err : goal.returns-in_err-data-clause-err
returns-in_err-data-clause-err c =
    let p = err_from_is_err_and c.from_residual.result c.from_residual.ensures.1 in
    rw (p.1, p.2) (value_err _ _ _ _ c.default.ensures.0 c.default.ensures.1 c.in-Ok.ensures _ c.in_err-data.ensures.err)

pub returns-in_err-data-clause-deep : goal.returns-in_err-data-clause-deep
returns-in_err-data-clause-deep c t room z beyond =
    let p = err_from_is_err_and c.from_residual.result c.from_residual.ensures.1 in
    rw (p.1, p.2) (value_deep _ _ _ _ c.default.ensures.0 c.default.ensures.1 c.in-Ok.ensures _ c.in_err-data.ensures.deep t room z beyond)

pub returns-clause-ok : goal.returns-clause-ok
returns-clause-ok c =
    value_ok _ _ _ _ c.default.ensures.0 c.default.ensures.1 c.in-Ok.ensures _ _ _ c.in-Value.is c.in_ok-value.ensures.value c.in_ok-data.ensures.ok

pub returns-clause-maps : goal.returns-clause-maps
returns-clause-maps c = value_maps _ _ _ _ _ c.in-Value.is c.in_ok-value.ensures.value c.in_ok-data.ensures.of_schema

pub returns-in_err-value-clause-err : goal.returns-in_err-value-clause-err
returns-in_err-value-clause-err c =
    let p = err_from_is_err_and c.from_residual-in_err-value.result c.from_residual-in_err-value.ensures.1 in
    rw (p.1, p.2) (inl c.in_err-value.ensures.memory)

pub returns-in_err-value-clause-deep : goal.returns-in_err-value-clause-deep
returns-in_err-value-clause-deep c t room z beyond =
    let p = err_from_is_err_and c.from_residual-in_err-value.result c.from_residual-in_err-value.ensures.1 in
    rw (p.1, p.2) (inr c.in_err-value.ensures.memory)

pub returns-in_err-value-clause-errors : goal.returns-in_err-value-clause-errors
returns-in_err-value-clause-errors c =
    let p = err_from_is_err_and c.from_residual-in_err-value.result c.from_residual-in_err-value.ensures.1 in
    rw (p.1, p.2) c.in_err-value.ensures.errors

pub returns-clause-only : goal.returns-clause-only
returns-clause-only c =
    value_only _ _ _ _ c.default.ensures.0 c.default.ensures.1 c.in-Ok.ensures _ _ _ c.in-Value.is c.in_ok-value.ensures.value c.in_ok-data.ensures.only

pub returns-clause-deep : goal.returns-clause-deep
returns-clause-deep c t room z beyond = value_deep _ _ _ _ c.default.ensures.0 c.default.ensures.1 c.in-Ok.ensures _ c.in_ok-data.ensures.deep t room z beyond

pub returns-in_err-data-clause-errors : goal.returns-in_err-data-clause-errors
returns-in_err-data-clause-errors c =
    let p = err_from_is_err_and c.from_residual.result c.from_residual.ensures.1 in
    rw (p.1, p.2) (value_refused _ _ _ _ c.default.ensures.0 c.default.ensures.1 c.in-Ok.ensures _ c.in_err-data.ensures.errors)

pub returns-clause-errors : goal.returns-clause-errors
returns-clause-errors c =
    value_tells _ _ _ _ c.default.ensures.0 c.default.ensures.1 c.in-Ok.ensures _ _ _ c.in-Value.is c.in_ok-value.ensures.value c.in_ok-data.ensures.errors
