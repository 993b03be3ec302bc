use Rattle.std.proofs.Common.{arith}
use Rattle.std.proofs.lemmas.Result.{err_from_is_err_and}
use Rattle.ron_base.specs.declared.error.Error.{Error}
use Rattle.ron_de_steps.proofs.NearLemmas.{name_nears}
use Rattle.ron_de_untyped.proofs.CountLemmas.{settled_so, scan_settled}
use Rattle.ron_de_untyped.proofs.entries.read_name.Goals as goal

pub returns-in-Ok-clause-turns : goal.returns-in-Ok-clause-turns
returns-in-Ok-clause-turns c = settled_so {E = Error} 1 c.args.cursor.now c.identifier.new.self c.text_value.result (omega arith) c.in-Ok.ensures.turns.moved
    (name_nears _ c.args.cursor.now c.identifier.new.self c.in-Ok.ensures.value)

pub returns-in_err-identifier_error-in-Err-clause-turns : goal.returns-in_err-identifier_error-in-Err-clause-turns
returns-in_err-identifier_error-in-Err-clause-turns c =
    let p = err_from_is_err_and c.from_residual.result c.from_residual.ensures.1 in
    rw (p.1, p.2) (scan_settled 1 c.args.cursor.now c.identifier.new.self _ (omega arith) c.in-Err.ensures.turns.most)

pub returns-in_ok-identifier_error-in-Err-clause-turns : goal.returns-in_ok-identifier_error-in-Err-clause-turns
returns-in_ok-identifier_error-in-Err-clause-turns c = scan_settled 1 c.args.cursor.now c.identifier.new.self _ (omega arith) c.in-Err.ensures.turns.most
