use Rattle.std.proofs.Common.{Ok, Err, IfErr, refl, sym, subst, chars, string_bytes}
use Rattle.std.proofs.lemmas.Result.{err_from_is_err_and}
use Rattle.ronv_command.specs.Faults.{IsFaultOf}
use Rattle.ronv_command.proofs.RunLemmas.{mapped_err}
use Rattle.ronv_command.proofs.run.perform.Goals as goal

pub returns-clause-kept : goal.returns-clause-kept
returns-clause-kept g c = λ none. absurd (none _ c.in_ok-written.ensures.text)

-- a fault of the output, once there was a text for it
pub returns-clause-fault : goal.returns-clause-fault
returns-clause-fault g c =
    mapped_err (IsFaultOf c.args.command (g.R.Read.remaining c.args.input.now)) _ c.writeln.result c.map_err.result c.map_err.ensures.cases
    (λ e f was is. subst (IsFaultOf c.args.command (g.R.Read.remaining c.args.input.now)) (sym is)
    (chars (string_bytes c.in_ok-written.written), c.in_ok-written.ensures.text))
