use Rattle.std.proofs.Common.{sym, subst, ◌∙◌}
use Rattle.ronv_command.specs.Faults.{IsInTheWay}
use Rattle.ronv_command.specs.Run.{RewritesStream}
use Rattle.ronv_command.proofs.RunLemmas.{same_command, no_rewriting}
use Rattle.ronv_command.proofs.run.run.Goals as goal

pub returns-in-Ok-clause-kept : goal.returns-in-Ok-clause-kept
returns-in-Ok-clause-kept g c asked asks none =
    c.perform.ensures.kept (no_rewriting asked c.in-Some.command c.args.words.now _ asks (sym c.command_of.ensures ∙ c.in-Some.is) none)

pub returns-in-Err-clause-kept : goal.returns-in-Err-clause-kept
returns-in-Err-clause-kept g c asked asks none =
    c.perform.ensures.kept (no_rewriting asked c.in-Some.command c.args.words.now _ asks (sym c.command_of.ensures ∙ c.in-Some.is) none)

pub returns-in-Ok-clause-done : goal.returns-in-Ok-clause-done
returns-in-Ok-clause-done g c = λ asked asks zero.
    subst (λ e. RewritesStream e (g.R.Read.remaining c.args.input.now) (g.O.Write.contents c.args.output.now) (g.O.Write.contents c.perform.new.output))
    (same_command c.in-Some.command asked c.args.words.now (sym c.command_of.ensures ∙ c.in-Some.is) asks) c.in-Ok.ensures.ok

pub returns-in-Err-clause-fault : goal.returns-in-Err-clause-fault
returns-in-Err-clause-fault g c = λ asked asks one. subst (λ e. IsInTheWay e (g.R.Read.remaining c.args.input.now))
    (same_command c.in-Some.command asked c.args.words.now (sym c.command_of.ensures ∙ c.in-Some.is) asks) (c.in-Err.fault, c.in-Err.ensures.fault)
