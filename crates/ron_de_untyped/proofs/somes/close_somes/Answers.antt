use Rattle.std.proofs.lemmas.Result.{err_from_is_err_and}
use Rattle.ron_de_untyped.proofs.SomeCounts.{behind_then}
use Rattle.ron_de_untyped.proofs.SomeLemmas.{out_begin, out_fails, out_on, out_end}
use Rattle.ron_de_untyped.proofs.somes.close_somes.Goals as goal

pub somes-init : goal.somes-init
somes-init c = out_begin c.args.depth c.args.cursor.now c.args.held c.requires

pub somes-preserved : goal.somes-preserved
somes-preserved c = out_on c.somes.invariant c.somes-test.true _ c.close_within.new.cursor c.in_ok-held.ensures.value c.in_ok-held.ensures.advance.text
    c.in_ok-held.ensures.advance.no_longer c.in_ok-held.ensures.grows c.in_ok-held.ensures.advance.holds c.in_ok-held.ensures.turns

pub returns-in_err-held-clause-value : goal.returns-in_err-held-clause-value
returns-in_err-held-clause-value c =
    let p = err_from_is_err_and c.from_residual.result c.from_residual.ensures.1 in
    rw (p.1, p.2) (out_fails c.somes.invariant c.somes-test.true _ c.in_err-held.ensures.value)

pub returns-in_err-held-clause-turns : goal.returns-in_err-held-clause-turns
returns-in_err-held-clause-turns c =
    let p = err_from_is_err_and c.from_residual.result c.from_residual.ensures.1 in
    rw (p.1, p.2) (behind_then c.args.cursor.now c.somes.cursor c.close_within.new.cursor c.somes.held _ c.somes.invariant.turns c.in_err-held.ensures.turns)

pub returns-clause-value : goal.returns-clause-value
returns-clause-value c = out_end c.somes.invariant c.somes-test.false c.close_some.result c.close_some.new.cursor.rest c.close_some.ensures.value

pub returns-clause-turns : goal.returns-clause-turns
returns-clause-turns c =
    behind_then c.args.cursor.now c.somes.cursor c.close_some.new.cursor c.somes.held c.close_some.result c.somes.invariant.turns c.close_some.ensures.turns
