use Rattle.std.proofs.lemmas.Result.{err_from_is_err_and}
use Rattle.ron_value.specs.View.{tree_of}
use Rattle.ron_de_steps.proofs.NearLemmas.{past_close_nears, mark_right_parenthesis}
use Rattle.ron_de_untyped.proofs.SomeCounts.{behind_open, behind_so}
use Rattle.ron_de_untyped.proofs.SomeLemmas.{not_closed, closed_made}
use Rattle.ron_de_untyped.proofs.somes.close_some.Goals as goal

pub returns-in_err-pass_close-clause-value : goal.returns-in_err-pass_close-clause-value
returns-in_err-pass_close-clause-value c =
    let p = err_from_is_err_and c.from_residual.result c.from_residual.ensures.1 in
    rw (p.1, p.2) (not_closed (tree_of c.args.held) c.args.cursor.now.rest _ c.in_err-pass_close.ensures.value)

pub returns-in_err-pass_close-clause-turns : goal.returns-in_err-pass_close-clause-turns
returns-in_err-pass_close-clause-turns c =
    let p = err_from_is_err_and c.from_residual.result c.from_residual.ensures.1 in
    rw (p.1, p.2) (behind_open c.args.cursor.now c.pass_close.new.cursor _ c.in_err-pass_close.ensures.turns.most)

pub returns-clause-value : goal.returns-clause-value
returns-clause-value c =
    closed_made (tree_of c.args.held) c.args.cursor.now.rest _ c.option.result c.pass_close.new.cursor.rest c.in_ok-pass_close.ensures.value c.option.ensures

pub returns-clause-turns : goal.returns-clause-turns
returns-clause-turns c = behind_so c.args.cursor.now c.pass_close.new.cursor c.option.result c.in_ok-pass_close.ensures.turns.moved
    (past_close_nears 41 c.args.cursor.now c.pass_close.new.cursor mark_right_parenthesis c.in_ok-pass_close.ensures.value)
