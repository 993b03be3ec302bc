use Rattle.std.proofs.Common.{Ok, refl}
use Rattle.std.proofs.lemmas.Result.{err_from_is_err_and}
use Rattle.ron_spec_words.specs.Reader.{got}
use Rattle.ron_value.specs.View.{tree_of}
use Rattle.ron_de_steps.proofs.NearLemmas.{past_last_nears}
use Rattle.ron_de_untyped.specs.Somes.{closed, closed_within}
use Rattle.ron_de_untyped.proofs.ReadLemmas.{last_fails, no_last, last_read}
use Rattle.ron_de_untyped.proofs.SomeCounts.{behind_then, behind_open, behind_so}
use Rattle.ron_de_untyped.proofs.somes.close_within.Goals as goal

pub returns-in_err-value-clause-value : goal.returns-in_err-value-clause-value
returns-in_err-value-clause-value c =
    let p = err_from_is_err_and c.from_residual.result c.from_residual.ensures.1 in
    let o = got (tree_of c.args.held) c.args.cursor.now.rest in
    rw (p.1, p.2) (last_fails (closed_within o) (closed o) refl _ c.in_err-value.ensures.value)

pub returns-in_err-value-clause-turns : goal.returns-in_err-value-clause-turns
returns-in_err-value-clause-turns c =
    let p = err_from_is_err_and c.from_residual.result c.from_residual.ensures.1 in
    rw (p.1, p.2) c.in_err-value.ensures.turns

pub returns-in_err-pass_last_comma-clause-value : goal.returns-in_err-pass_last_comma-clause-value
returns-in_err-pass_last_comma-clause-value c =
    let p = err_from_is_err_and c.from_residual-in_err-pass_last_comma.result c.from_residual-in_err-pass_last_comma.ensures.1 in
    let o = got (tree_of c.args.held) c.args.cursor.now.rest in
    rw (p.1, p.2) (no_last (closed_within o) (closed o) refl (tree_of c.in_ok-value.value) c.close_some.new.cursor.rest c.in_ok-value.ensures.value _
    c.in_err-pass_last_comma.ensures.value)

pub returns-in_err-pass_last_comma-clause-turns : goal.returns-in_err-pass_last_comma-clause-turns
returns-in_err-pass_last_comma-clause-turns c =
    let p = err_from_is_err_and c.from_residual-in_err-pass_last_comma.result c.from_residual-in_err-pass_last_comma.ensures.1 in
    rw (p.1, p.2) (behind_then c.args.cursor.now c.close_some.new.cursor c.pass_last_comma.new.cursor c.in_ok-value.value _ c.in_ok-value.ensures.turns
    (behind_open c.close_some.new.cursor c.pass_last_comma.new.cursor _ c.in_err-pass_last_comma.ensures.turns.most))

pub returns-clause-value : goal.returns-clause-value
returns-clause-value c =
    let o = got (tree_of c.args.held) c.args.cursor.now.rest in
    last_read (closed_within o) (closed o) refl (tree_of c.in_ok-value.value) c.close_some.new.cursor.rest c.in_ok-value.ensures.value
    c.pass_last_comma.new.cursor.rest c.in_ok-pass_last_comma.ensures.value

pub returns-clause-turns : goal.returns-clause-turns
returns-clause-turns c = behind_then c.args.cursor.now c.close_some.new.cursor c.pass_last_comma.new.cursor c.in_ok-value.value (Ok c.in_ok-value.value)
    c.in_ok-value.ensures.turns (behind_so c.close_some.new.cursor c.pass_last_comma.new.cursor (Ok c.in_ok-value.value)
    c.in_ok-pass_last_comma.ensures.turns.moved (past_last_nears c.close_some.new.cursor c.pass_last_comma.new.cursor c.in_ok-pass_last_comma.ensures.value))
