use Rattle.std.proofs.Common.{sym, subst, ◌≤◌, length, ◌∙◌, arith}
use Rattle.std.proofs.lemmas.Result.{err_from_is_err_and}
use Rattle.ron_spec_grammar.specs.Rule.{Extensions}
use Rattle.ron_de_steps.proofs.AttributeLemmas.{NamesRead, none_named, name_refused, no_comma_behind, name_more, names_all}
use Rattle.ron_de_steps.proofs.attributes.read_list.Goals as goal

pub returns-then-is_at-clause-value : goal.returns-then-is_at-clause-value
returns-then-is_at-clause-value c = none_named _ _ (sym c.if-is_at.ensures)

pub returns-in_err-named-clause-value : goal.returns-in_err-named-clause-value
returns-in_err-named-clause-value c =
    let p = err_from_is_err_and c.from_residual.result c.from_residual.ensures.1 in
    rw (p.1, p.2) (name_refused _ _ _ c.names.invariant.1 (sym c.names-test.ensures) _ c.in_err-named.ensures.value)

pub names-preserved : goal.names-preserved
names-preserved c =
    let shorter : length c.pass_name_end.new.cursor.rest ≤ length c.names.cursor.rest =
    omega (arith, c.in_ok-pass_name_end.ensures.no_longer, c.in_ok-named.ensures.shorter) in (
      c.in_ok-pass_name_end.ensures.text ∙ c.in_ok-named.ensures.text ∙ c.names.invariant.0,
      subst (λ (found : Extensions). NamesRead found c.args.cursor.now c.pass_name_end.new.cursor) (sym c.union-found.ensures)
          (name_more _ _ _ c.names.invariant.1 (sym c.names-test.ensures) c.in_ok-named.named _ c.in_ok-named.ensures.value _
          c.in_ok-pass_name_end.ensures.value shorter),
      omega (arith, c.in_ok-pass_name_end.ensures.turns.moved, c.in_ok-named.ensures.turns.moved, c.names.invariant.2),
    )

pub returns-in_err-pass_name_end-clause-value : goal.returns-in_err-pass_name_end-clause-value
returns-in_err-pass_name_end-clause-value c =
    let p = err_from_is_err_and c.from_residual-in_err-pass_name_end.result c.from_residual-in_err-pass_name_end.ensures.1 in
    rw (p.1, p.2) (no_comma_behind _ _ _ c.names.invariant.1 (sym c.names-test.ensures) c.in_ok-named.named _ c.in_ok-named.ensures.value _
    c.in_err-pass_name_end.ensures.value)

pub returns-clause-value : goal.returns-clause-value
returns-clause-value c = names_all _ _ _ c.names.invariant.1 (sym c.names-test.ensures)
