use Rattle.std.proofs.Common.{sym, ap, ◌∙◌, arith}
use Rattle.std.proofs.lemmas.Result.{err_from_is_err_and}
use Rattle.ron_spec_grammar.specs.Rule.{Extensions}
use Rattle.ron_spec_grammar.specs.Attribute.{value_start}
use Rattle.ron_de_steps.proofs.ErrorLemmas.{text_and}
use Rattle.ron_de_steps.proofs.NearLemmas.{gap_splits}
use Rattle.ron_de_steps.proofs.AttributeLemmas.{at_start, slash_at_start, further, begun}
use Rattle.ron_de_steps.proofs.AttributeLeads.{gap_leads, head_leads}
use Rattle.ron_de_steps.proofs.attributes.read_head.Goals as goal

pub returns-in_err-pass_gap-clause-value : goal.returns-in_err-pass_gap-clause-value
returns-in_err-pass_gap-clause-value c =
    let p = err_from_is_err_and c.from_residual.result c.from_residual.ensures.1 in
    rw (p.1, p.2) (text_and _ c.in_err-pass_gap.ensures.fault.0 (slash_at_start _ _ c.in_err-pass_gap.ensures.slash))

pub attributes-init : goal.attributes-init
attributes-init c = (
  c.in_ok-pass_gap.ensures.text,
  at_start _ _ _ _ c.in_ok-pass_gap.ensures.slash c.in_ok-pass_gap.ensures.gap c.in_ok-pass_gap.ensures.rest,
  c.in_ok-pass_gap.ensures.token_start ∙ sym c.in_ok-pass_gap.ensures.rest,
  λ _. c.in_ok-pass_gap.ensures.rest,
  omega (
    arith,
    c.in_ok-pass_gap.ensures.turns.moved,
    gap_splits c.args.cursor.now c.pass_gap.new.cursor c.in_ok-pass_gap.ensures.gap c.in_ok-pass_gap.ensures.rest,
  ),
  gap_leads c.args.cursor.now.rest c.pass_gap.new.cursor.rest c.in_ok-pass_gap.ensures.rest,
)

pub attributes-preserved : goal.attributes-preserved
attributes-preserved c = (
  c.in_ok-pass_gap-2.ensures.text ∙ c.in_ok-announced.ensures.text ∙ c.attributes.invariant.0,
  further c.attributes.extensions c.attributes.cursor.gap c.attributes.cursor.rest (sym c.attributes-test.ensures) c.args.default_extensions
      c.args.cursor.now.rest c.attributes.invariant.1 c.in_ok-announced.announced _ c.in_ok-announced.ensures.value
      ∙ ap (λ (x : Extensions). value_start x c.read_attribute.new.cursor.rest) (sym c.union-extensions.ensures)
      ∙ at_start _ _ _ _ c.in_ok-pass_gap-2.ensures.slash c.in_ok-pass_gap-2.ensures.gap c.in_ok-pass_gap-2.ensures.rest,
  c.in_ok-pass_gap-2.ensures.token_start ∙ sym c.in_ok-pass_gap-2.ensures.rest,
  λ none. absurd (begun _ _ none (c.attributes.invariant.3 none) (sym c.attributes-test.ensures)),
  omega (
    arith,
    c.in_ok-pass_gap-2.ensures.turns.moved,
    gap_splits c.read_attribute.new.cursor c.pass_gap-in-attributes.new.cursor c.in_ok-pass_gap-2.ensures.gap c.in_ok-pass_gap-2.ensures.rest,
    c.in_ok-announced.ensures.turns.moved,
    c.attributes.invariant.4,
  ),
  head_leads c.args.cursor.now.rest c.attributes.cursor.rest c.read_attribute.new.cursor.rest c.pass_gap-in-attributes.new.cursor.rest
      c.in_ok-announced.announced c.attributes.invariant.5 (sym c.attributes-test.ensures) c.in_ok-announced.ensures.value c.in_ok-pass_gap-2.ensures.rest,
)

pub returns-in_err-pass_gap-2-clause-value : goal.returns-in_err-pass_gap-2-clause-value
returns-in_err-pass_gap-2-clause-value c =
    let p = err_from_is_err_and c.from_residual-in_err-pass_gap-2.result c.from_residual-in_err-pass_gap-2.ensures.1 in
    rw (p.1, p.2) (text_and _ c.in_err-pass_gap-2.ensures.fault.0 (further c.attributes.extensions c.attributes.cursor.gap c.attributes.cursor.rest
    (sym c.attributes-test.ensures) c.args.default_extensions c.args.cursor.now.rest c.attributes.invariant.1 c.in_ok-announced.announced _
    c.in_ok-announced.ensures.value ∙ slash_at_start _ _ c.in_err-pass_gap-2.ensures.slash))

pub returns-in_err-pass_gap-2-clause-memory : goal.returns-in_err-pass_gap-2-clause-memory
returns-in_err-pass_gap-2-clause-memory c none = absurd (begun _ _ none (c.attributes.invariant.3 none) (sym c.attributes-test.ensures))

pub returns-in_err-announced-clause-memory : goal.returns-in_err-announced-clause-memory
returns-in_err-announced-clause-memory c none = absurd (begun _ _ none (c.attributes.invariant.3 none) (sym c.attributes-test.ensures))
