use Rattle.std.proofs.Common.{inr, sym, ap, ◌∙◌}
use Rattle.std.proofs.lemmas.Result.{err_from_is_err_and}
use Rattle.ron_spec_words.specs.Runs.{is_at}
use Rattle.ron_de_raw.proofs.AloneLemmas.{slash_alone, attribute_alone, refused_alone, fault_alone, read_alone, closes_alone}
use Rattle.ron_de_raw.proofs.TurnLemmas.{alone_scanned, alone_refused, alone_closed}
use Rattle.ron_de_raw.proofs.alone.read_alone.Goals as goal

pub returns-in_err-pass_gap-clause-value : goal.returns-in_err-pass_gap-clause-value
returns-in_err-pass_gap-clause-value c =
    let p = err_from_is_err_and c.from_residual.result c.from_residual.ensures.1 in
    rw (p.1, p.2) (inr (slash_alone _ c.in_err-pass_gap.ensures.slash), inr c.in_err-pass_gap.ensures.fault.1)

pub returns-in_err-attribute_error-clause-value : goal.returns-in_err-attribute_error-clause-value
returns-in_err-attribute_error-clause-value c =
    let p = err_from_is_err_and c.from_residual-in_err-attribute_error.result c.from_residual-in_err-attribute_error.ensures.1 in
    let hash = ap (is_at 35) (sym c.in_ok-pass_gap.ensures.rest) ∙ sym c.is_at.ensures ∙ c.if-is_at.true in
    rw (p.1, p.2) (inr (attribute_alone _ hash), inr c.in_err-attribute_error.ensures.fault)

pub returns-then-is_at-clause-value : goal.returns-then-is_at-clause-value
returns-then-is_at-clause-value c =
    let hash = ap (is_at 35) (sym c.in_ok-pass_gap.ensures.rest) ∙ sym c.is_at.ensures ∙ c.if-is_at.true in
    (inr (attribute_alone _ hash), inr c.in_ok-attribute_error.ensures.fault)

pub returns-in_err-pass_value-clause-value : goal.returns-in_err-pass_value-clause-value
returns-in_err-pass_value-clause-value c =
    let p = err_from_is_err_and c.from_residual-in_err-pass_value.result c.from_residual-in_err-pass_value.ensures.1 in
    let g = c.in_ok-pass_gap.ensures in
    rw (p.1, p.2) (
      refused_alone _ _ _ (λ f k. fault_alone c.args.cursor.now.rest _ _ g.slash g.gap g.rest f k) c.in_err-pass_value.ensures.value,
      inr c.in_err-pass_value.ensures.fault,
    )

pub returns-clause-value : goal.returns-clause-value
returns-clause-value c =
    let g = c.in_ok-pass_gap.ensures in
    let v = c.in_ok-pass_value.ensures.value in
    closes_alone _ _ c.close.result (read_alone c.args.cursor.now.rest _ _ g.slash g.gap g.rest v.0 _ v.1) c.close.ensures.value c.close.ensures.fault

pub returns-in_err-attribute_error-clause-turns : goal.returns-in_err-attribute_error-clause-turns
returns-in_err-attribute_error-clause-turns c = λ reached.
    let g = c.in_ok-pass_gap.ensures in
    alone_scanned c.args.cursor.now c.pass_gap.new.cursor g.text g.turns.moved g.gap g.rest c.attribute_error.new.cursor c.attribute_error.ensures.turns

pub returns-then-is_at-clause-turns : goal.returns-then-is_at-clause-turns
returns-then-is_at-clause-turns c = λ reached.
    let g = c.in_ok-pass_gap.ensures in
    alone_scanned c.args.cursor.now c.pass_gap.new.cursor g.text g.turns.moved g.gap g.rest c.attribute_error.new.cursor c.attribute_error.ensures.turns

pub returns-in_err-pass_value-clause-turns : goal.returns-in_err-pass_value-clause-turns
returns-in_err-pass_value-clause-turns c =
    let g = c.in_ok-pass_gap.ensures in
    alone_refused c.args.cursor.now c.pass_gap.new.cursor g.text g.turns.moved g.gap g.rest _ c.pass_value.new.cursor c.in_err-pass_value.ensures.turns

pub returns-clause-turns : goal.returns-clause-turns
returns-clause-turns c =
    let g = c.in_ok-pass_gap.ensures in
    alone_closed c.args.cursor.now c.pass_gap.new.cursor g.text g.turns.moved g.gap g.rest _ _ c.pass_value.new.cursor c.close.new.cursor
    c.in_ok-pass_value.ensures.turns c.in_ok-pass_value.ensures.stretch c.close.ensures.turns
