use Rattle.std.proofs.Common.{sym}
use Rattle.std.proofs.lemmas.Result.{err_from_is_err_and}
use Rattle.ron_lex.specs.Numeral.{numeral_view}
use Rattle.ron_lex.proofs.RangeLemmas.{points_first, first_refused, points_behind, nothing_behind}
use Rattle.ron_lex.proofs.cursor.Cursor.number_or_range.Goals as goal

pub returns-then-opens_points-clause-value : goal.returns-then-opens_points-clause-value
returns-then-opens_points-clause-value c = rw (points_first c.args.self.now.rest (sym c.if-opens_points.ensures)) c.points.ensures.value

pub returns-in_err-number-clause-value : goal.returns-in_err-number-clause-value
returns-in_err-number-clause-value c =
    let p = err_from_is_err_and c.from_residual.result c.from_residual.ensures.1 in
    rw p.1 (first_refused _ _ _ (sym c.if-opens_points.ensures) c.in_err-number.ensures.value)

pub returns-then-opens_points-2-clause-value : goal.returns-then-opens_points-2-clause-value
returns-then-opens_points-2-clause-value c =
    rw (points_behind c.args.self.now.rest (numeral_view c.in_ok-number.number) _ (sym c.if-opens_points.ensures) c.in_ok-number.ensures.value
    (sym c.if-opens_points-2.ensures)) c.points-then-opens_points-2.ensures.value

pub returns-clause-value : goal.returns-clause-value
returns-clause-value c = nothing_behind c.args.self.now.rest (numeral_view c.in_ok-number.number) _ (sym c.if-opens_points.ensures) c.in_ok-number.ensures.value
    (sym c.if-opens_points-2.ensures)
