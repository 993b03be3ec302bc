use Rattle.std.proofs.Common.{sym, ◌∙◌, arith}
use Rattle.std.proofs.lemmas.Result.{err_from_is_err_and}
use Rattle.ron_lex.specs.Turns.{GoesOver}
use Rattle.ron_lex.proofs.TurnLemmas.{over_all}
use Rattle.ron_de_steps.proofs.ErrorLemmas.{memory_or_more, text_and}
use Rattle.ron_de_steps.proofs.AttributeLemmas.{no_first_mark, no_second_mark, no_third_mark, nothing_inside, slash_inside, attribute_read, attribute_open}
use Rattle.ron_de_steps.proofs.AttributeCounts.{gap_twice, mark_twice}
use Rattle.ron_de_steps.proofs.attributes.read_attribute.Goals as goal

pub returns-in_err-take_mark-clause-value : goal.returns-in_err-take_mark-clause-value
returns-in_err-take_mark-clause-value c =
    let p = err_from_is_err_and c.from_residual.result c.from_residual.ensures.1 in
    rw (p.1, p.2) (memory_or_more _ (no_first_mark _) c.in_err-take_mark.ensures.value)

pub returns-in_err-take_mark-2-clause-value : goal.returns-in_err-take_mark-2-clause-value
returns-in_err-take_mark-2-clause-value c =
    let p = err_from_is_err_and c.from_residual-in_err-take_mark-2.result c.from_residual-in_err-take_mark-2.ensures.1 in
    rw (p.1, p.2) (memory_or_more _ (no_second_mark _ (c.take_mark.new.cursor.gap, c.take_mark.new.cursor.rest) c.in_ok-take_mark.ensures.value)
    c.in_err-take_mark-2.ensures.value)

pub returns-in_err-take_mark-3-clause-value : goal.returns-in_err-take_mark-3-clause-value
returns-in_err-take_mark-3-clause-value c =
    let p = err_from_is_err_and c.from_residual-in_err-take_mark-3.result c.from_residual-in_err-take_mark-3.ensures.1 in
    rw (p.1, p.2) (memory_or_more _ (no_third_mark _ (c.take_mark.new.cursor.gap, c.take_mark.new.cursor.rest) c.in_ok-take_mark.ensures.value
    (c.take_mark-2.new.cursor.gap, c.take_mark-2.new.cursor.rest) c.in_ok-take_mark-2.ensures.value) c.in_err-take_mark-3.ensures.value)

pub returns-in_err-announced-clause-value : goal.returns-in_err-announced-clause-value
returns-in_err-announced-clause-value c =
    let p = err_from_is_err_and c.from_residual-in_err-announced.result c.from_residual-in_err-announced.ensures.1 in
    rw (p.1, p.2) (memory_or_more _ (nothing_inside _ (c.take_mark.new.cursor.gap, c.take_mark.new.cursor.rest) c.in_ok-take_mark.ensures.value
    (c.take_mark-2.new.cursor.gap, c.take_mark-2.new.cursor.rest) c.in_ok-take_mark-2.ensures.value
    (c.take_mark-3.new.cursor.gap, c.take_mark-3.new.cursor.rest) c.in_ok-take_mark-3.ensures.value) c.in_err-announced.ensures.value)

pub returns-in_err-pass_gap-clause-value : goal.returns-in_err-pass_gap-clause-value
returns-in_err-pass_gap-clause-value c =
    let p = err_from_is_err_and c.from_residual-in_err-pass_gap.result c.from_residual-in_err-pass_gap.ensures.1 in
    rw (p.1, p.2) (text_and _ c.in_err-pass_gap.ensures.fault.0 (slash_inside _ (c.take_mark.new.cursor.gap, c.take_mark.new.cursor.rest)
    c.in_ok-take_mark.ensures.value (c.take_mark-2.new.cursor.gap, c.take_mark-2.new.cursor.rest) c.in_ok-take_mark-2.ensures.value
    (c.take_mark-3.new.cursor.gap, c.take_mark-3.new.cursor.rest) c.in_ok-take_mark-3.ensures.value _ _ c.in_ok-announced.ensures.value
    c.in_err-pass_gap.ensures.slash))

pub returns-then-take-clause-value : goal.returns-then-take-clause-value
returns-then-take-clause-value c = attribute_read _ (c.take_mark.new.cursor.gap, c.take_mark.new.cursor.rest) c.in_ok-take_mark.ensures.value
    (c.take_mark-2.new.cursor.gap, c.take_mark-2.new.cursor.rest) c.in_ok-take_mark-2.ensures.value
    (c.take_mark-3.new.cursor.gap, c.take_mark-3.new.cursor.rest) c.in_ok-take_mark-3.ensures.value _ _ c.in_ok-announced.ensures.value _
    c.in_ok-pass_gap.ensures.slash (sym c.in_ok-pass_gap.ensures.rest ∙ c.if-take.ensures.taken)

pub returns-else-take-clause-value : goal.returns-else-take-clause-value
returns-else-take-clause-value c = attribute_open _ (c.take_mark.new.cursor.gap, c.take_mark.new.cursor.rest) c.in_ok-take_mark.ensures.value
    (c.take_mark-2.new.cursor.gap, c.take_mark-2.new.cursor.rest) c.in_ok-take_mark-2.ensures.value
    (c.take_mark-3.new.cursor.gap, c.take_mark-3.new.cursor.rest) c.in_ok-take_mark-3.ensures.value _ _ c.in_ok-announced.ensures.value
    c.in_ok-pass_gap.ensures.slash (rw c.in_ok-pass_gap.ensures.rest at c.if-take.ensures.taken.0)

pub returns-then-take-clause-turns : goal.returns-then-take-clause-turns
returns-then-take-clause-turns c =
    let gap = gap_twice c.read_in_brackets.new.cursor c.pass_gap.new.cursor c.in_ok-pass_gap.ensures.turns.moved c.in_ok-pass_gap.ensures.rest in
    let close = mark_twice 93 c.pass_gap.new.cursor c.take.new.self c.take.ensures.turns c.if-take.ensures.taken in
    let over : GoesOver 2 c.args.cursor.now c.take.new.self = omega (
      arith,
      c.in_ok-take_mark.ensures.turns.moved,
      c.in_ok-take_mark-2.ensures.turns.moved,
      c.in_ok-take_mark-3.ensures.turns.moved,
      c.in_ok-announced.ensures.turns.moved,
      gap,
      close,
    ) in
    record { moved = over; most = over_all 2 c.args.cursor.now c.take.new.self over }
