use Rattle.std.proofs.Common.{rules, true}
use Rattle.std.proofs.lemmas.Result.{err_from_is_err_and}
use Rattle.ron_data.specs.declared.any_value.AnyValue.TheVariants.{Owned}
use Rattle.ron_de_parts.proofs.SliceLemmas.{sliced-value}
use Rattle.ron_de_parts.proofs.UntypedLemmas.{bare_untyped_fault, bare_untyped_open, bare_untyped_read}
use Rattle.ron_de_parts.proofs.TurnLemmas.{value_open, value_closed}
use Rattle.ron_de_parts.proofs.untyped.read_bare_untyped.Goals as goal

pub returns-in_err-value-clause-value : goal.returns-in_err-value-clause-value
returns-in_err-value-clause-value c =
    let p = err_from_is_err_and c.from_residual.result c.from_residual.ensures.1 in
    rw (p.1, p.2)
    (λ i is room r. bare_untyped_fault c.args.context.now i is.0 c.args.cursor.now room r _ c.read_within.new.cursor.rest c.in_err-value.ensures.value)

pub returns-in_err-close_alone-clause-value : goal.returns-in_err-close_alone-clause-value
returns-in_err-close_alone-clause-value c =
    let p = err_from_is_err_and c.from_residual-in_err-close_alone.result c.from_residual-in_err-close_alone.ensures.1 in
    rw (p.1, p.2) (λ i is room r. bare_untyped_open c.args.context.now i is.0 c.args.cursor.now room r c.in_ok-value.value c.read_within.new.cursor.rest
    c.in_ok-value.ensures.value _ c.in_err-close_alone.ensures.value)

pub returns-clause-value : goal.returns-clause-value
returns-clause-value c = λ i is room r. bare_untyped_read c.args.context.now i is.0 c.args.cursor.now room r c.in_ok-value.value c.read_within.new.cursor.rest
    c.in_ok-value.ensures.value c.close_alone.new.cursor.rest c.in_ok-close_alone.ensures.value

pub returns-clause-advance : goal.returns-clause-advance
returns-clause-advance c = record { text = search rules; no_longer = search rules; holds = sliced-value _ _ (Owned c.in_ok-value.value); fault = search rules }

pub returns-in_err-close_alone-clause-turns : goal.returns-in_err-close_alone-clause-turns
returns-in_err-close_alone-clause-turns c =
    let p = err_from_is_err_and c.from_residual-in_err-close_alone.result c.from_residual-in_err-close_alone.ensures.1 in
    rw (p.1, p.2) (value_open true 2 c.args.cursor.now c.read_within.new.cursor c.in_ok-value.value c.in_ok-value.ensures.turns c.close_alone.new.cursor _
    c.in_err-close_alone.ensures.turns.most)

pub returns-clause-turns : goal.returns-clause-turns
returns-clause-turns c = value_closed true 2 c.args.cursor.now c.read_within.new.cursor c.in_ok-value.value c.in_ok-value.ensures.turns c.close_alone.new.cursor
    _ c.in_ok-close_alone.ensures.turns.moved c.in_ok-close_alone.ensures.near
