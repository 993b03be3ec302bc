use Rattle.std.proofs.Common.{length, ap, arith}
use Rattle.std.proofs.lemmas.Result.{err_from_is_err_and}
use Rattle.ron_de_steps.proofs.SpendLemmas.{turns_before}
use Rattle.ron_de_steps.specs.Spends.{total_before}
use Rattle.ron_de_untyped.specs.Values.{unwraps}
use Rattle.ron_de_untyped.proofs.SomeCounts.{entered_counts, stayed_counts}
use Rattle.ron_de_untyped.proofs.SomeLemmas.{size_enough, goes_begin, goes_refused, goes_ended, goes_on, goes_end, goes_count, entered, stayed}
use Rattle.ron_de_untyped.proofs.somes.enter_somes.Goals as goal

pub somes-init : goal.somes-init
somes-init c =
    goes_begin _ c.args.context.now c.args.cursor.now (size_enough c.rest-size.result.now c.args.cursor.now.rest c.rest-size.utf8 c.rest-size.ensures.rest)

pub somes-preserved : goal.somes-preserved
somes-preserved c = goes_on c.somes.invariant c.enter_next.new.cursor
    (entered (unwraps c.somes.context) c.in_ok-is_next.is_next c.somes.cursor c.enter_next.new.cursor c.in_ok-is_next.ensures.value c.if-not-is_next.false) _
    c.in_ok-context.ensures c.in_ok-is_next.ensures.text (c.in_ok-is_next.ensures.shorter c.if-not-is_next.false) c.in_ok-is_next.ensures.grows (entered_counts
    c.in_ok-is_next.is_next c.somes.cursor c.enter_next.new.cursor c.in_ok-is_next.ensures.turns c.if-not-is_next.false) c.in_ok-is_next.ensures.opens

pub somes-smaller : goal.somes-smaller
somes-smaller c = omega (arith, c.in_ok-is_next.ensures.shorter c.if-not-is_next.false)

pub prove-unreachable-requires : goal.prove-unreachable-requires
prove-unreachable-requires c = omega (arith, c.in_ok-is_next.ensures.shorter c.if-not-is_next.false)

pub returns-in_err-is_next-clause-value : goal.returns-in_err-is_next-clause-value
returns-in_err-is_next-clause-value c =
    let p = err_from_is_err_and c.from_residual.result c.from_residual.ensures.1 in
    rw (p.1, p.2) (goes_refused c.somes.invariant _ c.in_err-is_next.ensures.value)

pub returns-in_err-is_next-clause-turns : goal.returns-in_err-is_next-clause-turns
returns-in_err-is_next-clause-turns c =
    let p = err_from_is_err_and c.from_residual.result c.from_residual.ensures.1 in
    rw p.1 (goes_count c.somes.invariant (λ place a b. place.turns) c.enter_next.new.cursor c.in_err-is_next.ensures.turns)

pub returns-then-not-is_next-clause-value : goal.returns-then-not-is_next-clause-value
returns-then-not-is_next-clause-value c = goes_end c.somes.invariant c.enter_next.new.cursor
    (stayed (unwraps c.somes.context) c.in_ok-is_next.is_next c.somes.cursor c.enter_next.new.cursor c.in_ok-is_next.ensures.value c.if-not-is_next.true)

pub returns-then-not-is_next-clause-no_longer : goal.returns-then-not-is_next-clause-no_longer
returns-then-not-is_next-clause-no_longer c =
    let s =
    stayed (unwraps c.somes.context) c.in_ok-is_next.is_next c.somes.cursor c.enter_next.new.cursor c.in_ok-is_next.ensures.value c.if-not-is_next.true in
    omega (arith, ap length s.rest, c.somes.invariant.no_longer)

pub returns-then-not-is_next-clause-turns : goal.returns-then-not-is_next-clause-turns
returns-then-not-is_next-clause-turns c = goes_count c.somes.invariant (λ place a b. total_before a b 2 place) c.enter_next.new.cursor
    (stayed_counts c.in_ok-is_next.is_next c.somes.cursor c.enter_next.new.cursor c.in_ok-is_next.ensures.turns c.if-not-is_next.true)

pub returns-then-not-is_next-clause-opens : goal.returns-then-not-is_next-clause-opens
returns-then-not-is_next-clause-opens c = λ o. c.in_ok-is_next.ensures.opens (c.somes.invariant.opens o)

pub returns-in_err-context-clause-value : goal.returns-in_err-context-clause-value
returns-in_err-context-clause-value c =
    let p = err_from_is_err_and c.from_residual-in_err-context.result c.from_residual-in_err-context.ensures.1 in
    rw (p.1, p.2, c.in_err-context.ensures.0) (goes_ended c.somes.invariant c.enter_next.new.cursor (entered (unwraps c.somes.context) c.in_ok-is_next.is_next
    c.somes.cursor c.enter_next.new.cursor c.in_ok-is_next.ensures.value c.if-not-is_next.false) c.in_err-context.ensures.1)

pub returns-in_err-context-clause-turns : goal.returns-in_err-context-clause-turns
returns-in_err-context-clause-turns c =
    let p = err_from_is_err_and c.from_residual-in_err-context.result c.from_residual-in_err-context.ensures.1 in
    let n = entered_counts c.in_ok-is_next.is_next c.somes.cursor c.enter_next.new.cursor c.in_ok-is_next.ensures.turns c.if-not-is_next.false in
    rw p.1 (goes_count c.somes.invariant (λ place a b. place.turns) c.enter_next.new.cursor
    (λ o a b i. omega (arith, n o a b i, turns_before a b 3 c.enter_next.new.cursor)))

pub returns-then-not-is_next-clause-last : goal.returns-then-not-is_next-clause-last
returns-then-not-is_next-clause-last c = c.in_ok-is_next.ensures.last c.if-not-is_next.true
