-- What a Some holds.
use Rattle.std.proofs.Common.{true, refl, arith}
use Rattle.std.proofs.lemmas.Result.{err_from_is_err_and}
use Rattle.ron_de_steps.proofs.LeadLemmas.{opened_mark}
use Rattle.ron_de_steps.proofs.NearLemmas.{past_mark_enters, past_last_nears, mark_left_parenthesis}
use Rattle.ron_de_untyped.proofs.CountLemmas.{opened_spent, scan_settled, spent_moved, spent_open}
use Rattle.ron_de_untyped.proofs.SomeCounts.{in_refused, in_ended, in_unread, in_settled}
use Rattle.ron_de_untyped.proofs.SomeLemmas.{held_fails, held_as_bare, held_no_end, held_read, some_unopened, some_ended, some_not_entered, some_unread}
use Rattle.ron_de_untyped.proofs.SomeLemmas.{some_read}
use Rattle.ron_de_untyped.proofs.+read.Goals as goal

-- ---- a Some from behind its word on

pub somes::read_some-returns-in_err-open_some-clause-value : goal.somes::read_some-returns-in_err-open_some-clause-value
somes::read_some-returns-in_err-open_some-clause-value t c =
    let p = err_from_is_err_and c.from_residual.result c.from_residual.ensures.1 in
    rw (p.1, p.2) (λ room r. some_unopened c.args.context.now c.args.cursor.now room _ c.in_err-open_some.ensures.value)

pub somes::read_some-returns-in_err-inner-clause-value : goal.somes::read_some-returns-in_err-inner-clause-value
somes::read_some-returns-in_err-inner-clause-value t c =
    let p = err_from_is_err_and c.from_residual-in_err-inner.result c.from_residual-in_err-inner.ensures.1 in
    rw (p.1, p.2, c.in_err-inner.ensures.0) (λ room r. some_ended c.args.context.now c.args.cursor.now room r c.open_some.new.cursor
    c.in_ok-open_some.ensures.value c.in_ok-open_some.ensures.shorter c.in_err-inner.ensures.1)

pub somes::read_some-returns-in_err-depth-clause-value : goal.somes::read_some-returns-in_err-depth-clause-value
somes::read_some-returns-in_err-depth-clause-value t c =
    let p = err_from_is_err_and c.from_residual-in_err-depth.result c.from_residual-in_err-depth.ensures.1 in
    rw (p.1, p.2) (λ room r. some_not_entered c.args.context.now c.args.cursor.now room r c.open_some.new.cursor c.in_ok-open_some.ensures.value
    c.in_ok-open_some.ensures.shorter c.in_ok-inner.inner c.in_ok-inner.ensures _ c.in_err-depth.ensures.value)

pub somes::read_some-returns-in_err-held-clause-value : goal.somes::read_some-returns-in_err-held-clause-value
somes::read_some-returns-in_err-held-clause-value t c =
    let p = err_from_is_err_and c.from_residual-in_err-held.result c.from_residual-in_err-held.ensures.1 in
    rw (p.1, p.2) (λ room r. some_unread c.args.context.now c.args.cursor.now room r c.open_some.new.cursor c.in_ok-open_some.ensures.value
    c.in_ok-open_some.ensures.shorter c.in_ok-inner.inner c.in_ok-inner.ensures c.in_ok-depth.depth c.enter_somes.new.context c.enter_somes.new.cursor
    c.in_ok-depth.ensures.extensions c.in_ok-depth.ensures.value _ c.read_held.new.cursor.rest c.in_err-held.ensures.value)

pub somes::read_some-returns-clause-value : goal.somes::read_some-returns-clause-value
somes::read_some-returns-clause-value t c = λ room r. some_read c.args.context.now c.args.cursor.now room r c.open_some.new.cursor
    c.in_ok-open_some.ensures.value c.in_ok-open_some.ensures.shorter c.in_ok-inner.inner c.in_ok-inner.ensures c.in_ok-depth.depth c.enter_somes.new.context
    c.enter_somes.new.cursor c.in_ok-depth.ensures.extensions c.in_ok-depth.ensures.value c.in_ok-held.held c.read_held.new.cursor.rest
    c.in_ok-held.ensures.value c.close_somes.result c.close_somes.new.cursor.rest c.close_somes.ensures.value

pub somes::read_some-returns-in_err-open_some-clause-turns : goal.somes::read_some-returns-in_err-open_some-clause-turns
somes::read_some-returns-in_err-open_some-clause-turns t c =
    let p = err_from_is_err_and c.from_residual.result c.from_residual.ensures.1 in
    rw (p.1, p.2) (scan_settled 1 c.args.cursor.now c.open_some.new.cursor _ (omega arith) c.in_err-open_some.ensures.turns.most)

pub somes::read_some-returns-in_err-inner-clause-turns : goal.somes::read_some-returns-in_err-inner-clause-turns
somes::read_some-returns-in_err-inner-clause-turns t c =
    let p = err_from_is_err_and c.from_residual-in_err-inner.result c.from_residual-in_err-inner.ensures.1 in
    rw (p.1, p.2) (in_ended c.args.cursor.now c.open_some.new.cursor c.in_ok-open_some.ensures.turns.moved
    (past_mark_enters 40 c.args.cursor.now c.open_some.new.cursor mark_left_parenthesis c.in_ok-open_some.ensures.value)
    (opened_mark c.args.cursor.now c.open_some.new.cursor c.in_ok-open_some.ensures.text 40 refl c.in_ok-open_some.ensures.value) _)

pub somes::read_some-returns-in_err-depth-clause-turns : goal.somes::read_some-returns-in_err-depth-clause-turns
somes::read_some-returns-in_err-depth-clause-turns t c =
    let p = err_from_is_err_and c.from_residual-in_err-depth.result c.from_residual-in_err-depth.ensures.1 in
    rw (p.1, p.2) (in_refused c.args.cursor.now c.open_some.new.cursor c.in_ok-open_some.ensures.turns.moved
    (past_mark_enters 40 c.args.cursor.now c.open_some.new.cursor mark_left_parenthesis c.in_ok-open_some.ensures.value) (opened_mark c.args.cursor.now
    c.open_some.new.cursor c.in_ok-open_some.ensures.text 40 refl c.in_ok-open_some.ensures.value) c.enter_somes.new.cursor _ c.in_err-depth.ensures.turns)

pub somes::read_some-returns-in_err-held-clause-turns : goal.somes::read_some-returns-in_err-held-clause-turns
somes::read_some-returns-in_err-held-clause-turns t c =
    let p = err_from_is_err_and c.from_residual-in_err-held.result c.from_residual-in_err-held.ensures.1 in
    rw (p.1, p.2) (in_unread c.args.cursor.now c.open_some.new.cursor c.in_ok-open_some.ensures.turns.moved
    (past_mark_enters 40 c.args.cursor.now c.open_some.new.cursor mark_left_parenthesis c.in_ok-open_some.ensures.value)
    (opened_mark c.args.cursor.now c.open_some.new.cursor c.in_ok-open_some.ensures.text 40 refl c.in_ok-open_some.ensures.value) c.enter_somes.new.cursor
    c.in_ok-depth.ensures.turns c.in_ok-depth.ensures.opens c.read_held.new.cursor _ _ c.in_err-held.ensures.turns)

pub somes::read_some-returns-clause-turns : goal.somes::read_some-returns-clause-turns
somes::read_some-returns-clause-turns t c = in_settled c.args.cursor.now c.open_some.new.cursor c.in_ok-open_some.ensures.turns.moved
    (past_mark_enters 40 c.args.cursor.now c.open_some.new.cursor mark_left_parenthesis c.in_ok-open_some.ensures.value) (opened_mark c.args.cursor.now
    c.open_some.new.cursor c.in_ok-open_some.ensures.text 40 refl c.in_ok-open_some.ensures.value) c.enter_somes.new.cursor c.in_ok-depth.ensures.turns
    c.in_ok-depth.ensures.opens c.read_held.new.cursor c.close_somes.new.cursor _ c.close_somes.result c.in_ok-held.ensures.turns c.close_somes.ensures.turns

-- ---- what it holds

pub somes::read_held-returns-in_err-value-clause-value : goal.somes::read_held-returns-in_err-value-clause-value
somes::read_held-returns-in_err-value-clause-value t c =
    let p = err_from_is_err_and c.from_residual.result c.from_residual.ensures.1 in
    rw (p.1, p.2) (held_fails c.args.context.now c.args.cursor.now c.unwraps_variants-is_bare.result c.unwraps_variants-is_bare.ensures _
    c.read_any.new.cursor.rest c.in_err-value.ensures.value)

pub somes::read_held-returns-then-is_bare-clause-value : goal.somes::read_held-returns-then-is_bare-clause-value
somes::read_held-returns-then-is_bare-clause-value t c = held_as_bare c.args.context.now c.args.cursor.now c.unwraps_variants-is_bare.result
    c.unwraps_variants-is_bare.ensures c.in_ok-value.value c.read_any.new.cursor.rest c.in_ok-value.ensures.value c.if-is_bare.true

pub somes::read_held-returns-in_err-pass_last_comma-clause-value : goal.somes::read_held-returns-in_err-pass_last_comma-clause-value
somes::read_held-returns-in_err-pass_last_comma-clause-value t c =
    let p = err_from_is_err_and c.from_residual-in_err-pass_last_comma.result c.from_residual-in_err-pass_last_comma.ensures.1 in
    rw (p.1, p.2) (held_no_end c.args.context.now c.args.cursor.now c.unwraps_variants-is_bare.result c.unwraps_variants-is_bare.ensures c.in_ok-value.value
    c.read_any.new.cursor.rest c.in_ok-value.ensures.value c.if-is_bare.false _ c.pass_last_comma.new.cursor.rest c.in_err-pass_last_comma.ensures.value)

pub somes::read_held-returns-clause-value : goal.somes::read_held-returns-clause-value
somes::read_held-returns-clause-value t c = held_read c.args.context.now c.args.cursor.now c.unwraps_variants-is_bare.result c.unwraps_variants-is_bare.ensures
    c.in_ok-value.value c.read_any.new.cursor.rest c.in_ok-value.ensures.value c.if-is_bare.false _ c.in_ok-pass_last_comma.ensures.value

pub somes::read_held-returns-in_err-value-clause-turns : goal.somes::read_held-returns-in_err-value-clause-turns
somes::read_held-returns-in_err-value-clause-turns t c =
    let p = err_from_is_err_and c.from_residual.result c.from_residual.ensures.1 in
    rw (p.1, p.2) (opened_spent c.unwraps_variants-is_bare.result 2 2 c.args.cursor.now _ c.read_any.new.cursor (omega arith) c.in_err-value.ensures.turns)

pub somes::read_held-returns-then-is_bare-clause-turns : goal.somes::read_held-returns-then-is_bare-clause-turns
somes::read_held-returns-then-is_bare-clause-turns t c =
    opened_spent c.unwraps_variants-is_bare.result 2 2 c.args.cursor.now _ c.read_any.new.cursor (omega arith) c.in_ok-value.ensures.turns

pub somes::read_held-returns-in_err-pass_last_comma-clause-turns : goal.somes::read_held-returns-in_err-pass_last_comma-clause-turns
somes::read_held-returns-in_err-pass_last_comma-clause-turns t c =
    let p = err_from_is_err_and c.from_residual-in_err-pass_last_comma.result c.from_residual-in_err-pass_last_comma.ensures.1 in
    rw (p.1, p.2) (spent_open true 2 c.args.cursor.now c.read_any.new.cursor c.pass_last_comma.new.cursor _ _ (opened_spent c.unwraps_variants-is_bare.result 2
    2 c.args.cursor.now _ c.read_any.new.cursor (omega arith) c.in_ok-value.ensures.turns) c.in_err-pass_last_comma.ensures.turns.most)

pub somes::read_held-returns-clause-turns : goal.somes::read_held-returns-clause-turns
somes::read_held-returns-clause-turns t c = spent_moved true 2 c.args.cursor.now c.read_any.new.cursor c.pass_last_comma.new.cursor _ _
    (opened_spent c.unwraps_variants-is_bare.result 2 2 c.args.cursor.now _ c.read_any.new.cursor (omega arith) c.in_ok-value.ensures.turns)
    c.in_ok-pass_last_comma.ensures.turns.moved (past_last_nears c.read_any.new.cursor c.pass_last_comma.new.cursor c.in_ok-pass_last_comma.ensures.value)
