use Rattle.std.proofs.Common.{codes, length, sym, ap, subst, arith}
use Rattle.std.proofs.lemmas.Bool.{and_parts}
use Rattle.std.proofs.lemmas.Result.{err_from_is_err_and}
use Rattle.ron_spec_words.specs.Directly.{stands}
use Rattle.ron_de_steps.proofs.KeepLemmas.{stays_on}
use Rattle.ron_de_steps.proofs.LeadLemmas.{opened_stays}
use Rattle.ron_de_untyped.specs.Somes.{IsLast}
use Rattle.ron_de_untyped.specs.Values.{unwraps}
use Rattle.ron_de_untyped.proofs.SomeCounts.{next_unknown, next_other, next_none, next_slash, next_some, next_opens, other_opens}
use Rattle.ron_de_untyped.proofs.SomeLemmas.{enters_next, enters_nothing, none_opens}
use Rattle.ron_de_untyped.proofs.somes.enter_next.Goals as goal

pub returns-in_err-is_one-clause-value : goal.returns-in_err-is_one-clause-value
returns-in_err-is_one-clause-value c =
    let p = err_from_is_err_and c.from_residual.result c.from_residual.ensures.1 in
    rw (p.1, p.2, c.in_err-is_one.ensures.fault) tt

pub returns-in_err-is_one-clause-turns : goal.returns-in_err-is_one-clause-turns
returns-in_err-is_one-clause-turns c =
    let p = err_from_is_err_and c.from_residual.result c.from_residual.ensures.1 in
    rw p.1 (next_unknown c.args.cursor.now c.holds_one.new.cursor c.in_err-is_one.ensures.place c.in_err-is_one.ensures.turns p.0)

pub returns-then-not-is_one-clause-value : goal.returns-then-not-is_one-clause-value
returns-then-not-is_one-clause-value c = c.in_ok-is_one.ensures.place

pub returns-then-not-is_one-clause-turns : goal.returns-then-not-is_one-clause-turns
returns-then-not-is_one-clause-turns c = next_other c.args.cursor.now c.holds_one.new.cursor c.in_ok-is_one.ensures.place c.in_ok-is_one.ensures.turns

pub returns-then-not-is_one-clause-opens : goal.returns-then-not-is_one-clause-opens
returns-then-not-is_one-clause-opens c = opened_stays c.args.cursor.now c.holds_one.new.cursor c.in_ok-is_one.ensures.place

pub returns-then-not-take_some-clause-value : goal.returns-then-not-take_some-clause-value
returns-then-not-take_some-clause-value c =
    stays_on c.args.cursor.now c.holds_one.new.cursor c.take_some.new.self c.in_ok-is_one.ensures.place c.if-not-take_some.ensures.taken

pub returns-then-not-take_some-clause-turns : goal.returns-then-not-take_some-clause-turns
returns-then-not-take_some-clause-turns c = next_none c.args.cursor.now c.holds_one.new.cursor c.in_ok-is_one.ensures.place c.in_ok-is_one.ensures.turns
    c.take_some.new.self c.if-not-take_some.ensures.taken c.if-not-take_some.ensures.turns

pub returns-then-not-take_some-clause-opens : goal.returns-then-not-take_some-clause-opens
returns-then-not-take_some-clause-opens c = other_opens c.args.cursor.now c.holds_one.new.cursor c.in_ok-is_one.ensures.place c.in_ok-is_one.ensures.turns
    c.take_some.new.self c.if-not-take_some.ensures.taken

pub returns-in_err-pass_gap-clause-value : goal.returns-in_err-pass_gap-clause-value
returns-in_err-pass_gap-clause-value c =
    let p = err_from_is_err_and c.from_residual-in_err-pass_gap.result c.from_residual-in_err-pass_gap.ensures.1 in
    let word = (and_parts (stands (codes "Some") c.holds_one.new.cursor.rest) _ (sym c.if-not-take_some.ensures.opens)).0 in
    rw (p.1, p.2) (enters_nothing (unwraps c.args.context.now) c.args.cursor.now c.holds_one.new.cursor c.take_some.new.self c.in_ok-is_one.ensures.place
    (c.in_ok-is_one.ensures.value c.if-not-is_one.false) word c.if-not-take_some.ensures.taken _ c.in_err-pass_gap.ensures.fault.0
    c.in_err-pass_gap.ensures.slash)

pub returns-in_err-pass_gap-clause-turns : goal.returns-in_err-pass_gap-clause-turns
returns-in_err-pass_gap-clause-turns c =
    let p = err_from_is_err_and c.from_residual-in_err-pass_gap.result c.from_residual-in_err-pass_gap.ensures.1 in
    rw p.1 (next_slash c.args.cursor.now c.holds_one.new.cursor c.in_ok-is_one.ensures.place c.in_ok-is_one.ensures.turns c.take_some.new.self
    c.pass_gap.new.cursor c.if-not-take_some.ensures.turns p.0 c.in_err-pass_gap.ensures.turns.most)

pub returns-clause-value : goal.returns-clause-value
returns-clause-value c =
    let word = (and_parts (stands (codes "Some") c.holds_one.new.cursor.rest) _ (sym c.if-not-take_some.ensures.opens)).0 in
    enters_next (unwraps c.args.context.now) c.args.cursor.now c.holds_one.new.cursor c.take_some.new.self c.in_ok-is_one.ensures.place
    (c.in_ok-is_one.ensures.value c.if-not-is_one.false) word c.if-not-take_some.ensures.taken c.pass_gap.new.cursor c.in_ok-pass_gap.ensures.slash
    c.in_ok-pass_gap.ensures.gap c.in_ok-pass_gap.ensures.rest

pub returns-clause-shorter : goal.returns-clause-shorter
returns-clause-shorter c =
    λ e. omega (arith, c.if-not-take_some.ensures.shorter e, c.in_ok-pass_gap.ensures.no_longer, ap length c.in_ok-is_one.ensures.place.rest)

pub returns-clause-turns : goal.returns-clause-turns
returns-clause-turns c =
    let word = (and_parts (stands (codes "Some") c.holds_one.new.cursor.rest) _ (sym c.if-not-take_some.ensures.opens)).0 in
    next_some c.args.cursor.now c.holds_one.new.cursor c.in_ok-is_one.ensures.place c.in_ok-is_one.ensures.turns c.take_some.new.self c.pass_gap.new.cursor
    c.if-not-take_some.ensures.turns word c.if-not-take_some.ensures.taken c.in_ok-pass_gap.ensures.rest c.in_ok-pass_gap.ensures.gap
    c.in_ok-pass_gap.ensures.turns.moved

pub returns-clause-opens : goal.returns-clause-opens
returns-clause-opens c =
    let word = (and_parts (stands (codes "Some") c.holds_one.new.cursor.rest) _ (sym c.if-not-take_some.ensures.opens)).0 in
    next_opens c.args.cursor.now c.holds_one.new.cursor c.in_ok-is_one.ensures.place c.in_ok-is_one.ensures.turns c.take_some.new.self c.pass_gap.new.cursor
    c.if-not-take_some.ensures.turns word c.if-not-take_some.ensures.taken c.in_ok-pass_gap.ensures.rest c.if-not-take_some.ensures.text
    c.in_ok-pass_gap.ensures.text

pub returns-then-not-is_one-clause-last : goal.returns-then-not-is_one-clause-last
returns-then-not-is_one-clause-last c =
    λ last. subst (IsLast (unwraps c.args.context.now)) (sym c.in_ok-is_one.ensures.place.rest) (c.in_ok-is_one.ensures.last c.if-not-is_one.true)

pub returns-then-not-take_some-clause-last : goal.returns-then-not-take_some-clause-last
returns-then-not-take_some-clause-last c = λ last. none_opens (unwraps c.args.context.now) c.holds_one.new.cursor.rest c.take_some.new.self.rest
    c.if-not-take_some.ensures.taken.rest c.if-not-take_some.ensures.opens
