use Rattle.std.proofs.lemmas.Result.{err_from_is_err_and}
use Rattle.std.proofs.Common.{ap}
use Rattle.ron_lex_text.proofs.StretchLemmas.{literals}
use Rattle.ron_lex.specs.Place.{Place}
use Rattle.ron_de_untyped.proofs.CountLemmas.{pass_open, pass_word}
use Rattle.ron_de_untyped.proofs.LeadLemmas.{leads_here, some_leads}
use Rattle.ron_de_untyped.proofs.words.enter_some.Goals as goal

pub returns-in_err-pass_gap-clause-turns : goal.returns-in_err-pass_gap-clause-turns
returns-in_err-pass_gap-clause-turns c =
    let p = err_from_is_err_and c.from_residual.result c.from_residual.ensures.1 in
    rw p.1
    (pass_open 1 1 c.args.cursor.now c.take_some.new.cursor c.pass_gap.new.cursor p.0 c.if-not-take_some.ensures.turns c.in_err-pass_gap.ensures.turns.most)

pub returns-clause-turns : goal.returns-clause-turns
returns-clause-turns c = pass_word 1 1 c.args.cursor.now c.take_some.new.cursor c.pass_gap.new.cursor c.if-not-take_some.ensures.turns
    c.in_ok-pass_gap.ensures.turns.moved c.in_ok-pass_gap.ensures.rest

pub returns-then-not-take_some-clause-leads : goal.returns-then-not-take_some-clause-leads
returns-then-not-take_some-clause-leads c = leads_here c.args.cursor.now c.take_some.new.cursor (ap (λ (p : Place). p.rest) c.if-not-take_some.ensures.turns)

pub returns-clause-leads : goal.returns-clause-leads
unfolding literals
returns-clause-leads c = some_leads c.args.cursor.now c.take_some.new.cursor c.pass_gap.new.cursor c.if-not-take_some.ensures.value.0
    c.if-not-take_some.ensures.value.1 c.in_ok-pass_gap.ensures.rest
