use Rattle.std.proofs.Common.{chars, arith}
use Rattle.std.proofs.lemmas.Result.{err_from_is_err_and}
use Rattle.ron_de_steps.proofs.ErrorLemmas.{text_and}
use Rattle.ron_de_parts.proofs.AwaitedLemmas.{stays_here, awaited_slash, awaited_shorter, awaited_value, awaited_enters, awaited_leads}
use Rattle.ron_de_parts.proofs.TurnLemmas.{looks_none, moved_so, refused_so}
use Rattle.ron_de_parts.proofs.fields.take_awaited.Goals as goal

pub returns-in_default-clause-takes : goal.returns-in_default-clause-takes
returns-in_default-clause-takes c = (stays_here c.args.cursor.now, looks_none c.args.cursor.now)

pub returns-then-not-take_called-clause-takes : goal.returns-then-not-take_called-clause-takes
returns-then-not-take_called-clause-takes c = (c.if-not-take_called.ensures.value, c.if-not-take_called.ensures.turns)

pub returns-in_err-pass_gap-clause-takes : goal.returns-in_err-pass_gap-clause-takes
returns-in_err-pass_gap-clause-takes c =
    let p = err_from_is_err_and c.from_residual.result c.from_residual.ensures.1 in
    rw (p.1, p.2) (record {
      value = λ x schema room seen h. text_and _ c.in_err-pass_gap.ensures.fault.0 (awaited_slash c.args.cursor.now c.take_called.new.self c.pass_gap.new.cursor
          (chars c.in-Some.name.now) c.if-not-take_called.ensures.value x schema room _ seen c.in_err-pass_gap.ensures.slash);
      shorter = tt;
      turns = refused_so 1 c.args.cursor.now c.pass_gap.new.cursor _ (omega (arith, c.if-not-take_called.ensures.turns, c.in_err-pass_gap.ensures.turns.most));
      enters = tt;
      leads = tt;
    })

pub returns-clause-takes : goal.returns-clause-takes
returns-clause-takes c = record {
  value = awaited_value c.args.cursor.now c.take_called.new.self c.pass_gap.new.cursor (chars c.in-Some.name.now) c.if-not-take_called.ensures.value
      c.in_ok-pass_gap.ensures.rest c.args.list.now c.args.found.now c.in-Some.index c.in_ok-pass_gap.ensures.slash c.in_ok-pass_gap.ensures.gap
      c.in-Some.ensures.named c.in-Some.ensures.turn.2;
  shorter = omega (
    arith,
    awaited_shorter c.args.cursor.now c.take_called.new.self c.pass_gap.new.cursor (chars c.in-Some.name.now) c.if-not-take_called.ensures.value,
    c.pass_gap.ensures.no_longer,
  );
  turns = moved_so 1 c.args.cursor.now c.pass_gap.new.cursor _ (omega (arith, c.if-not-take_called.ensures.turns, c.in_ok-pass_gap.ensures.turns.moved));
  enters = awaited_enters c.args.cursor.now c.take_called.new.self c.pass_gap.new.cursor (chars c.in-Some.name.now) c.if-not-take_called.ensures.value
      c.in_ok-pass_gap.ensures.rest c.in_ok-pass_gap.ensures.gap;
  leads = awaited_leads c.args.cursor.now c.take_called.new.self c.pass_gap.new.cursor (chars c.in-Some.name.now) c.if-not-take_called.ensures.value
      c.in_ok-pass_gap.ensures.rest;
}
