use Rattle.std.proofs.Common.{chars, arith, rules}
use Rattle.ron_de_raw.proofs.TurnLemmas.{valid_turns, valid_least}
use Rattle.ron_de_raw.proofs.alone.is_valid.Goals as goal

pub returns-in-Ok-clause-turns : goal.returns-in-Ok-clause-turns
returns-in-Ok-clause-turns c =
    let start = c.new-again.ensures in
    omega (
      arith,
      c.add_turns.ensures.turns,
      valid_turns (chars c.args.ron.now) c.new-again.result c.read_alone-answer.new.cursor c.turns.result start.text start.rest start.turns
          c.read_alone-answer.ensures.turns c.turns.ensures.most,
    )

pub returns-in-Ok-clause-least : goal.returns-in-Ok-clause-least
returns-in-Ok-clause-least c = λ valid.
    let start = c.new-again.ensures in
    valid_least (chars c.args.ron.now) c.new-again.result c.read_alone-answer.new.cursor c.turns.result start.text start.rest c.args.cursor.now.counted
    c.add_turns.new.self.counted c.in-Ok.ensures.text c.in-Ok.ensures.ends c.turns.ensures.least c.add_turns.ensures.all

pub returns-in-OutOfMemory-clause-turns : goal.returns-in-OutOfMemory-clause-turns
returns-in-OutOfMemory-clause-turns c =
    let start = c.new-again.ensures in
    omega (
      arith,
      c.add_turns.ensures.turns,
      valid_turns (chars c.args.ron.now) c.new-again.result c.read_alone-answer.new.cursor c.turns.result start.text start.rest start.turns
          c.read_alone-answer.ensures.turns c.turns.ensures.most,
    )

pub returns : goal.returns
returns c =
    let start = c.new-again.ensures in
    record {
      value = search rules;
      place = c.add_turns.ensures.place;
      turns = omega (
        arith,
        c.add_turns.ensures.turns,
        valid_turns (chars c.args.ron.now) c.new-again.result c.read_alone-answer.new.cursor c.turns.result start.text start.rest start.turns
            c.read_alone-answer.ensures.turns c.turns.ensures.most,
      );
      least = λ valid. absurd (cc);
    }
