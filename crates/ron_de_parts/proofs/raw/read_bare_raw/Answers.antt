use Rattle.ron_de_parts.proofs.AgainLemmas.{raw_within, raw_told}
use Rattle.ron_de_parts.proofs.raw.read_bare_raw.Goals as goal

pub returns-in_default-clause-turns : goal.returns-in_default-clause-turns
returns-in_default-clause-turns c = raw_within c.args.cursor.now c.read_one-answer.result c.read_one-answer.new.cursor c.read_one-answer.ensures.turns

pub returns-in_default-2-clause-turns : goal.returns-in_default-2-clause-turns
returns-in_default-2-clause-turns c = raw_within c.args.cursor.now c.read_one-answer.result c.read_one-answer.new.cursor c.read_one-answer.ensures.turns

pub returns-in-Some-clause-turns : goal.returns-in-Some-clause-turns
returns-in-Some-clause-turns c = raw_told c.args.cursor.now c.mark-start.result c.read_one-answer.result c.read_one-answer.new.cursor c.mark-start.ensures
    c.read_one-answer.ensures.turns c.in-Some.told c.bare_fault.new.cursor c.bare_fault.ensures.turns

pub returns-clause-turns : goal.returns-clause-turns
returns-clause-turns c = rw c.in-Err.is (raw_told c.args.cursor.now c.mark-start.result c.read_one-answer.result c.read_one-answer.new.cursor
    c.mark-start.ensures c.read_one-answer.ensures.turns c.in-Err.error c.bare_fault.new.cursor c.bare_fault.ensures.turns)
