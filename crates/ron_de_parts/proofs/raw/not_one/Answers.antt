use Rattle.ron_de_parts.proofs.AgainLemmas.{reached_most}
use Rattle.ron_de_parts.proofs.raw.not_one.Goals as goal

pub returns-in-Ok-clause-turns : goal.returns-in-Ok-clause-turns
returns-in-Ok-clause-turns c = reached_most c.args.cursor.now c.pass_one.result c.pass_one.new.cursor c.pass_one.ensures.turns

pub returns-in-Ok-2-clause-turns : goal.returns-in-Ok-2-clause-turns
returns-in-Ok-2-clause-turns c = reached_most c.args.cursor.now c.pass_one.result c.pass_one.new.cursor c.pass_one.ensures.turns

pub returns-in-Err-clause-turns : goal.returns-in-Err-clause-turns
returns-in-Err-clause-turns c = reached_most c.args.cursor.now c.pass_one.result c.pass_one.new.cursor c.pass_one.ensures.turns
