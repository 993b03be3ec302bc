use Rattle.ron_de_parts.proofs.AgainLemmas.{bare_again, both_again}
use Rattle.ron_de_parts.proofs.raw.fault_within.Goals as goal

pub returns-in-Ok-clause-turns : goal.returns-in-Ok-clause-turns
returns-in-Ok-clause-turns c = both_again c.args.start.now c.args.cursor.now c.requires c.pass_bare.result c.pass_bare.new.cursor c.pass_bare.ensures.turns
    c.return_to.new.self c.not_one.new.cursor c.return_to.ensures.place c.return_to.ensures.turns c.not_one.ensures.turns

pub returns-in-Err-clause-turns : goal.returns-in-Err-clause-turns
returns-in-Err-clause-turns c = bare_again c.args.start.now c.args.cursor.now c.requires c.pass_bare.result c.pass_bare.new.cursor c.pass_bare.ensures.turns
