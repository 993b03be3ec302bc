use Rattle.ron_de_steps.proofs.AttributeCounts.{mark_and_gap}
use Rattle.ron_de_steps.proofs.attributes.take_mark.Goals as goal

pub returns-clause-turns : goal.returns-clause-turns
returns-clause-turns c = mark_and_gap c.args.mark c.args.cursor.now c.take.new.self c.pass_gap.result c.pass_gap.new.cursor c.take.ensures.turns
    c.if-not-take.ensures.taken c.pass_gap.ensures.turns c.pass_gap.ensures.rest
