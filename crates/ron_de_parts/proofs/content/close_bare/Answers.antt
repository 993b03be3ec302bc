use Rattle.ron_de_steps.proofs.NearLemmas.{mark_comma}
use Rattle.ron_de_parts.proofs.TurnLemmas.{nears_so, taken_nears}
use Rattle.ron_de_parts.proofs.content.close_bare.Goals as goal

pub returns-clause-near : goal.returns-clause-near
returns-clause-near c = nears_so c.args.cursor.now c.take.new.self c.close_alone.new.cursor c.close_alone.result
    (taken_nears 44 c.take.result c.args.cursor.now c.take.new.self mark_comma c.take.ensures.taken) c.close_alone.ensures.near
