use Rattle.ron_de_steps.proofs.NearLemmas.{gap_nears}
use Rattle.ron_de_parts.proofs.TurnLemmas.{nears_so}
use Rattle.ron_de_parts.proofs.content.close_content.Goals as goal

pub returns-clause-near : goal.returns-clause-near
returns-clause-near c = nears_so c.args.cursor.now c.pass_gap.new.cursor c.close_bare.new.cursor c.close_bare.result
    (gap_nears c.args.cursor.now c.pass_gap.new.cursor c.in_ok-pass_gap.ensures.rest) c.close_bare.ensures.near
