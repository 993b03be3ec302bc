use Rattle.ron_de_steps.proofs.NearLemmas.{nears_on, gap_nears, mark_nears, mark_right_parenthesis}
use Rattle.ron_de_parts.proofs.content.close_alone.Goals as goal

pub returns-then-take-clause-near : goal.returns-then-take-clause-near
returns-then-take-clause-near c = nears_on c.args.cursor.now c.pass_gap.new.cursor c.take.new.self (gap_nears _ _ c.in_ok-pass_gap.ensures.rest)
    (mark_nears 41 _ _ mark_right_parenthesis c.if-take.ensures.taken)
