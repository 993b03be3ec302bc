use Rattle.ron_lex_text.proofs.StretchLemmas.{literals}
use Rattle.ron_lex.proofs.TurnLemmas.{look_behind, behind_some, look_here}
use Rattle.ron_lex.proofs.lookahead.opens_some.Goals as goal

pub returns-in-Some-clause-seen : goal.returns-in-Some-clause-seen
unfolding literals
returns-in-Some-clause-seen c = look_behind (behind_some _ _ c.in-Some.ensures.joined) c.leads_to.ensures.seen

pub returns-in-None-clause-seen : goal.returns-in-None-clause-seen
returns-in-None-clause-seen c = look_here _
