use Rattle.ron_lex.proofs.TurnLemmas.{gap_look, past_gap_look}
use Rattle.ron_lex.proofs.lookahead.leads_to.Goals as goal

pub returns-clause-end : goal.returns-clause-end
returns-clause-end c = past_gap_look _ _ _ c.skip_gap-behind.ensures.value c.end_of_look.ensures

pub returns-clause-seen : goal.returns-clause-seen
returns-clause-seen c = gap_look _ _ _ c.skip_gap-behind.ensures.value c.end_of_look.ensures
