use Rattle.std.proofs.Common.{sym, ap, ◌∙◌}
use Rattle.ron_spec_words.specs.Lookahead.{leads_to, opens_named_group}
use Rattle.ron_lex.proofs.TurnLemmas.{look_behind}
use Rattle.ron_lex.proofs.lookahead.opens_named_group.Goals as goal

pub returns-in-Ok-clause-value : goal.returns-in-Ok-clause-value
unfolding opens_named_group
returns-in-Ok-clause-value c = c.leads_to.ensures.value ∙ sym (ap (leads_to 40) c.in-Ok.ensures.value)

pub returns-in-Ok-clause-seen : goal.returns-in-Ok-clause-seen
returns-in-Ok-clause-seen c = look_behind c.in-Ok.ensures.seen c.leads_to.ensures.seen

pub returns-in-Err-clause-value : goal.returns-in-Err-clause-value
unfolding opens_named_group
returns-in-Err-clause-value c = sym (ap (leads_to 40) c.in-Err.ensures.value)

pub returns-in-Ok-clause-end : goal.returns-in-Ok-clause-end
returns-in-Ok-clause-end c = rw c.in-Ok.ensures.value c.leads_to.ensures.end

pub returns-in-Err-clause-end : goal.returns-in-Err-clause-end
returns-in-Err-clause-end c = rw c.in-Err.ensures.value tt
