use Rattle.ron_spec_grammar.proofs.Values.Body.{sound, complete, any_gaps, unique, monotone, too_deep, bounded, value_spelled}
use Rattle.ron_spec_grammar.proofs.value_bodies_are_read_exactly.Goals as goal

pub returns-clause-exact : goal.returns-clause-exact
returns-clause-exact c u limit text t = (sound u limit text t, complete u limit text t)

pub returns-clause-any_gaps : goal.returns-clause-any_gaps
returns-clause-any_gaps c = any_gaps

pub returns-clause-unique : goal.returns-clause-unique
returns-clause-unique c = unique

pub returns-clause-monotone : goal.returns-clause-monotone
returns-clause-monotone c = monotone

pub returns-clause-deep : goal.returns-clause-deep
returns-clause-deep c = too_deep

pub returns-clause-values : goal.returns-clause-values
returns-clause-values c = value_spelled

pub returns-clause-bounded : goal.returns-clause-bounded
returns-clause-bounded c = bounded
