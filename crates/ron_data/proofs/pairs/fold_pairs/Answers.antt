use Rattle.ron_data.proofs.PairLemmas.{stay_folded, stay_among}
use Rattle.ron_data.proofs.pairs.fold_pairs.Goals as goal

pub returns-then-are_ascending-clause-value : goal.returns-then-are_ascending-clause-value
returns-then-are_ascending-clause-value c = stay_folded _ _ c.as_slice.ensures.value (c.are_ascending.ensures c.if-are_ascending.true)

pub returns-then-are_ascending-clause-parts : goal.returns-then-are_ascending-clause-parts
returns-then-are_ascending-clause-parts c = stay_among _ _ c.as_slice.ensures.value (c.are_ascending.ensures c.if-are_ascending.true)

pub returns-then-are_distinct-clause-value : goal.returns-then-are_distinct-clause-value
returns-then-are_distinct-clause-value c = stay_folded _ _ c.as_slice-then-len-le-FEW.ensures.value (c.are_distinct.ensures c.if-are_distinct.true)

pub returns-then-are_distinct-clause-parts : goal.returns-then-are_distinct-clause-parts
returns-then-are_distinct-clause-parts c = stay_among _ _ c.as_slice-then-len-le-FEW.ensures.value (c.are_distinct.ensures c.if-are_distinct.true)
