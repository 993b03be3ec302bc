use Rattle.std.proofs.Common.{rules}
use Rattle.std.specs.Ordering.{is_lt}
use Rattle.std.proofs.lemmas.List.Sorted.{answers_always}
use Rattle.ron_value.specs.View.{value_cmp}
use Rattle.ron_value.proofs.AscendingPairs.{by_neighbours}
use Rattle.ron_value.proofs.map.keys_ascend.Goals as goal

pub returns : goal.returns
returns c =
    by_neighbours _ _ (c.is_sorted_by.ensures.cases (λ x y. is_lt (value_cmp x.0 y.0)) (answers_always _ _ _ (λ f a r f' called. search rules)))
