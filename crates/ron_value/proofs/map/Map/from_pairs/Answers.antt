use Rattle.std.proofs.Common.{sym, subst}
use Rattle.std.specs.List.Sorted.{IsStrictlySortedBy}
use Rattle.std.specs.Map.{keys_of}
use Rattle.ron_value.specs.View.{value_cmp}
use Rattle.ron_value.specs.Entries.{Entries}
use Rattle.ron_value.proofs.AscendingPairs.{put_in_order, ordered_in_order}
use Rattle.ron_value.proofs.map.Map.from_pairs.Goals as goal

-- what is asked of the pairs' slice holds of the pairs
ascend : (c : goal.Then-keys_ascend) → IsStrictlySortedBy value_cmp (keys_of c.args.pairs.items)
ascend c = subst (λ (es : Entries). IsStrictlySortedBy value_cmp (keys_of es)) c.deref.ensures.value (c.keys_ascend.ensures.0 c.if-keys_ascend.true)

pub returns-then-keys_ascend-clause-content : goal.returns-then-keys_ascend-clause-content
returns-then-keys_ascend-clause-content c parts = sym (put_in_order c.args.pairs.items (ascend c))

pub returns-then-keys_ascend-clause-ordered : goal.returns-then-keys_ascend-clause-ordered
returns-then-keys_ascend-clause-ordered c parts = ordered_in_order c.args.pairs.items (ascend c) parts
