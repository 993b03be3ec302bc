use Rattle.std.proofs.Common.{sym}
use Rattle.ron_de_untyped.proofs.ValueLemmas.{pairs_ordered, map_ordered, mapped_is}
use Rattle.ron_de_untyped.proofs.ranges.map_of.Goals as goal

pub returns-clause-value : goal.returns-clause-value
returns-clause-value c =
    sym (mapped_is c.in_ok-from_pairs.field-0 c.args.pairs.items (c.in_ok-from_pairs.ensures.content (pairs_ordered c.args.pairs.items c.requires)))

pub returns-clause-order : goal.returns-clause-order
returns-clause-order c = map_ordered c.in_ok-from_pairs.field-0 (c.in_ok-from_pairs.ensures.ordered (pairs_ordered c.args.pairs.items c.requires))
