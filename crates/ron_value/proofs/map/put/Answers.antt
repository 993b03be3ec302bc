use Rattle.std.proofs.Common.{sym, subst}
use Rattle.ron_value.proofs.OrderedEntries.{AreOrdered, AreOrdered-with_entry}
use Rattle.ron_value.proofs.map.put.Goals as goal

pub returns-clause-ordered : goal.returns-clause-ordered
returns-clause-ordered c ordered key value =
    subst AreOrdered (sym c.in_ok-insert.ensures.entries) (AreOrdered-with_entry c.args.key c.args.value _ ordered key value)
