use Rattle.std.proofs.Common.{◌-◌, length}
use Rattle.ron_value.specs.Entries.{ArePartsOrdered}
use Rattle.ron_value.proofs.SettledPairs.{Settled}
use Rattle.ron_value.proofs.map.Map.from_few.Given as goal

abbrev pub invariant-settled : goal.invariant-settled
invariant-settled l = record {
  state : ArePartsOrdered l.fn.pairs.items → Settled l.fn.pairs.items l.map.pairs.items l.settled;
}

abbrev pub decreases-settled : goal.decreases-settled
decreases-settled l = length l.map.pairs.items - l.settled
