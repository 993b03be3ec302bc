use Rattle.std.proofs.Common.{◌≡◌, ◌+◌, ◌-◌, ◌^◌, ◌<◌, ◌≤◌, length, Less, Greater}
use Rattle.std.specs.List.{AllWithin}
use Rattle.ron_value.specs.View.{value_cmp}
use Rattle.ron_value.specs.Probes.{binary_digits}
use Rattle.ron_value.proofs.OrderedEntries.{AreOrdered}
use Rattle.ron_value.proofs.map.search.probe.Given as goal

abbrev pub invariant-loop-low : goal.invariant-loop-low
invariant-loop-low l = record {
  in_order : l.low ≤ l.high;
  in_range : l.high ≤ length l.pairs;
  in_memory : length l.pairs < 2 ^ 64;
  probes : l.probes + binary_digits (l.high - l.low) ≤ binary_digits (length l.pairs);
  before : AreOrdered l.pairs → AllWithin (λ y. value_cmp y.0 l.key ≡ Less) l.pairs 0 l.low;
  behind : AreOrdered l.pairs → AllWithin (λ y. value_cmp y.0 l.key ≡ Greater) l.pairs l.high (length l.pairs);
}

abbrev pub decreases-loop-low : goal.decreases-loop-low
decreases-loop-low l = l.high - l.low
