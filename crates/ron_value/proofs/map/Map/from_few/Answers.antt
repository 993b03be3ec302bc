use Rattle.std.proofs.Common.{[], refl, arith}
use Rattle.ron_value.proofs.OrderedEntries.{AreOrdered-nil}
use Rattle.ron_value.proofs.SettledPairs.{settled-more}
use Rattle.ron_value.proofs.map.Map.from_few.Goals as goal

pub settled-init : goal.settled-init
settled-init c = record {
  state = λ parts. record { done = []; rest = c.args.pairs.items; parts = refl; count = refl; content = refl; ordered = AreOrdered-nil; others = parts };
}

pub settled-preserved : goal.settled-preserved
settled-preserved c = record {
  state = λ parts. settled-more c.args.pairs.items c.settled.map.pairs.items c.settle.new.pairs.items c.settled.settled c.in_ok-settled.settled
      (c.settled.invariant.state parts) (omega arith) c.in_ok-settled.ensures.content;
}
