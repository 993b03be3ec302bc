use Rattle.std.proofs.Common.{rules, sym, subst}
use Rattle.ron_value.proofs.OrderedEntries.{AreOrdered, AreOrdered-nil}
use Rattle.ron_value.proofs.map.Map.from_many.Goals as goal

pub loop-key-init : goal.loop-key-init
loop-key-init c = record {
  content = search rules;
  ordered = λ parts. (subst AreOrdered (sym c.new-tree.ensures.empty) AreOrdered-nil, search rules);
}
