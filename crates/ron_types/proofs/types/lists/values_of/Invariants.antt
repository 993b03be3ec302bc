use Rattle.std.proofs.Common.{◌≡◌, ◌++◌, map}
use Rattle.std.specs.Vec.Iter.{into_iter_items}
use Rattle.ron_data.specs.Datum.{data_view}
use Rattle.ron_types.specs.Lists.{Each}
use Rattle.ron_types.proofs.types.lists.values_of.Given as goal

-- what is made so far, and what is to be made of the rest, is what is to be made of all; all is accepted where the rest is
abbrev pub invariant-loop-item : goal.invariant-loop-item
invariant-loop-item g l = record {
  values : map g.T.Schematic.data l.values.items ++ map (λ d. g.T.Schematic.normal (data_view d)) (into_iter_items l.item-iterator)
      ≡ map (λ d. g.T.Schematic.normal (data_view d)) l.fn.items.items;
  accepted : Each g.T.Schematic.accepts (into_iter_items l.item-iterator) → Each g.T.Schematic.accepts l.fn.items.items;
  accepts : Each g.T.Schematic.accepts l.fn.items.items → Each g.T.Schematic.accepts (into_iter_items l.item-iterator);
}
