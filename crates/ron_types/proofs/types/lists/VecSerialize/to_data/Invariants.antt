use Rattle.std.proofs.Common.{◌≡◌, map, take}
use Rattle.ron_data.specs.Datum.{data_view}
use Rattle.ron_types.specs.Lists.{Each}
use Rattle.ron_types.specs.OfTables.{IsOfOrdered}
use Rattle.ron_types.proofs.types.lists.VecSerialize.to_data.Given as goal

-- of the items passed: what they stand for, that it is accepted and kept, and of the schema
abbrev pub invariant-loop-item : goal.invariant-loop-item
invariant-loop-item g l = record {
  values : map data_view l.items.items ≡ map g.T.Schematic.data (take l.item-index l.item-items);
  accepted : Each g.T.Schematic.accepts l.items.items;
  kept : map (λ x. g.T.Schematic.normal (g.T.Schematic.data x)) (take l.item-index l.item-items) ≡ map g.T.Schematic.data (take l.item-index l.item-items);
  of_schema : Each (λ x. IsOfOrdered g.T.Schematic.schema_is (g.T.Schematic.data x)) (take l.item-index l.item-items);
}
