use Rattle.std.proofs.Common.{◌≡◌, ◌++◌, map}
use Rattle.ron_data.specs.Datum.{pair_view}
use Rattle.ron_types.specs.Lists.{Each, Both}
use Rattle.ron_types.specs.Normal.{entries_data}
use Rattle.ron_types.proofs.MapLemmas.{IsWritten}
use Rattle.ron_types.proofs.types.maps.BTreeMapSerialize.to_data.Given as goal

-- the data of what is passed, and of the rest, are those of all; that of what is passed is accepted; all is written where the rest is
abbrev pub invariant-loop-key : goal.invariant-loop-key
invariant-loop-key g l = record {
  values : map pair_view l.pairs.items ++ entries_data g.K.Schematic.data g.V.Schematic.data l.key-iterator
      ≡ entries_data g.K.Schematic.data g.V.Schematic.data l.self.entries;
  accepted : Each (Both g.K.Schematic.accepts g.V.Schematic.accepts) l.pairs.items;
  written : Each (IsWritten g.K.Schematic.data g.V.Schematic.data g.K.Schematic.normal g.V.Schematic.normal g.K.Schematic.schema_is g.V.Schematic.schema_is)
      l.key-iterator
      → Each (IsWritten g.K.Schematic.data g.V.Schematic.data g.K.Schematic.normal g.V.Schematic.normal g.K.Schematic.schema_is g.V.Schematic.schema_is)
      l.self.entries;
}
