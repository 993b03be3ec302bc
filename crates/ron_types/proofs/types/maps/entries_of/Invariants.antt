use Rattle.std.proofs.Common.{◌≡◌, []}
use Rattle.std.specs.Vec.Iter.{into_iter_items}
use Rattle.ron_data.specs.Datum.{pairs_view}
use Rattle.ron_types.specs.Lists.{Each, Both}
use Rattle.ron_types.specs.Normal.{entries_data, entries_normal}
use Rattle.ron_types.proofs.types.maps.entries_of.Given as goal

-- the rest put into what is made is what all is; all is accepted where the rest is
abbrev pub invariant-loop-key : goal.invariant-loop-key
invariant-loop-key g l = record {
  values : entries_normal g.K.MapKey.key_cmp g.K.Schematic.normal g.V.Schematic.normal (entries_data g.K.Schematic.data g.V.Schematic.data l.entries.entries)
      (pairs_view (into_iter_items l.key-iterator))
      ≡ entries_normal g.K.MapKey.key_cmp g.K.Schematic.normal g.V.Schematic.normal [] (pairs_view l.fn.pairs.items);
  accepted : Each (Both g.K.Schematic.accepts g.V.Schematic.accepts) (into_iter_items l.key-iterator)
      → Each (Both g.K.Schematic.accepts g.V.Schematic.accepts) l.fn.pairs.items;
  accepts : Each (Both g.K.Schematic.accepts g.V.Schematic.accepts) l.fn.pairs.items
      → Each (Both g.K.Schematic.accepts g.V.Schematic.accepts) (into_iter_items l.key-iterator);
}
