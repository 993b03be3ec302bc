use Rattle.ron_ser.specs.declared.container.Container.TheVariants as container
use Rattle.ron_ser.specs.Place.{inside}
use Rattle.ron_ser.specs.Stand.{place_of}
use Rattle.ron_ser.proofs.PlaceLemmas.{before_bytes}
use Rattle.ron_ser.proofs.ItemLemmas.{Stand}
use Rattle.ron_ser.proofs.ValueRows.{held_piece, entry_piece}
use Rattle.ron_ser.proofs.values.+write_any.Given as goal

-- the items below i are written, and none of them was to be refused
abbrev pub invariant-write_items-loop-i : goal.invariant-write_items-loop-i
invariant-write_items-loop-i g l = Stand (before_bytes (place_of l.writing) container.List) (held_piece (inside container.List (place_of l.writing)))
    g.O.Output.puts l.writing.limit l.i l.items l.initial.out l.out

-- the keys and values below i likewise
abbrev pub invariant-write_entries-loop-i : goal.invariant-write_entries-loop-i
invariant-write_entries-loop-i g l = Stand (before_bytes (place_of l.writing) container.Map) (entry_piece (inside container.Map (place_of l.writing)))
    g.O.Output.puts l.writing.limit l.i l.pairs l.initial.out l.out
