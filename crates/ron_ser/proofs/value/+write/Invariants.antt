use Rattle.ron_ser.specs.declared.container.Container.TheVariants as container
use Rattle.ron_ser.specs.Place.{inside}
use Rattle.ron_ser.specs.Stand.{place_of}
use Rattle.ron_ser.proofs.PlaceLemmas.{before_bytes}
use Rattle.ron_ser.proofs.ItemLemmas.{Stand}
use Rattle.ron_ser.proofs.RowLemmas.{inner_piece, pair_piece, field_piece}
use Rattle.ron_ser.proofs.value.+write.Given as goal

-- the items below i are written, and none of them was to be refused
abbrev pub invariant-write_items-loop-i : goal.invariant-write_items-loop-i
invariant-write_items-loop-i g l = Stand (before_bytes (place_of l.writing) l.container) (inner_piece (inside l.container (place_of l.writing))) g.O.Output.puts
    l.writing.limit l.i l.items l.initial.out l.out

-- the pairs below i likewise
abbrev pub invariant-write_pairs-loop-i : goal.invariant-write_pairs-loop-i
invariant-write_pairs-loop-i g l = Stand (before_bytes (place_of l.writing) container.Map) (pair_piece (inside container.Map (place_of l.writing)))
    g.O.Output.puts l.writing.limit l.i l.pairs l.initial.out l.out

-- the fields below i likewise
abbrev pub invariant-write_fields-loop-i : goal.invariant-write_fields-loop-i
invariant-write_fields-loop-i g l = Stand (before_bytes (place_of l.writing) (container.Struct l.bare))
    (field_piece (inside (container.Struct l.bare) (place_of l.writing))) g.O.Output.puts l.writing.limit l.i l.fields l.initial.out l.out
