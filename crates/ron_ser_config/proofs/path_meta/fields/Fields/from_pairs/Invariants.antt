use Rattle.std.proofs.Common.{◌≡◌, []}
use Rattle.std.specs.Vec.Iter.{into_iter_items}
use Rattle.ron_ser_config.specs.View.{entries}
use Rattle.ron_ser_config.specs.Entries.{with_entries}
use Rattle.ron_ser_config.proofs.path_meta.fields.Fields.from_pairs.Given as goal

abbrev pub invariant-loop-name : goal.invariant-loop-name
invariant-loop-name l = with_entries (into_iter_items l.name-iterator) (entries l.fields) ≡ with_entries l.fn.pairs.items []
