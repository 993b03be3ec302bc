use Rattle.std.proofs.Common.{drop}
use Rattle.std.specs.Vec.Iter.{into_iter_items}
use Rattle.ron_data.specs.Slots.{slots_in}
use Rattle.ron_data.proofs.FilledLemmas.{Made}
use Rattle.ron_data.proofs.slots.Slots.with_others.Given as goal

abbrev pub invariant-loop-field : goal.invariant-loop-field
invariant-loop-field l =
    Made l.list.fields.items (slots_in l.list.fields.items l.fn.self) l.all.items (drop l.field-index l.behind) (into_iter_items l.others)
