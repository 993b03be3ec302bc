use Rattle.std.proofs.Common.{sym, ◌∙◌}
use Rattle.ron_data.proofs.SlotLemmas.{turn_at}
use Rattle.ron_data.proofs.slots.Slots.index_of.Goals as goal

pub returns-then-is_called : goal.returns-then-is_called
returns-then-is_called c =
    turn_at _ c.args.list.now.fields.items c.as_slice-fields.result.now c.next_index-next.result c.in-Some.field.now c.as_slice-fields.ensures.value
    c.in-Some.ensures.lookup.0 c.in-Some.ensures.lookup.1 (sym c.is_called.ensures ∙ c.if-is_called.true) c.requires
