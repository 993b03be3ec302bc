use Rattle.std.proofs.Common.{sym, refl, ◌∙◌}
use Rattle.ron_data.proofs.SlotLemmas.{turn_at}
use Rattle.ron_data.proofs.slots.by_name.has_name.Goals as goal

pub returns-in-Some : goal.returns-in-Some
returns-in-Some c same = turn_at _ c.args.fields.now c.args.fields.now c.args.index c.in-Some.field.now refl c.in-Some.ensures.lookup.0
    c.in-Some.ensures.lookup.1 (sym c.is_called.ensures ∙ same) c.requires
