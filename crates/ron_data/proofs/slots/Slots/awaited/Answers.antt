use Rattle.std.proofs.Common.{◌≡◌, ◌<◌, [], length, sym, ap, ◌∙◌, arith}
use Rattle.std.proofs.lemmas.Bool.{ltb-true}
use Rattle.ron_data.proofs.SlotLemmas.{turn_at, own_name, none_else, none_yet}
use Rattle.ron_data.proofs.slots.Slots.awaited.Goals as goal

pub returns-in-Some-clause-turn : goal.returns-in-Some-clause-turn
returns-in-Some-clause-turn c =
    let none : c.args.self.now.others.items ≡ [] =
    none_else c.args.self.now.others.items (grind (arith, c.if-not-is_empty.ensures, c.args.self.now.others.ok.0)) in
    let turn = c.len-turn.ensures ∙ c.args.self.now.in_turn.ok.0 in
    let within : c.len-turn.result < length c.args.list.now.fields.items =
    omega (arith, ltb-true _ _ (sym c.in-Some.ensures.lookup.0), ap length c.as_slice-fields.ensures.value) in
    (none, turn, (within, none_yet c.args.self.now.in_turn.items c.args.self.now.others.items c.len-turn.result none turn))

pub returns-in-Some-clause-named : goal.returns-in-Some-clause-named
returns-in-Some-clause-named c =
    turn_at _ c.args.list.now.fields.items c.as_slice-fields.result.now c.len-turn.result c.in-Some.field.now c.as_slice-fields.ensures.value
    c.in-Some.ensures.lookup.0 c.in-Some.ensures.lookup.1 (own_name c.in-Some.field.now _ c.as_str.ensures.value) c.requires
