use Rattle.std.proofs.Common.{◌≡◌, ◌<◌, ◌-◌, ℕ, Some, set, length, ap, subst, arith}
use Rattle.ron_data.proofs.SlotLemmas.{free_behind, put_other}
use Rattle.ron_data.proofs.slots.Slots.put_out_of_turn.Goals as goal

pub overflow_sub-index : goal.overflow_sub-index
overflow_sub-index c =
    let behind = free_behind c.args.self.now.in_turn.items c.args.self.now.others.items c.args.index c.requires.free.1 in
    omega (arith, behind, c.len-turn.ensures, c.args.self.now.in_turn.ok.0)

pub overflow_sub-index-2 : goal.overflow_sub-index-2
overflow_sub-index-2 c =
    let behind = free_behind c.args.self.now.in_turn.items c.args.self.now.others.items c.args.index c.requires.free.1 in
    omega (arith, behind, c.len-turn.ensures, c.args.self.now.in_turn.ok.0)

pub returns-clause-slots : goal.returns-clause-slots
returns-clause-slots c =
    let turn : c.len-turn.result ≡ length c.args.self.now.in_turn.items = omega (arith, c.len-turn.ensures, c.args.self.now.in_turn.ok.0) in
    let behind = free_behind c.args.self.now.in_turn.items c.args.self.now.others.items c.args.index c.requires.free.1 in
    let within : c.args.index - c.len-turn.result < length c.add_empty.new.slots.items =
    omega (arith, c.in_ok-add_empty.ensures.len, c.add_empty.new.slots.ok.0) in
    put_other (length c.args.list.now.fields.items) c.args.self.now.in_turn.items c.args.self.now.others.items c.add_empty.new.slots.items _ c.args.index
    c.args.value c.requires.free.0 behind c.in_ok-add_empty.ensures.slots
    (subst (λ (k : ℕ). c.args.index - k < length c.add_empty.new.slots.items) turn within)
    (ap (λ (k : ℕ). set c.add_empty.new.slots.items (c.args.index - k) (Some c.args.value)) turn)
