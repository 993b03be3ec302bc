use Rattle.std.proofs.Common.{◌<◌, ◌≤◌, ◌-◌, ℕ, length, slice_get, sym, ap, ◌∙◌, arith}
use Rattle.ron_data.specs.Slots.{is_filled}
use Rattle.ron_data.proofs.SlotLemmas.{filled_before, filled_behind}
use Rattle.ron_data.proofs.slots.Slots.is_filled.Goals as goal

pub returns-then-index-turn : goal.returns-then-index-turn
returns-then-index-turn c =
    let lt : c.args.index < length c.args.self.now.in_turn.items = omega (arith, c.if-index-turn.true, c.len-turn.ensures, c.args.self.now.in_turn.ok.0) in
    sym (filled_before c.args.self.now.in_turn.items c.args.self.now.others.items c.args.index lt)

pub returns : goal.returns
returns c =
    let le : length c.args.self.now.in_turn.items ≤ c.args.index = omega (arith, c.if-index-turn.false, c.len-turn.ensures, c.args.self.now.in_turn.ok.0) in
    let turn = c.len-turn.ensures ∙ c.args.self.now.in_turn.ok.0 in
    c.is_full.ensures ∙ ap (λ others. is_filled (slice_get others (c.args.index - c.len-turn.result))) c.as_slice.ensures.value
    ∙ ap (λ (k : ℕ). is_filled (slice_get c.args.self.now.others.items (c.args.index - k))) turn
    ∙ ap is_filled (sym (filled_behind c.args.self.now.in_turn.items c.args.self.now.others.items c.args.index le))
