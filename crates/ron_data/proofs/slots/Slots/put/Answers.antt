use Rattle.std.proofs.Common.{◌≡◌, ◌+◌, ℕ, List, [], ◌∷◌, Some, set, length, sym, ap, subst, ◌∙◌, arith}
use Rattle.std.proofs.lemmas.List.{length-append}
use Rattle.ron_data_schema.specs.declared.schema.FieldShape.{FieldShape}
use Rattle.ron_data.specs.Slots.{slots_of, so_far, AreNamed, IsNameAt}
use Rattle.ron_data.proofs.SlotLemmas.{none_else, named_more, put_in_turn}
use Rattle.ron_data.proofs.slots.Slots.put.Goals as goal

pub returns-then-is_empty-clause-slots : goal.returns-then-is_empty-clause-slots
returns-then-is_empty-clause-slots c =
    let none : c.args.self.now.others.items ≡ [] = none_else c.args.self.now.others.items (grind (arith, c.if-is_empty.ensures, c.args.self.now.others.ok.0)) in
    let turn : length c.args.self.now.in_turn.items ≡ c.args.index = omega (arith, c.if-index-turn.true, c.len-turn.ensures, c.args.self.now.in_turn.ok.0) in
    put_in_turn (length c.args.list.now.fields.items) c.args.self.now.in_turn.items c.push.new.self.items c.in-Some.name c.args.value
    c.args.self.now.others.items c.args.self.now.others.items (omega (arith, c.requires.free.0, turn)) none none c.in_ok-push.ensures.items
    ∙ ap (λ (i : ℕ). set (slots_of (length c.args.list.now.fields.items) (so_far c.args.self.now)) i (Some c.args.value)) turn

pub returns-then-is_empty-clause-named : goal.returns-then-is_empty-clause-named
returns-then-is_empty-clause-named c =
    let fields = c.args.list.now.fields.items in
    let made = c.args.self.now.in_turn.items in
    let turn : length made ≡ c.args.index = omega (arith, c.if-index-turn.true, c.len-turn.ensures, c.args.self.now.in_turn.ok.0) in
    let taken = subst (IsNameAt fields (length made)) (sym c.take.ensures.value ∙ c.in-Some.is) c.requires.named.1 in
    let named = named_more fields made (c.in-Some.name, c.args.value) c.requires.named.0 (omega (arith, c.requires.free.0, turn)) taken in
    let size : c.len-turn.result + 1 ≡ length c.push.new.self.items = omega (
      arith,
      ap length c.in_ok-push.ensures.items,
      length-append made ((c.in-Some.name, c.args.value) ∷ []),
      c.len-turn.ensures,
      c.args.self.now.in_turn.ok.0,
    ) in
    let next = subst (λ (fs : List FieldShape). IsNameAt fs (c.len-turn.result + 1) c.in_ok-self.field-0) c.as_slice.ensures.value c.in_ok-self.ensures.name in
    (subst (AreNamed fields) (sym c.in_ok-push.ensures.items) named, subst (λ (i : ℕ). IsNameAt fields i c.in_ok-self.field-0) size next)
