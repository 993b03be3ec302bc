use Rattle.std.proofs.Common.{◌≡◌, ◌≤◌, ◌+◌, ◌-◌, ◌∷◌, ℕ, List, Some, take, drop, length, sym, ap, subst, ◌∙◌, arith}
use Rattle.std.specs.List.{All, Contains}
use Rattle.std.proofs.lemmas.List.{drop_more, length-drop}
use Rattle.std.specs.Vec.Iter.{into_iter_items, into_iter_len}
use Rattle.ron_data_schema.specs.declared.schema.FieldShape.{FieldShape}
use Rattle.ron_data.specs.Datum.{fields_view}
use Rattle.ron_data.specs.Slots.{slots_in}
use Rattle.ron_data.proofs.SlotLemmas.{named_within, all_behind}
use Rattle.ron_data.proofs.FilledLemmas.{made_in_turn, made_more, made_without, all_made, next_slot}
use Rattle.ron_data.proofs.slots.Slots.with_others.Goals as goal

pub slice_bounds-behind-start : goal.slice_bounds-behind-start
slice_bounds-behind-start c =
    let le : c.len.result ≤ length c.as_slice.result.now = omega (
      arith,
      named_within c.args.list.now.fields.items c.args.self.in_turn.items c.requires.named.0,
      c.len.ensures,
      c.args.self.in_turn.ok.0,
      ap length c.as_slice.ensures.value,
    ) in
    le

pub slice_bounds-behind-count : goal.slice_bounds-behind-count
slice_bounds-behind-count c = omega (
  arith,
  named_within c.args.list.now.fields.items c.args.self.in_turn.items c.requires.named.0,
  c.len.ensures,
  c.args.self.in_turn.ok.0,
  ap length c.as_slice.ensures.value,
)

pub loop-field-init : goal.loop-field-init
loop-field-init c =
    let turn : c.len.result ≡ length c.args.self.in_turn.items = omega (arith, c.len.ensures, c.args.self.in_turn.ok.0) in
    let behind = all_behind c.len.result c.as_slice.result.now ∙ ap (drop c.len.result) c.as_slice.ensures.value
    ∙ ap (λ (k : ℕ). drop k c.args.list.now.fields.items) turn in
    made_in_turn c.args.list.now.fields.items _ c.args.self.in_turn.items c.args.self.others.items _ c.requires.named.0 behind c.into_iter-others.ensures.rest

pub loop-field-preserved-in_default : goal.loop-field-preserved-in_default
loop-field-preserved-in_default c =
    let behind : List FieldShape = take (length c.as_slice.result.now - c.len.result) (drop c.len.result c.as_slice.result.now) in
    let i = c.loop-field.field-index in
    let field = c.field-item.result in
    let here : drop i behind ≡ field ∷ drop (i + 1) behind =
    drop_more behind i field (omega (arith, c.loop-field-test.true)) ∙ ap (λ (f : FieldShape). f ∷ drop (i + 1) behind) (sym c.field-item.is) in
    made_without _ _ _ _ _ c.loop-field.invariant _ _ field c.next.result _ here
    (next_slot (into_iter_items c.loop-field.others) (into_iter_items c.next.new.self) (into_iter_len c.loop-field.others) (into_iter_len c.next.new.self)
    c.next.result (omega (arith, c.loop-field.others.rest.ok.0)) (omega (arith, c.next.new.self.rest.ok.0)) c.next.ensures.cases)
    c.flatten.ensures c.in_default.is c.in_ok-leave_out.ensures

pub loop-field-preserved : goal.loop-field-preserved
loop-field-preserved c =
    let behind : List FieldShape = take (length c.as_slice.result.now - c.len.result) (drop c.len.result c.as_slice.result.now) in
    let i = c.loop-field.field-index in
    let field = c.field-item.result in
    let here : drop i behind ≡ field ∷ drop (i + 1) behind =
    drop_more behind i field (omega (arith, c.loop-field-test.true)) ∙ ap (λ (f : FieldShape). f ∷ drop (i + 1) behind) (sym c.field-item.is) in
    made_more _ _ _ _ _ c.loop-field.invariant _ _ field c.next.result _ here
    (next_slot (into_iter_items c.loop-field.others) (into_iter_items c.next.new.self) (into_iter_len c.loop-field.others) (into_iter_len c.next.new.self)
    c.next.result (omega (arith, c.loop-field.others.rest.ok.0)) (omega (arith, c.next.new.self.rest.ok.0)) c.next.ensures.cases)
    c.flatten.ensures _ _ _ c.in-Some.is (c.in_ok-name.ensures.ok ∙ c.as_str.ensures.value) c.in_ok-push.ensures.items

pub returns-clause-value : goal.returns-clause-value
returns-clause-value c =
    let behind : List FieldShape = take (length c.as_slice.result.now - c.len.result) (drop c.len.result c.as_slice.result.now) in
    let over : length (drop c.loop-field.field-index behind) ≡ 0 = omega (arith, length-drop c.loop-field.field-index behind, c.loop-field-test.false) in
    all_made _ _ _ _ _ c.loop-field.invariant over ∙ ap (λ made. Some (fields_view made)) (sym c.give_up_room.ensures)

pub returns-clause-parts : goal.returns-clause-parts
returns-clause-parts c =
    subst (All (λ f. Contains (slots_in c.args.list.now.fields.items c.args.self) (Some f.1))) (sym c.give_up_room.ensures) c.loop-field.invariant.parts
