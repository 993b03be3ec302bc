use Rattle.std.proofs.Common.{◌≡◌, ℕ, suc, true, List, [], Option, refl, sym, ap, subst, ◌∙◌, arith, rules, string_bytes, false, option_map, replicate, length, get_or, Some, IfSome}
use Rattle.std.proofs.lemmas.Result.{err_from_is_err_and}
use Rattle.std.specs.Option.{option_and_then}
use Rattle.std.specs.Vec.Iter.{into_iter_items}
use Rattle.ron_spec_grammar.specs.Values.Conversion.{into, mapping_as, sequence_as, all_into, each_into, only_into, pairs_into, fields_into, bytes_among}
use Rattle.ron_value.specs.Tree as tree
use Rattle.ron_value.specs.View.{tree_of, entries}
use Rattle.ron_value.specs.Walk.{owned_left}
use Rattle.ron_data_schema.specs.Table.{shapes_of}
use Rattle.ron_data.specs.Datum.{data_view, items_view}
use Rattle.ron_data_schema.specs.Shapes.{field_view, struct_view, list_view}
use Rattle.ron_spec_grammar.specs.Schema as schema
use Rattle.ron_spec_grammar.specs.Data as plain
use Rattle.ron_spec_grammar.specs.Shapes.Struct.{Item, arranged}
use Rattle.ron_data_convert.specs.Becomes.{moves_into, shape_seen, items_tree, pairs_tree}
use Rattle.ron_data_convert.specs.Misfits.{misfit, pairs_misfit, fields_misfit, mapping_misfit}
use Rattle.ron_data.specs.Slots.{slots_in, IsFree}
use Rattle.ron_data.proofs.SlotLemmas.{slots_for, none_in}
use Rattle.ron_data_convert.specs.Places.{IsNameOf, slots_at}
use Rattle.ron_data_convert.specs.Slots.{Names}
use Rattle.ron_data_convert.proofs.BecomesLemmas.{becomes_eq, memory_or_more, refuses}
use Rattle.ron_data_convert.proofs.ItemLemmas.{all_more, all_behind, all_refused, all_done, each_more, FirstOfEach, first_of_each, each_behind, each_refused}
use Rattle.ron_data_convert.proofs.ItemLemmas.{each_done, uneven, uneven_misfit, not_one, not_one_misfit, the_one, the_one_misfit, pair_more, pair_behind}
use Rattle.ron_data_convert.proofs.ItemLemmas.{key_misfits, value_misfits, all_pairs}
use Rattle.ron_data_convert.proofs.PlaceLemmas.{places_begin, slots_begin_at, flags_of}
use Rattle.ron_data_convert.proofs.FieldLemmas.{SlotsSoFar, slots_begin, key_refuses, slot_skipped, slot_more, value_refuses, all_slots, lacks_one, field_here}
use Rattle.ron_data_convert.proofs.SizeLemmas.{size, items_size, pairs_size, item_within, entry_within}
use Rattle.ron_data_convert.proofs.ShapeLemmas.{into_as, fields_made, becomes_fields, struct_misfit, no_struct, the_struct, the_some, sequence_stays, mapping_stays}
use Rattle.ron_data_convert.proofs.TreeLemmas.{of_map, of_seq}
use Rattle.ron_data_convert.proofs.convert.+convert.Goals as goal

-- ---- lists

pub all_items-loop-item-preserved : goal.all_items-loop-item-preserved
all_items-loop-item-preserved t c =
    let step = c.in-Some.ensures.steps.0 in
    record {
      gone = all_more (shapes_of c.args.schema.now) c.args.index c.args.items.items c.loop-item.all.items (into_iter_items c.loop-item.item-iterator)
          (into_iter_items c.next.new.self) c.in-Some.item c.loop-item.invariant.gone step c.push.new.self.items c.in_ok-data.data c.in_ok-data.ensures.value
          c.in_ok-push.ensures.items;
      first = all_behind (shapes_of c.args.schema.now) c.args.index c.args.items.items c.loop-item.all.items (into_iter_items c.loop-item.item-iterator)
          (into_iter_items c.next.new.self) c.in-Some.item c.loop-item.invariant.gone step c.in_ok-data.data c.in_ok-data.ensures.value
          c.loop-item.invariant.first;
      smaller = omega (arith, c.loop-item.invariant.smaller, item_within _ _ c.in-Some.item step);
    }

pub all_items-returns-in_err-data : goal.all_items-returns-in_err-data
all_items-returns-in_err-data t c =
    let p = err_from_is_err_and c.from_residual-in_err-data.result c.from_residual-in_err-data.ensures.1 in
    rw (p.1, p.2) (all_refused (shapes_of c.args.schema.now) c.args.index c.args.items.items c.loop-item.all.items (into_iter_items c.loop-item.item-iterator)
    (into_iter_items c.next.new.self) c.in-Some.item c.loop-item.invariant.gone c.in-Some.ensures.steps.0 c.in_err-data.field-0.0
    c.loop-item.invariant.first c.in_err-data.ensures.value)

pub all_items-returns : goal.all_items-returns
all_items-returns t c =
    all_done (shapes_of c.args.schema.now) c.args.index c.args.items.items c.loop-item.all.items (into_iter_items c.loop-item.item-iterator) c.loop-item.invariant.gone
    (omega (arith, c.loop-item.item-iterator.rest.ok.0, c.in-None.ensures.steps.0))

pub each_item-returns-then-len-shapes : goal.each_item-returns-then-len-shapes
each_item-returns-then-len-shapes t c =
    let other : length c.args.items.items ≡ length c.args.shapes.now → ⊥ = λ e. omega (arith, e, c.if-len-shapes.true, c.len.ensures, c.args.items.ok.0) in
    refuses (λ all. items_view all.items) _ _ _ c.another_length.result (uneven (shapes_of c.args.schema.now) c.args.shapes.now c.args.items.items other)
    (uneven_misfit (shapes_of c.args.schema.now) c.args.shapes.now c.args.items.items other) c.another_length.ensures

pub each_item-loop-item-init : goal.each_item-loop-item-init
each_item-loop-item-init t c =
    let all = c.into_iter-item-iterator.ensures.into_iter_gives.0 in
    let even : length c.args.items.items ≡ length c.args.shapes.now = omega (arith, c.if-len-shapes.false, c.len.ensures, c.len-2.ensures, c.args.items.ok.0) in
    record {
      gone = search rules;
      first = subst (FirstOfEach (shapes_of c.args.schema.now) c.args.shapes.now c.args.items.items c.args.shapes.now) (sym all) (first_of_each (shapes_of c.args.schema.now) c.args.shapes.now c.args.items.items even);
      as_many = omega (arith, even, ap length all);
      smaller = omega (arith, ap (λ values. items_size (items_tree values)) all);
    }

pub each_item-loop-item-preserved : goal.each_item-loop-item-preserved
each_item-loop-item-preserved t c =
    let shape_step = c.in-Some-split_first.ensures.cases.0 in
    let item_step = c.in-Some.ensures.steps.0 in
    record {
      gone = each_more (shapes_of c.args.schema.now) c.args.shapes.now c.args.items.items c.loop-item.all.items c.loop-item.left.now
          c.in-Some-split_first.others.now (into_iter_items c.loop-item.item-iterator) (into_iter_items c.next.new.self)
          c.in-Some-split_first.shape.now c.in-Some.item c.loop-item.invariant.gone shape_step item_step c.push.new.self.items c.in_ok-data.data c.in_ok-data.ensures.value c.in_ok-push.ensures.items;
      first = each_behind (shapes_of c.args.schema.now) c.args.shapes.now c.args.items.items c.loop-item.all.items c.loop-item.left.now
          c.in-Some-split_first.others.now (into_iter_items c.loop-item.item-iterator) (into_iter_items c.next.new.self)
          c.in-Some-split_first.shape.now c.in-Some.item c.loop-item.invariant.gone shape_step item_step c.in_ok-data.data c.in_ok-data.ensures.value c.loop-item.invariant.first;
      as_many = omega (arith, c.loop-item.invariant.as_many, ap length shape_step, ap length item_step);
      smaller = omega (arith, c.loop-item.invariant.smaller, item_within _ _ c.in-Some.item item_step);
    }

pub each_item-returns-in_err-data : goal.each_item-returns-in_err-data
each_item-returns-in_err-data t c =
    let p = err_from_is_err_and c.from_residual-in_err-data.result c.from_residual-in_err-data.ensures.1 in
    rw (p.1, p.2) (each_refused (shapes_of c.args.schema.now) c.args.shapes.now c.args.items.items c.loop-item.all.items c.loop-item.left.now
    c.in-Some-split_first.others.now (into_iter_items c.loop-item.item-iterator) (into_iter_items c.next.new.self)
    c.in-Some-split_first.shape.now c.in-Some.item c.loop-item.invariant.gone c.in-Some-split_first.ensures.cases.0 c.in-Some.ensures.steps.0 c.in_err-data.field-0.0 c.loop-item.invariant.first c.in_err-data.ensures.value)

pub each_item-returns : goal.each_item-returns
each_item-returns t c =
    let none : length (into_iter_items c.loop-item.item-iterator) ≡ 0 = omega (arith, c.loop-item.item-iterator.rest.ok.0, c.in-None.ensures.steps.0) in
    each_done (shapes_of c.args.schema.now) c.args.shapes.now c.args.items.items c.loop-item.all.items c.loop-item.left.now
    (into_iter_items c.loop-item.item-iterator) c.loop-item.invariant.gone (omega (arith, c.loop-item.invariant.as_many, none)) none

pub only_item-returns-then-len-ne1 : goal.only_item-returns-then-len-ne1
only_item-returns-then-len-ne1 t c =
    let other : length c.args.items.items ≡ 1 → ⊥ = λ e. omega (arith, e, c.if-len-ne1.true, c.len.ensures, c.args.items.ok.0) in
    refuses data_view _ _ _ c.another_length.result (not_one (shapes_of c.args.schema.now) c.args.index c.args.items.items other) (not_one_misfit (shapes_of c.args.schema.now) c.args.index c.args.items.items other) c.another_length.ensures

pub only_item-returns : goal.only_item-returns
only_item-returns t c =
    let one : length c.args.items.items ≡ 1 = omega (arith, c.if-len-ne1.false, c.len.ensures, c.args.items.ok.0) in
    becomes_eq data_view _ _ _ _ c.convert.result (the_one (shapes_of c.args.schema.now) c.args.index c.args.items.items c.swap_remove.result one c.swap_remove.ensures.value)
    (the_one_misfit (shapes_of c.args.schema.now) c.args.index c.args.items.items c.swap_remove.result one c.swap_remove.ensures.value) c.convert.ensures.value

-- ---- options

pub some-returns-in_ok-new-in-Some-Option-clause-value : goal.some-returns-in_ok-new-in-Some-Option-clause-value
some-returns-in_ok-new-in-Some-Option-clause-value t c =
    let seen : shape_seen c.args.shape ≡ Some (schema.optional c.in-Some-Option.content) = search rules in
    the_some (λ j. into (shapes_of c.args.schema.now) j (tree_of c.args.held)) (shape_seen c.args.shape) c.in-Some-Option.content
    c.in_ok-data-in-Some-Option.data c.in_ok-new-in-Some-Option.field-0 seen c.in_ok-data-in-Some-Option.ensures.value c.in_ok-new-in-Some-Option.ensures.ok

-- ---- pairs

pub pairs-loop-key-preserved : goal.pairs-loop-key-preserved
pairs-loop-key-preserved t c =
    let step = c.in-Some.ensures.steps in
    record {
      gone = pair_more (shapes_of c.args.schema.now) c.args.key_index c.args.value_index (entries c.args.held) c.loop-key.all.items
          (owned_left c.loop-key.key-iterator) (owned_left c.next.new.self) (c.in-Some.key, c.in-Some.value) c.loop-key.invariant.gone step
          c.push.new.self.items (c.in_ok-key.key, c.in_ok-value.value) c.in_ok-key.ensures.value c.in_ok-value.ensures.value c.in_ok-push.ensures.items;
      first = pair_behind (shapes_of c.args.schema.now) c.args.key_index c.args.value_index (entries c.args.held) c.loop-key.all.items
          (owned_left c.loop-key.key-iterator) (owned_left c.next.new.self) (c.in-Some.key, c.in-Some.value) c.loop-key.invariant.gone step
          (c.in_ok-key.key, c.in_ok-value.value) c.in_ok-key.ensures.value c.in_ok-value.ensures.value c.loop-key.invariant.first;
      smaller = omega (arith, c.loop-key.invariant.smaller, entry_within _ _ (c.in-Some.key, c.in-Some.value) step);
    }

pub pairs-returns-in_err-key : goal.pairs-returns-in_err-key
pairs-returns-in_err-key t c =
    let p = err_from_is_err_and c.from_residual-in_err-key.result c.from_residual-in_err-key.ensures.1 in
    rw (p.1, p.2) (key_misfits (shapes_of c.args.schema.now) c.args.key_index c.args.value_index (entries c.args.held) c.loop-key.all.items
    (owned_left c.loop-key.key-iterator) (owned_left c.next.new.self) (c.in-Some.key, c.in-Some.value) c.loop-key.invariant.gone c.in-Some.ensures.steps
    c.in_err-key.field-0.0 c.loop-key.invariant.first c.in_err-key.ensures.value)

pub pairs-returns-in_err-value : goal.pairs-returns-in_err-value
pairs-returns-in_err-value t c =
    let p = err_from_is_err_and c.from_residual-in_err-value.result c.from_residual-in_err-value.ensures.1 in
    rw (p.1, p.2) (value_misfits (shapes_of c.args.schema.now) c.args.key_index c.args.value_index (entries c.args.held) c.loop-key.all.items
    (owned_left c.loop-key.key-iterator) (owned_left c.next.new.self) (c.in-Some.key, c.in-Some.value) c.loop-key.invariant.gone c.in-Some.ensures.steps
    c.in_err-value.field-0.0 c.in_ok-key.key c.loop-key.invariant.first c.in_ok-key.ensures.value c.in_err-value.ensures.value)

pub pairs-returns : goal.pairs-returns
pairs-returns t c =
    all_pairs (shapes_of c.args.schema.now) c.args.key_index c.args.value_index (entries c.args.held) c.loop-key.all.items (owned_left c.loop-key.key-iterator) c.loop-key.invariant.gone c.in-None.ensures.steps.0

-- ---- fields

pub slots-loop-key-init : goal.slots-loop-key-init
slots-loop-key-init t c =
    let all = c.into_iter-key-iterator.ensures.into_iter_gives in
    record {
      named = slots_for c.args.list.now.fields.items c.in_ok-slots.slots c.in_ok-slots.ensures.empty;
      so_far = subst (SlotsSoFar (shapes_of c.args.schema.now) (list_view c.args.list.now) (entries c.args.held) (slots_in c.args.list.now.fields.items c.in_ok-slots.slots)) (sym all)
          (slots_begin (shapes_of c.args.schema.now) c.args.list.now (entries c.args.held) _ (none_in c.args.list.now.fields.items c.in_ok-slots.slots c.in_ok-slots.ensures.empty));
      smaller = omega (arith, ap (λ es. pairs_size (pairs_tree es)) all);
    }

pub slots-loop-key-preserved-in_default : goal.slots-loop-key-preserved-in_default
slots-loop-key-preserved-in_default t c =
    let step = c.in-Some.ensures.steps in
    let h = c.loop-key.invariant.so_far in
    record {
      named = c.loop-key.invariant.named;
      so_far =
          slot_skipped (shapes_of c.args.schema.now) (list_view c.args.list.now) (entries c.args.held) (slots_in c.args.list.now.fields.items c.loop-key.slots)
          (owned_left c.loop-key.key-iterator) (owned_left c.next.new.self) (c.in-Some.key, c.in-Some.value) h step
          (subst (Names (list_view c.args.list.now) h.seen (tree_of c.in-Some.key)) c.in_default.is (c.in_ok-index.ensures.value h.seen h.are_slots));
      smaller = omega (arith, c.loop-key.invariant.smaller, entry_within _ _ (c.in-Some.key, c.in-Some.value) step);
    }

pub slots-loop-key-preserved : goal.slots-loop-key-preserved
slots-loop-key-preserved t c =
    let step = c.in-Some.ensures.steps in
    let h = c.loop-key.invariant.so_far in
    let free : IsFree c.args.list.now.fields.items c.loop-key.slots c.in-Some-2.index = subst (λ o. IfSome o (IsFree c.args.list.now.fields.items c.loop-key.slots)) c.in-Some-2.is c.in_ok-index.ensures.index in
    record {
      named = c.in_ok-put.ensures.named;
      so_far =
          slot_more (shapes_of c.args.schema.now) (list_view c.args.list.now) (entries c.args.held) (slots_in c.args.list.now.fields.items c.loop-key.slots)
          (owned_left c.loop-key.key-iterator) (owned_left c.next.new.self) (c.in-Some.key, c.in-Some.value) h step
          c.in-Some-2.index (field_view (get_or c.as_slice-fields.result.now c.in-Some-2.index c.index-fields-index.result))
          (subst (Names (list_view c.args.list.now) h.seen (tree_of c.in-Some.key)) c.in-Some-2.is (c.in_ok-index.ensures.value h.seen h.are_slots))
          (field_here c.args.list.now.fields.items c.as_slice-fields.result.now c.in-Some-2.index c.index-fields-index.result c.as_slice-fields.ensures.value free.0)
          (slots_in c.args.list.now.fields.items c.put.new.self) c.in_ok-data.data c.requires.1.1 c.in_ok-data.ensures.value c.in_ok-put.ensures.slots;
      smaller = omega (arith, c.loop-key.invariant.smaller, entry_within _ _ (c.in-Some.key, c.in-Some.value) step);
    }

pub slots-returns-in_err-data-clause-value : goal.slots-returns-in_err-data-clause-value
slots-returns-in_err-data-clause-value t c =
    let p = err_from_is_err_and c.from_residual-in_err-data.result c.from_residual-in_err-data.ensures.1 in
    let h = c.loop-key.invariant.so_far in
    let free : IsFree c.args.list.now.fields.items c.loop-key.slots c.in-Some-2.index = subst (λ o. IfSome o (IsFree c.args.list.now.fields.items c.loop-key.slots)) c.in-Some-2.is c.in_ok-index.ensures.index in
    rw (p.1, p.2) (value_refuses (shapes_of c.args.schema.now) (list_view c.args.list.now) (entries c.args.held)
    (slots_in c.args.list.now.fields.items c.loop-key.slots) (owned_left c.loop-key.key-iterator) (owned_left c.next.new.self) (c.in-Some.key, c.in-Some.value)
    h c.in-Some.ensures.steps
    c.in-Some-2.index (field_view (get_or c.as_slice-fields.result.now c.in-Some-2.index c.index-fields-index.result))
    (subst (Names (list_view c.args.list.now) h.seen (tree_of c.in-Some.key)) c.in-Some-2.is (c.in_ok-index.ensures.value h.seen h.are_slots))
    (field_here c.args.list.now.fields.items c.as_slice-fields.result.now c.in-Some-2.index c.index-fields-index.result c.as_slice-fields.ensures.value free.0)
    c.in_err-data.field-0.0 c.in_err-data.ensures.value)

pub slots-returns-in_err-index-clause-value : goal.slots-returns-in_err-index-clause-value
slots-returns-in_err-index-clause-value t c =
    let p = err_from_is_err_and c.from_residual-in_err-index.result c.from_residual-in_err-index.ensures.1 in
    let h = c.loop-key.invariant.so_far in
    rw (p.1, p.2) (key_refuses (shapes_of c.args.schema.now) (list_view c.args.list.now) (entries c.args.held)
    (slots_in c.args.list.now.fields.items c.loop-key.slots) (owned_left c.loop-key.key-iterator) (owned_left c.next.new.self) (c.in-Some.key, c.in-Some.value)
    h c.in-Some.ensures.steps
    c.in_err-index.field-0.0 (c.in_err-index.ensures.value h.seen h.are_slots))

pub slots-returns-clause-value : goal.slots-returns-clause-value
slots-returns-clause-value t c =
    all_slots (shapes_of c.args.schema.now) (list_view c.args.list.now) (entries c.args.held) (slots_in c.args.list.now.fields.items c.loop-key.slots)
    (owned_left c.loop-key.key-iterator) c.loop-key.invariant.so_far c.in-None.ensures.steps.0

-- ---- few fields

pub fields-loop-key-init : goal.fields-loop-key-init
fields-loop-key-init t c =
    let all = c.into_iter-key-iterator.ensures.into_iter_gives in
    record {
      few = omega (arith, c.if-len-gt-FEW.false, c.len.ensures, c.args.list.now.fields.ok.0);
      places = places_begin c.args.list.now.fields.items (replicate 32 false) c.in_ok-all.all.items refl c.in_ok-all.ensures.items;
      so_far = subst (SlotsSoFar (shapes_of c.args.schema.now) (list_view c.args.list.now) (entries c.args.held) (slots_at c.args.list.now.fields.items (replicate 32 false) c.in_ok-all.all.items)) (sym all)
          (slots_begin (shapes_of c.args.schema.now) c.args.list.now (entries c.args.held) _ (slots_begin_at c.args.list.now.fields.items (replicate 32 false) c.in_ok-all.all.items c.in_ok-all.ensures.items));
      smaller = omega (arith, ap (λ es. pairs_size (pairs_tree es)) all);
    }

pub fields-returns-in_err-index : goal.fields-returns-in_err-index
fields-returns-in_err-index t c =
    let p = err_from_is_err_and c.from_residual-in_err-index.result c.from_residual-in_err-index.ensures.1 in
    let h = c.loop-key.invariant.so_far in
    let flags = flags_of c.args.list.now.fields.items c.loop-key.is_filled c.loop-key.all.items c.loop-key.invariant.places in
    rw (p.1, p.2) (memory_or_more c.in_err-index.field-0.0 (λ _. refl) (λ none. ap (option_and_then (arranged (list_view c.args.list.now).fields)) none)
    (key_refuses (shapes_of c.args.schema.now) (list_view c.args.list.now) (entries c.args.held)
    (slots_at c.args.list.now.fields.items c.loop-key.is_filled c.loop-key.all.items) (owned_left c.loop-key.key-iterator) (owned_left c.next.new.self) (c.in-Some.key, c.in-Some.value) h c.in-Some.ensures.steps
    c.in_err-index.field-0.0 (c.in_err-index.ensures.value h.seen _ flags h.are_slots)))

pub fields-loop-key-preserved-in_default : goal.fields-loop-key-preserved-in_default
fields-loop-key-preserved-in_default t c =
    let step = c.in-Some.ensures.steps in
    let h = c.loop-key.invariant.so_far in
    let flags = flags_of c.args.list.now.fields.items c.loop-key.is_filled c.loop-key.all.items c.loop-key.invariant.places in
    record {
      few = c.loop-key.invariant.few;
      places = c.loop-key.invariant.places;
      so_far = slot_skipped (shapes_of c.args.schema.now) (list_view c.args.list.now) (entries c.args.held) (slots_at c.args.list.now.fields.items
          c.loop-key.is_filled c.loop-key.all.items) (owned_left c.loop-key.key-iterator) (owned_left c.next.new.self) (c.in-Some.key, c.in-Some.value) h step
          (subst (λ o. Names (list_view c.args.list.now) h.seen (tree_of c.in-Some.key) (option_map (λ f. f.0) o)) c.in_default.is (c.in_ok-index.ensures.value h.seen _ flags h.are_slots));
      smaller = omega (arith, c.loop-key.invariant.smaller, entry_within _ _ (c.in-Some.key, c.in-Some.value) step);
    }

pub fields-returns-in_err-data : goal.fields-returns-in_err-data
fields-returns-in_err-data t c =
    let p = err_from_is_err_and c.from_residual-in_err-data.result c.from_residual-in_err-data.ensures.1 in
    let h = c.loop-key.invariant.so_far in
    let flags = flags_of c.args.list.now.fields.items c.loop-key.is_filled c.loop-key.all.items c.loop-key.invariant.places in
    let name : IsNameOf c.args.list.now.fields.items c.in-Some-2.index c.in-Some-2.name = subst (λ o. IfSome o (λ f. IsNameOf c.args.list.now.fields.items f.0 f.1)) c.in-Some-2.is c.in_ok-index.ensures.name in
    let named = subst (λ o. Names (list_view c.args.list.now) h.seen (tree_of c.in-Some.key) (option_map (λ f. f.0) o)) c.in-Some-2.is (c.in_ok-index.ensures.value h.seen _ flags h.are_slots) in
    let here = field_here c.args.list.now.fields.items c.as_slice-fields.result.now c.in-Some-2.index c.index-fields-index.result c.as_slice-fields.ensures.value name.0 in
    rw (p.1, p.2) (memory_or_more c.in_err-data.field-0.0 (λ _. refl) (λ none. ap (option_and_then (arranged (list_view c.args.list.now).fields)) none)
    (value_refuses (shapes_of c.args.schema.now) (list_view c.args.list.now) (entries c.args.held)
    (slots_at c.args.list.now.fields.items c.loop-key.is_filled c.loop-key.all.items) (owned_left c.loop-key.key-iterator) (owned_left c.next.new.self) (c.in-Some.key, c.in-Some.value) h c.in-Some.ensures.steps
    c.in-Some-2.index (field_view (get_or c.as_slice-fields.result.now c.in-Some-2.index c.index-fields-index.result)) named here c.in_err-data.field-0.0 c.in_err-data.ensures.value))

pub fields-loop-key-preserved : goal.fields-loop-key-preserved
fields-loop-key-preserved t c =
    let step = c.in-Some.ensures.steps in
    let h = c.loop-key.invariant.so_far in
    let flags = flags_of c.args.list.now.fields.items c.loop-key.is_filled c.loop-key.all.items c.loop-key.invariant.places in
    let name : IsNameOf c.args.list.now.fields.items c.in-Some-2.index c.in-Some-2.name = subst (λ o. IfSome o (λ f. IsNameOf c.args.list.now.fields.items f.0 f.1)) c.in-Some-2.is c.in_ok-index.ensures.name in
    let named = subst (λ o. Names (list_view c.args.list.now) h.seen (tree_of c.in-Some.key) (option_map (λ f. f.0) o)) c.in-Some-2.is (c.in_ok-index.ensures.value h.seen _ flags h.are_slots) in
    let here = field_here c.args.list.now.fields.items c.as_slice-fields.result.now c.in-Some-2.index c.index-fields-index.result c.as_slice-fields.ensures.value name.0 in
    let put = c.in_ok-put.ensures.places c.args.list.now.fields.items name c.loop-key.invariant.places in
    record {
      few = omega (arith, c.loop-key.invariant.few, c.in_ok-put.ensures.room);
      places = put.0;
      so_far = slot_more (shapes_of c.args.schema.now) (list_view c.args.list.now) (entries c.args.held) (slots_at c.args.list.now.fields.items
          c.loop-key.is_filled c.loop-key.all.items) (owned_left c.loop-key.key-iterator) (owned_left c.next.new.self) (c.in-Some.key, c.in-Some.value)
          h step c.in-Some-2.index (field_view (get_or c.as_slice-fields.result.now c.in-Some-2.index c.index-fields-index.result)) named here
          (slots_at c.args.list.now.fields.items c.put.new.is_filled c.put.new.places.items) c.in_ok-data.data c.requires.1.1 c.in_ok-data.ensures.value put.1;
      smaller = omega (arith, c.loop-key.invariant.smaller, entry_within _ _ (c.in-Some.key, c.in-Some.value) step);
    }

pub fields-returns : goal.fields-returns
fields-returns t c =
    let s = all_slots (shapes_of c.args.schema.now) (list_view c.args.list.now) (entries c.args.held) (slots_at c.args.list.now.fields.items
    c.loop-key.is_filled c.loop-key.all.items) (owned_left c.loop-key.key-iterator) c.loop-key.invariant.so_far c.in-None.ensures.steps.0 in
    becomes_fields _ _ _ c.fields_of.result (fields_made (list_view c.args.list.now).fields _ s.0 _ s.1 s.2)
    (lacks_one (shapes_of c.args.schema.now) (list_view c.args.list.now) [] (pairs_tree (entries c.args.held)) s.0 s.1) c.fields_of.ensures.value

-- ---- any number of fields

pub wide_fields-returns : goal.wide_fields-returns
wide_fields-returns t c =
    let s = c.in_ok-slots.ensures.value in
    becomes_fields _ _ _ c.into_fields.result (fields_made (list_view c.args.list.now).fields _ s.0 (slots_in c.args.list.now.fields.items c.in_ok-slots.slots) s.1 s.2)
    (lacks_one (shapes_of c.args.schema.now) (list_view c.args.list.now) [] (pairs_tree (entries c.args.held)) s.0 s.1) c.into_fields.ensures.value

-- ---- structs

pub mapping-returns-in_err-fields-in-Some-Struct-clause-value : goal.mapping-returns-in_err-fields-in-Some-Struct-clause-value
mapping-returns-in_err-fields-in-Some-Struct-clause-value t c =
    let p = err_from_is_err_and c.from_residual-in_err-fields-in-Some-Struct.result c.from_residual-in_err-fields-in-Some-Struct.ensures.1 in
    let seen : shape_seen c.args.shape ≡ Some (struct_view (string_bytes c.in-Some-Struct.name) c.in-Some-Struct.list) = ap shape_seen c.in-Some-Struct.is ∙ search rules in
    rw (p.1, p.2) (memory_or_more c.in_err-fields-in-Some-Struct.field-0.0
    (λ _. struct_misfit (λ k v. pairs_misfit (shapes_of c.args.schema.now) k v (pairs_tree (entries c.args.held)))
    (λ list. fields_misfit (shapes_of c.args.schema.now) list [] (pairs_tree (entries c.args.held))) (shape_seen c.args.shape)
    (string_bytes c.in-Some-Struct.name) c.in-Some-Struct.list seen)
    (no_struct (λ k v. pairs_into (shapes_of c.args.schema.now) k v (pairs_tree (entries c.args.held))) (λ list. fields_into (shapes_of c.args.schema.now) list [] (pairs_tree (entries c.args.held)))
    (shape_seen c.args.shape) (string_bytes c.in-Some-Struct.name) c.in-Some-Struct.list seen) c.in_err-fields-in-Some-Struct.ensures)

pub mapping-returns-in_ok-name-in-Some-Struct-clause-value : goal.mapping-returns-in_ok-name-in-Some-Struct-clause-value
mapping-returns-in_ok-name-in-Some-Struct-clause-value t c =
    let seen : shape_seen c.args.shape ≡ Some (struct_view (string_bytes c.in-Some-Struct.name) c.in-Some-Struct.list) = search (rules, c.in-Some-Struct.is, c.in-Some-Struct.field-0-is) in
    the_struct (λ k v. pairs_into (shapes_of c.args.schema.now) k v (pairs_tree (entries c.args.held))) (λ list. fields_into (shapes_of c.args.schema.now) list [] (pairs_tree (entries c.args.held)))
    (shape_seen c.args.shape) (string_bytes c.in-Some-Struct.name) c.in-Some-Struct.list seen c.in_ok-name-in-Some-Struct.name
    c.in_ok-fields-in-Some-Struct.fields c.in_ok-fields-in-Some-Struct.ensures (c.in_ok-name-in-Some-Struct.ensures.ok ∙ c.as_str-outer.ensures.value)

-- ---- a value by its case

pub convert-mapping-requires : goal.convert-mapping-requires
convert-mapping-requires t c =
    let whole : size (tree_of c.args.value) ≡ suc (pairs_size (pairs_tree (entries c.in-Map.held))) = ap (λ v. size (tree_of v)) c.in-Map.is ∙ ap size (of_map c.in-Map.held) in
    rw (c.in-Map.held-is) (omega (arith, whole), c.shape_at-shape.ensures.distinct)

-- what a map becomes
module _ (t : ℕ) (c : goal.convert-After-mapping t) where
  abbrev the_pairs : tree.Pairs
  the_pairs = pairs_tree (entries c.in-Map.held)

  abbrev each_pair : ℕ → ℕ → Option (List (plain.Data × plain.Data))
  each_pair k v = pairs_into (shapes_of c.args.schema.now) k v the_pairs

  abbrev each_field : schema.FieldList → Option (List Item)
  each_field list = fields_into (shapes_of c.args.schema.now) list [] the_pairs

  is_map : tree_of c.args.value ≡ tree.mapping the_pairs
  is_map = ap tree_of c.in-Map.is ∙ of_map c.in-Map.held

  map_as : into (shapes_of c.args.schema.now) c.args.index (tree_of c.args.value) ≡ mapping_as each_pair each_field (shape_seen c.shape_at-shape.result)
  map_as = into_as (tree.mapping the_pairs) (tree_of c.args.value) (shapes_of c.args.schema.now) c.args.index (shape_seen c.shape_at-shape.result)
      (mapping_as each_pair each_field) is_map refl c.shape_at-shape.ensures.value (sym c.if-is_any.ensures)

  map_misfit : misfit (shapes_of c.args.schema.now) c.args.index (tree_of c.args.value)
      ≡ mapping_misfit (λ k v. pairs_misfit (shapes_of c.args.schema.now) k v the_pairs) (λ list. fields_misfit (shapes_of c.args.schema.now) list [] the_pairs) (shape_seen c.shape_at-shape.result)
  map_misfit =
      ap (misfit (shapes_of c.args.schema.now) c.args.index) is_map
      ∙ ap (mapping_misfit (λ k v. pairs_misfit (shapes_of c.args.schema.now) k v the_pairs) (λ list. fields_misfit (shapes_of c.args.schema.now) list [] the_pairs)) c.shape_at-shape.ensures.value

  map_stays : (d : plain.Data) → into (shapes_of c.args.schema.now) c.args.index (tree_of c.args.value) ≡ Some d → moves_into (tree_of c.args.value) d ≡ true → ⊥
  map_stays d = mapping_stays each_pair each_field (shape_seen c.shape_at-shape.result) the_pairs (tree_of c.args.value) (into (shapes_of c.args.schema.now) c.args.index (tree_of c.args.value)) d is_map map_as

pub convert-returns-in-Map-clause-value : goal.convert-returns-in-Map-clause-value
convert-returns-in-Map-clause-value t c = becomes_eq data_view _ _ _ _ c.mapping.result (map_as t c) (map_misfit t c) (rw (c.in-Map.held-is) at c.mapping.ensures.value)

pub convert-returns-in-Map-clause-moved : goal.convert-returns-in-Map-clause-moved
convert-returns-in-Map-clause-moved t c d e m = absurd (map_stays t c d e m)

-- what a list becomes
module _ (t : ℕ) (c : goal.convert-After-sequence t) where
  abbrev the_items : tree.Items
  the_items = items_tree c.in-Seq.held.items

  abbrev all_of : ℕ → Option plain.Datas
  all_of j = all_into (shapes_of c.args.schema.now) j the_items

  abbrev each_of : List ℕ → Option plain.Datas
  each_of js = each_into (shapes_of c.args.schema.now) js the_items

  abbrev only_of : ℕ → Option plain.Data
  only_of j = only_into (shapes_of c.args.schema.now) j the_items

  is_list : tree_of c.args.value ≡ tree.sequence the_items
  is_list = ap tree_of c.in-Seq.is ∙ of_seq c.in-Seq.held

  list_as : into (shapes_of c.args.schema.now) c.args.index (tree_of c.args.value) ≡ sequence_as all_of each_of only_of (bytes_among the_items) (shape_seen c.shape_at-shape.result)
  list_as = into_as (tree.sequence the_items) (tree_of c.args.value) (shapes_of c.args.schema.now) c.args.index (shape_seen c.shape_at-shape.result)
      (sequence_as all_of each_of only_of (bytes_among the_items)) is_list refl c.shape_at-shape.ensures.value (sym c.if-is_any.ensures)

  list_stays : (d : plain.Data) → into (shapes_of c.args.schema.now) c.args.index (tree_of c.args.value) ≡ Some d → moves_into (tree_of c.args.value) d ≡ true → ⊥
  list_stays d = sequence_stays all_of each_of only_of (bytes_among the_items) (shape_seen c.shape_at-shape.result) the_items (tree_of c.args.value) (into (shapes_of c.args.schema.now) c.args.index (tree_of c.args.value)) d is_list list_as

pub convert-returns-in-Seq-clause-moved : goal.convert-returns-in-Seq-clause-moved
convert-returns-in-Seq-clause-moved t c d e m = absurd (list_stays t c d e m)
