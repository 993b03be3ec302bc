-- Structs and their fields.
use Rattle.std.proofs.Common.{rules, ◌≡◌, None, true, nat_lt, get_or, map, ◌≤◌, ◌<◌, length, suc, chars, refl, sym, subst, ◌∙◌, ap, arith, ◌∷◌, Ok, Err, List}
use Rattle.std.proofs.Common.{false}
use Rattle.std.specs.List.{list_all}
use Rattle.std.proofs.lemmas.Result.{err_from_is_err_and}
use Rattle.ron_spec_grammar.specs.Data as plain
use Rattle.ron_spec_grammar.specs.Schema.{struct, Shape}
use Rattle.ron_spec_grammar.specs.Turns.{read_fields_inside}
use Rattle.ron_spec_grammar.proofs.GroupTurns.{field_group_not_opened, field_group_opened, read_range_of}
use Rattle.ron_data_schema.specs.Shapes.{field_view, list_view}
use Rattle.ron_data.specs.Slots.{slots_in, fields_in}
use Rattle.ron_data.proofs.SlotLemmas.{slots_for, none_in}
use Rattle.ron_de_steps.proofs.ErrorLemmas.{is_fault, memory_or_more, text_and}
use Rattle.ron_de_parts.proofs.RoomLemmas.{room_ended, item_falls, items_later, same_for_items, items_in_group, group_later}
use Rattle.ron_de_parts.proofs.StepLemmas.{misses, shape_of, shape_in_range, in_range_of, free_field, below_of, at_known_name, at_unknown_name, field_read}
use Rattle.ron_de_parts.proofs.StepLemmas.{field_faults, field_skipped, skip_faults, target_deep, struct_value, struct_nowhere, struct_at}
use Rattle.ron_de.proofs.InsideLemmas.{opened_slash, fields_in_group, fields_deep, fields_fault, misses_field, reads_fields}
use Rattle.ron_de.proofs.FieldsLemmas.{nothing_read, fields_no_longer, field_fails, no_comma, field_more, all_read}
use Rattle.ron_de_parts.proofs.SliceLemmas.{sliced-struct, sliced-read, sliced-nothing, fields-sliced, kept_later, fields_there}
use Rattle.ron_spec_words.proofs.Leading.{leads_on}
use Rattle.ron_de_parts.specs.Slices.{StringsAreSliced}
use Rattle.ron_de_parts.proofs.KeptLemmas.{source_there, kept_anyhow}
use Rattle.ron_de.proofs.HeldLemmas.{tuple_fault, room_of_group}
use Rattle.ron_de_parts.specs.Content.{ReadsFieldGroup}
use Rattle.ron_de.proofs.TurnLemmas.{made_turns, moved_turns}
use Rattle.ron_de.proofs.TurnLemmas.{near_settled, mark_settled, counts_begin, counts_on}
use Rattle.ron_de.proofs.ReachLemmas.{over_gap, over_mark}
use Rattle.ron_de_steps.proofs.NearLemmas.{mark_nears, mark_right_parenthesis}
use Rattle.ron_de_steps.proofs.LeadLemmas.{reached_on}
use Rattle.ron_de_untyped.proofs.ReadLemmas.{reads_same}
use Rattle.ron_de.specs.Turns.{SpendsItems}
use Rattle.ron_de.proofs.+read.Goals as goal

-- ---- a field

pub structs::read_field-returns-in_err-field-clause-value : goal.structs::read_field-returns-in_err-field-clause-value
structs::read_field-returns-in_err-field-clause-value t c =
    let p = err_from_is_err_and c.from_residual.result c.from_residual.ensures.1 in
    rw (p.1, p.2) (λ room seen r h. is_fault _ _ (c.in_err-field.ensures.value _ _ (suc room) seen h))

pub structs::read_field-returns-in_err-inner-clause-value : goal.structs::read_field-returns-in_err-inner-clause-value
structs::read_field-returns-in_err-inner-clause-value t c =
    let p = err_from_is_err_and c.from_residual-in_err-inner.result c.from_residual-in_err-inner.ensures.1 in
    rw (p.1, p.2, c.in_err-inner.ensures.0) (λ room seen r h. target_deep _ _ (suc room) (list_view c.args.list.now) seen c.in_ok-field.field _
    c.read_field_name.new.cursor (c.in_ok-field.ensures.value _ _ (suc room) seen h) (ap suc (room_ended _ _ room c.in_err-inner.ensures.1 r)))

-- the value of a name that no field has
pub structs::read_field-returns-in_err-skip_untyped-clause-value : goal.structs::read_field-returns-in_err-skip_untyped-clause-value
structs::read_field-returns-in_err-skip_untyped-clause-value t c =
    let p = err_from_is_err_and c.from_residual-in_err-skip_untyped.result c.from_residual-in_err-skip_untyped.ensures.1 in
    rw (p.1, p.2) (λ room seen r h.
    let at = at_unknown_name c.args.context.now.extensions c.args.context.now.schema (suc room) (list_view c.args.list.now) seen c.in_ok-field.field
    c.args.cursor.now.rest c.read_field_name.new.cursor c.in_default.is
    (c.in_ok-field.ensures.value c.args.context.now.extensions c.args.context.now.schema (suc room) seen h) in
    skip_faults c.args.context.now c.in_ok-inner.inner (list_view c.args.list.now) c.args.cursor.now c.read_field_name.new.cursor c.in_ok-inner.ensures room
    seen r c.in_ok-field.ensures.shorter at _ c.skip_untyped.new.cursor.rest c.in_err-skip_untyped.ensures.value)

pub structs::read_field-returns-in_default-clause-value : goal.structs::read_field-returns-in_default-clause-value
structs::read_field-returns-in_default-clause-value t c = λ room seen r h.
    let at = at_unknown_name c.args.context.now.extensions c.args.context.now.schema (suc room) (list_view c.args.list.now) seen c.in_ok-field.field
    c.args.cursor.now.rest c.read_field_name.new.cursor c.in_default.is
    (c.in_ok-field.ensures.value c.args.context.now.extensions c.args.context.now.schema (suc room) seen h) in
    field_skipped c.args.context.now c.in_ok-inner.inner (list_view c.args.list.now) c.args.cursor.now c.read_field_name.new.cursor c.in_ok-inner.ensures room
    seen r c.in_ok-field.ensures.shorter at _ c.in_ok-skip_untyped.ensures.value

-- the value of a field
pub structs::read_field-read_value-requires : goal.structs::read_field-read_value-requires
structs::read_field-read_value-requires t c =
    let below = subst (λ fs. list_all (λ f. nat_lt f.shape (length c.args.context.now.schema)) (map field_view fs) ≡ true) (sym c.as_slice-fields.ensures.value)
    c.requires.1.1.0 in
    let lt = subst (λ fs. c.in-Some.index < length fs) (sym c.as_slice-fields.ensures.value)
    (free_field c.args.list.now.fields.items c.args.found.now _ _ c.in-Some.is c.in_ok-field.ensures.index).0 in (
      omega (
        arith,
        item_falls c.args.context.now.schema c.in_ok-inner.inner.schema (get_or c.as_slice-fields.result.now c.in-Some.index c.index-fields-index.result).shape
            (length c.read_field_name.new.cursor.rest) (length c.args.cursor.now.rest) c.in_ok-inner.ensures.1 c.in_ok-field.ensures.shorter,
      ),
      in_range_of _ _ _ c.in_ok-inner.ensures.1
          (shape_in_range _ c.as_slice-fields.result.now c.in-Some.index c.index-fields-index.result below lt c.index-fields-index.is),
    )

pub structs::read_field-returns-in_err-value-clause-value : goal.structs::read_field-returns-in_err-value-clause-value
structs::read_field-returns-in_err-value-clause-value t c =
    let p = err_from_is_err_and c.from_residual-in_err-value.result c.from_residual-in_err-value.ensures.1 in
    let lt = (free_field c.args.list.now.fields.items c.args.found.now _ _ c.in-Some.is c.in_ok-field.ensures.index).0 in
    rw (p.1, p.2) (λ room seen r h.
    let at = at_known_name c.args.context.now.extensions c.args.context.now.schema (suc room) (list_view c.args.list.now) seen c.in_ok-field.field
    c.in-Some.index c.args.cursor.now.rest c.read_field_name.new.cursor c.in-Some.is
    (c.in_ok-field.ensures.value c.args.context.now.extensions c.args.context.now.schema (suc room) seen h) in
    field_faults c.args.context.now c.in_ok-inner.inner (list_view c.args.list.now) c.args.cursor.now c.read_field_name.new.cursor c.in_ok-inner.ensures room
    seen r c.in_ok-field.ensures.shorter at _ (shape_of c.args.list.now.fields.items c.as_slice-fields.result.now c.as_slice-fields.ensures.value _ _ at.field
    lt c.index-fields-index.is at.at) _ c.read_value.new.cursor.rest c.in_err-value.ensures.value)

pub structs::read_field-returns-clause-value : goal.structs::read_field-returns-clause-value
structs::read_field-returns-clause-value t c = λ room seen r h.
    let lt = (free_field c.args.list.now.fields.items c.args.found.now _ _ c.in-Some.is c.in_ok-field.ensures.index).0 in
    let at = at_known_name c.args.context.now.extensions c.args.context.now.schema (suc room) (list_view c.args.list.now) seen c.in_ok-field.field
    c.in-Some.index c.args.cursor.now.rest c.read_field_name.new.cursor c.in-Some.is
    (c.in_ok-field.ensures.value c.args.context.now.extensions c.args.context.now.schema (suc room) seen h) in
    field_read c.args.context.now c.in_ok-inner.inner (list_view c.args.list.now) c.args.cursor.now c.read_field_name.new.cursor c.in_ok-inner.ensures room seen
    r c.in_ok-field.ensures.shorter at _ (shape_of c.args.list.now.fields.items c.as_slice-fields.result.now c.as_slice-fields.ensures.value _ _ at.field lt
    c.index-fields-index.is at.at) _ _ c.in_ok-value.ensures.value

pub structs::read_field-returns-clause-advance : goal.structs::read_field-returns-clause-advance
structs::read_field-returns-clause-advance t c = record {
  text = search rules;
  no_longer = search rules;
  holds = kept_later _ _ _ _ c.in_ok-field.ensures.leads c.in_ok-inner.ensures.3 c.in_ok-field.ensures.text c.in_ok-value.value c.in_ok-value.ensures.slices;
  fault = search rules;
}

pub structs::read_field-returns-clause-index : goal.structs::read_field-returns-clause-index
structs::read_field-returns-clause-index t c = free_field c.args.list.now.fields.items c.args.found.now _ _ c.in-Some.is c.in_ok-field.ensures.index

-- ---- the fields

pub structs::read_fields-fields-init : goal.structs::read_fields-fields-init
structs::read_fields-fields-init t c =
    let none = none_in c.args.list.now.fields.items c.in_ok-found.found c.in_ok-found.ensures.empty in (
      refl,
      slots_for c.args.list.now.fields.items c.in_ok-found.found c.in_ok-found.ensures.empty,
      nothing_read c.args.context.now c.args.list.now _ _ none,
      (λ source. sliced-nothing _ _ _ _ none),
      counts_begin _ _ c.args.cursor.now,
    )

pub structs::read_fields-read_field-requires : goal.structs::read_fields-read_field-requires
structs::read_fields-read_field-requires t c = (
  omega (
    arith,
    items_later c.args.context.now.schema (length c.fields.cursor.rest) (length c.args.cursor.now.rest) (fields_no_longer _ _ _ _ _ c.fields.invariant.2),
  ),
  (c.requires.1.1.0, c.requires.1.1.1),
)

pub structs::read_fields-returns-in_err-item-clause-value : goal.structs::read_fields-returns-in_err-item-clause-value
structs::read_fields-returns-in_err-item-clause-value t c =
    let p = err_from_is_err_and c.from_residual-in_err-item.result c.from_residual-in_err-item.ensures.1 in
    rw (p.1, p.2) (field_fails _ _ _ _ _ c.fields.invariant.2 (sym c.fields-test.ensures) _ (λ room seen r h. c.in_err-item.ensures.value room seen r h))

pub structs::read_fields-put-requires : goal.structs::read_fields-put-requires
structs::read_fields-put-requires t c = record { named = c.fields.invariant.1; free = c.in_ok-item.ensures.index }

pub structs::read_fields-returns-in_err-read_comma-clause-value : goal.structs::read_fields-returns-in_err-read_comma-clause-value
structs::read_fields-returns-in_err-read_comma-clause-value t c =
    let p = err_from_is_err_and c.from_residual-in_err-read_comma.result c.from_residual-in_err-read_comma.ensures.1 in
    rw (p.1, p.2) (no_comma _ _ _ _ _ c.fields.invariant.2 (sym c.fields-test.ensures) c.in_ok-item.item _
    (λ room seen r h. c.in_ok-item.ensures.value room seen r h) _ c.in_err-read_comma.ensures.value)

pub structs::read_fields-returns-clause-advance : goal.structs::read_fields-returns-clause-advance
structs::read_fields-returns-clause-advance t c =
    record { text = c.fields.invariant.0; no_longer = fields_no_longer _ _ _ _ _ c.fields.invariant.2; holds = c.fields.invariant.3; fault = tt }

pub structs::read_fields-returns-clause-value : goal.structs::read_fields-returns-clause-value
structs::read_fields-returns-clause-value t c = all_read _ _ _ _ _ c.fields.invariant.2 c.requires.1.1.1 (sym c.fields-test.ensures)

pub structs::read_fields-fields-preserved : goal.structs::read_fields-fields-preserved
structs::read_fields-fields-preserved t c =
    let shorter : length c.read_comma.new.cursor.rest ≤ length c.fields.cursor.rest =
    omega (arith, c.in_ok-read_comma.ensures.no_longer, c.in_ok-item.ensures.shorter) in (
      c.in_ok-read_comma.ensures.text ∙ c.in_ok-item.ensures.advance.text ∙ c.fields.invariant.0,
      c.in_ok-put.ensures.named,
      field_more _ _ _ _ _ c.fields.invariant.2 (sym c.fields-test.ensures) c.in_ok-item.item _ (λ room seen r h. c.in_ok-item.ensures.value room seen r h) _ _
          c.requires.1.1.1 c.in_ok-put.ensures.slots c.in_ok-read_comma.ensures.value shorter,
      (λ source. sliced-read _ _ _ _ (c.fields.invariant.4.leads (sym c.fields-test.ensures)) c.fields.invariant.0 _ _ c.in_ok-item.item
          c.in_ok-put.ensures.slots (c.fields.invariant.3 source) (c.in_ok-item.ensures.advance.holds (source_there refl c.fields.invariant.0 source))),
      counts_on c.fields.invariant.4 (sym c.fields-test.ensures) c.in_ok-item.item c.read_field.new.cursor c.read_comma.new.cursor c.in_ok-item.ensures.turns
          c.in_ok-item.ensures.advance.text c.in_ok-item.ensures.leads c.in_ok-read_comma.ensures.turns.moved c.in_ok-read_comma.ensures.text
          c.in_ok-read_comma.ensures.value,
    )

-- ---- fields in brackets

pub structs::read_fields_inside-returns-in_err-inner-clause-value : goal.structs::read_fields_inside-returns-in_err-inner-clause-value
structs::read_fields_inside-returns-in_err-inner-clause-value t c =
    let p = err_from_is_err_and c.from_residual.result c.from_residual.ensures.1 in
    rw (p.1, p.2, c.in_err-inner.ensures.0)
    (λ make room r. fields_deep c.args.context.now make (list_view c.args.list.now) c.args.cursor.now room (room_ended _ _ room c.in_err-inner.ensures.1 r))

pub structs::read_fields_inside-read_fields-requires : goal.structs::read_fields_inside-read_fields-requires
structs::read_fields_inside-read_fields-requires t c = (
  omega (arith, same_for_items c.args.context.now.schema c.in_ok-inner.inner.schema (length c.args.cursor.now.rest) c.in_ok-inner.ensures.1),
  (below_of _ _ (struct (chars c.args.name.now) (list_view c.args.list.now)) c.in_ok-inner.ensures.1 c.requires.1.1.0, c.requires.1.1.1),
)

pub structs::read_fields_inside-returns-in_err-found-clause-value : goal.structs::read_fields_inside-returns-in_err-found-clause-value
structs::read_fields_inside-returns-in_err-found-clause-value t c =
    let p = err_from_is_err_and c.from_residual-in_err-found.result c.from_residual-in_err-found.ensures.1 in
    rw (p.1, p.2) (λ make room r. fields_fault c.args.context.now make (list_view c.args.list.now) c.args.cursor.now room c.in_ok-inner.inner
    c.in_ok-inner.ensures r (slots_in c.args.list.now.fields.items) _ c.read_fields.new.cursor.rest c.in_err-found.ensures.value)

pub structs::read_fields_inside-returns-in_err-all-clause-value : goal.structs::read_fields_inside-returns-in_err-all-clause-value
structs::read_fields_inside-returns-in_err-all-clause-value t c =
    let p = err_from_is_err_and c.from_residual-in_err-all.result c.from_residual-in_err-all.ensures.1 in
    rw (p.1, p.2) (λ make room r. misses_field c.args.context.now make (list_view c.args.list.now) c.args.cursor.now room c.in_ok-inner.inner
    c.in_ok-inner.ensures r (slots_in c.args.list.now.fields.items) c.in_ok-found.found c.read_fields.new.cursor.rest c.in_ok-found.ensures.value _ refl
    c.in_err-all.field-0.0 (misses (fields_in c.args.list.now.fields.items c.in_ok-found.found ≡ None) c.in_err-all.field-0.0 c.in_err-all.ensures.value))

pub structs::read_fields_inside-returns : goal.structs::read_fields_inside-returns
structs::read_fields_inside-returns t c = record {
  value = λ make room r. reads_fields c.args.context.now make (list_view c.args.list.now) c.args.cursor.now room c.in_ok-inner.inner c.in_ok-inner.ensures r
      (slots_in c.args.list.now.fields.items) c.in_ok-found.found c.read_fields.new.cursor.rest c.in_ok-found.ensures.value _ refl _ _ c.in_ok-all.ensures.value
      c.pass.ensures.rest;
  advance = record {
    text = search rules;
    no_longer = search rules;
    holds = λ source. fields-sliced _ _ (slots_in c.args.list.now.fields.items c.in_ok-found.found) _ c.in_ok-all.ensures.parts
        (c.in_ok-found.ensures.advance.holds (c.in_ok-inner.ensures.3 ∙ source));
    fault = search rules;
  };
  turns = moved_turns _ _ c.read_fields.new.cursor c.pass.new.self _ (Ok _)
      (subst (λ (s : List Shape). SpendsItems s c.args.cursor.now (Ok c.in_ok-found.found) c.read_fields.new.cursor) c.in_ok-inner.ensures.1
      c.in_ok-found.ensures.turns) c.pass.ensures.turns (mark_nears 41 c.read_fields.new.cursor c.pass.new.self mark_right_parenthesis c.pass.ensures.rest);
}

pub structs::read_field_group-returns-in_err-pass_gap-clause-value : goal.structs::read_field_group-returns-in_err-pass_gap-clause-value
structs::read_field_group-returns-in_err-pass_gap-clause-value t c =
    let p = err_from_is_err_and c.from_residual.result c.from_residual.ensures.1 in
    rw (p.1, p.2) (λ make room r. is_fault _ _ (text_and _ c.in_err-pass_gap.ensures.fault.0
    (opened_slash (read_fields_inside _ _ room make (list_view c.args.list.now)) _ _
    (field_group_opened _ _ room make (list_view c.args.list.now) (40 ∷ c.args.cursor.now.rest) _ refl) c.in_err-pass_gap.ensures.slash)))

pub structs::read_field_group-read_fields_inside-requires : goal.structs::read_field_group-read_fields_inside-requires
structs::read_field_group-read_fields_inside-requires t c =
    let shorter : length c.pass_gap.new.cursor.rest < suc (length c.args.cursor.now.rest) = omega (arith, c.in_ok-pass_gap.ensures.no_longer) in (
      omega (arith, items_in_group c.args.context.now.schema (length c.pass_gap.new.cursor.rest) (suc (length c.args.cursor.now.rest)) shorter),
      (c.requires.1.1.0, c.requires.1.1.1),
    )

pub structs::read_field_group-returns-clause-value : goal.structs::read_field_group-returns-clause-value
structs::read_field_group-returns-clause-value t c = fields_in_group c.args.context.now c.pass_gap.new.cursor c.args.cursor.now.rest
    c.in_ok-pass_gap.ensures.slash c.in_ok-pass_gap.ensures.gap c.in_ok-pass_gap.ensures.rest c.read_fields_inside.new.cursor.rest (list_view c.args.list.now)
    c.read_fields_inside.result c.read_fields_inside.ensures.value

-- ---- a struct

pub structs::read_field_group-returns-clause-advance : goal.structs::read_field_group-returns-clause-advance
structs::read_field_group-returns-clause-advance t c =
    let a = c.read_fields_inside.ensures.advance in
    record {
      text = search rules;
      no_longer = search rules;
      holds = fields_there _ _ _ _ (over_gap c.args.cursor.now c.pass_gap.new.cursor c.in_ok-pass_gap.ensures.rest) refl c.in_ok-pass_gap.ensures.text
          c.read_fields_inside.result a.holds;
      fault = a.fault;
    }

pub structs::read_struct-returns-then-opens_interval-clause-advance : goal.structs::read_struct-returns-then-opens_interval-clause-advance
structs::read_struct-returns-then-opens_interval-clause-advance t c =
    let a = c.read_range.ensures.advance in
    record {
      text = a.text;
      no_longer = a.no_longer;
      holds = kept_anyhow (StringsAreSliced c.args.cursor.now.rest) _ _ c.read_range.result a.holds;
      fault = a.fault;
    }

pub structs::read_struct-returns-then-opens_interval-clause-value : goal.structs::read_struct-returns-then-opens_interval-clause-value
structs::read_struct-returns-then-opens_interval-clause-value t c = λ i is room r. reads_same _ c.read_range.result _ _ _
    (read_range_of c.args.context.now.extensions c.args.context.now.schema room i c.args.cursor.now.gap c.args.cursor.now.rest (chars c.args.name.now)
    (list_view c.args.list.now) is.0 (sym c.opens_interval.ensures ∙ c.if-opens_interval.true)) c.read_range.ensures.value

pub structs::read_struct-returns-in_err-read_name-clause-value : goal.structs::read_struct-returns-in_err-read_name-clause-value
structs::read_struct-returns-in_err-read_name-clause-value t c =
    let p = err_from_is_err_and c.from_residual.result c.from_residual.ensures.1 in
    rw (p.1, p.2) (λ i is room r. is_fault _ _ (memory_or_more _
    (struct_nowhere _ _ room i c.args.cursor.now.gap _ _ _ is.0 (sym c.opens_interval.ensures ∙ c.if-opens_interval.false)) c.in_err-read_name.ensures.value))

pub structs::read_struct-returns-then-not-take-clause-value : goal.structs::read_struct-returns-then-not-take-clause-value
structs::read_struct-returns-then-not-take-clause-value t c = λ i is room r.
    struct_at _ _ room i c.args.cursor.now.gap _ _ _ is.0 (sym c.opens_interval.ensures ∙ c.if-opens_interval.false) _ c.in_ok-read_name.ensures.value
    ∙ field_group_not_opened _ _ room (plain.struct_of (chars c.args.name.now)) (list_view c.args.list.now) _ c.if-not-take.ensures.taken.0

pub structs::read_struct-read_field_group-requires : goal.structs::read_struct-read_field_group-requires
structs::read_struct-read_field_group-requires t c = (
  omega (
    arith,
    group_later c.args.context.now.schema (suc (length c.take.new.self.rest)) (length c.args.cursor.now.rest)
        (omega (arith, ap length c.if-not-take.ensures.taken, c.in_ok-read_name.ensures.no_longer)),
  ),
  (c.requires.1.1.0, c.requires.1.1.1),
)

pub structs::read_struct-returns-in_err-fields-clause-value : goal.structs::read_struct-returns-in_err-fields-clause-value
structs::read_struct-returns-in_err-fields-clause-value t c =
    let p = err_from_is_err_and c.from_residual-in_err-fields.result c.from_residual-in_err-fields.ensures.1 in
    rw (p.1, p.2) (λ i is room r. tuple_fault _ _
    (struct_at _ _ room i c.args.cursor.now.gap _ _ _ is.0 (sym c.opens_interval.ensures ∙ c.if-opens_interval.false) _ c.in_ok-read_name.ensures.value)
    ((subst (λ s. ReadsFieldGroup c.args.context.now (list_view c.args.list.now) s (Err c.in_err-fields.field-0.0) c.read_field_group.new.cursor.rest)
    (sym c.if-not-take.ensures.taken) c.in_err-fields.ensures.value) (plain.struct_of (chars c.args.name.now)) room
    (room_of_group c.args.context.now i _ _ room c.in_ok-read_name.ensures.no_longer r)))

pub structs::read_struct-returns : goal.structs::read_struct-returns
structs::read_struct-returns t c = record {
  value = λ i is room r.
      struct_at _ _ room i c.args.cursor.now.gap _ _ _ is.0 (sym c.opens_interval.ensures ∙ c.if-opens_interval.false) _ c.in_ok-read_name.ensures.value
      ∙ (subst (λ s. ReadsFieldGroup c.args.context.now (list_view c.args.list.now) s (Ok c.in_ok-fields.fields) c.read_field_group.new.cursor.rest)
      (sym c.if-not-take.ensures.taken) c.in_ok-fields.ensures.value) (plain.struct_of (chars c.args.name.now)) room
      (room_of_group c.args.context.now i _ _ room c.in_ok-read_name.ensures.no_longer r)
      ∙ struct_value c.in_ok-own.own c.in_ok-fields.fields _ _ c.in_ok-own.ensures.ok;
  slice = search rules;
  advance = record {
    text = search rules;
    no_longer = search rules;
    holds = λ source. let same = c.if-not-take.ensures.text ∙ c.in_ok-read_name.ensures.text in
        sliced-struct _ _ _ _ (leads_on c.in_ok-read_name.ensures.leads (over_mark c.read_name.new.cursor c.take.new.self 40 refl c.if-not-take.ensures.taken))
        same c.in_ok-own.own c.in_ok-fields.fields (c.in_ok-fields.ensures.advance.holds (source_there refl same source));
    fault = search rules;
  };
  turns = near_settled _ c.args.cursor.now c.read_name.new.cursor _ c.read_field_group.new.cursor c.in_ok-read_name.ensures.turns.moved
      c.in_ok-read_name.ensures.near (reached_on c.args.cursor.now c.read_name.new.cursor c.in_ok-read_name.ensures.text c.in_ok-read_name.ensures.leads)
      (mark_settled _ c.read_name.new.cursor c.take.new.self _ c.read_field_group.new.cursor c.if-not-take.ensures.text c.if-not-take.ensures.taken
      c.take.ensures.turns (made_turns _ _ c.read_field_group.new.cursor _ (Ok _) c.in_ok-fields.ensures.turns));
}
