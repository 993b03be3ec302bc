-- Bare content.
use Rattle.std.proofs.Common.{rules, ◌≡◌, None, Ok, Some, get_or, length, chars, refl, sym, ◌∙◌, ap, arith, subst, ap₂, true, nat_lt, Err, string_bytes}
use Rattle.std.proofs.lemmas.Result.{err_from_is_err_and}
use Rattle.std.specs.List.{list_all}
use Rattle.std.proofs.lemmas.Option.{slice_get-get_or}
use Rattle.std.proofs.lemmas.Bool.{ltb-true}
use Rattle.ron_spec_words.specs.Reader.{got}
use Rattle.ron_spec_grammar.specs.Data as plain
use Rattle.ron_spec_grammar.specs.Schema.{struct, tuple_struct, newtype, holds_below, tuple, unit, unit_struct, has_distinct_names, content_of}
use Rattle.ron_spec_grammar.proofs.BareTurns.{bare_plain, bare_unit, bare_unit_struct, bare_tuple, bare_tuple_struct, bare_struct, bare_option_closed}
use Rattle.ron_spec_grammar.proofs.BareTurns.{bare_option_alone, closed_is}
use Rattle.ron_data_schema.specs.Shapes.{shape_view, list_view, IsOneLonger}
use Rattle.ron_data.proofs.DatumLemmas.{view-tuple, view-unit}
use Rattle.ron_de_parts.proofs.RoomLemmas.{room_ended, value_within_bare, room_of_value}
use Rattle.ron_de_parts.proofs.StepLemmas.{struct_value}
use Rattle.ron_de_parts.proofs.SliceLemmas.{sliced-tuple, sliced-newtype, sliced-tuple_struct, sliced-struct, sliced-some, stays, data_there}
use Rattle.ron_de_parts.proofs.KeptLemmas.{source_there}
use Rattle.ron_de_parts.proofs.ContentLemmas.{closed_fault, not_closed, closed_value, made_of}
use Rattle.ron_de.proofs.HeldLemmas.{tuple_fault, tuple_struct_value, newtype_value}
use Rattle.ron_de_parts.specs.Slices.{StringsAreSliced}
use Rattle.ron_spec_grammar.specs.Room.{enough}
use Rattle.ron_de_untyped.proofs.ReadLemmas.{reads_same}
use Rattle.ron_de.proofs.BareLemmas.{ranged_unit, ranged_struct, held_of_bare, items_of_bare, room_of_alone, room_of_bare_newtype, room_of_bare_items}
use Rattle.ron_de.proofs.BareLemmas.{option_value, bare_end_value, bare_end_fault, bare_newtype_fault, bare_newtype_open, bare_newtype_value, bare_items_here}
use Rattle.ron_de.proofs.BareLemmas.{bare_items_ended, bare_items_empty, not_empty, is_nothing, no_items, unit_struct_value}
use Rattle.ron_de.proofs.TurnLemmas.{made_turns, moved_turns, opened_spent, looked_spent}
use Rattle.ron_de.proofs.+read.Goals as goal

-- ---- bare content

pub bare::read_closed-read_value-requires : goal.bare::read_closed-read_value-requires
bare::read_closed-read_value-requires t c =
    (omega (arith, value_within_bare c.args.context.now.schema c.args.index (length c.args.cursor.now.rest)), c.requires)

pub bare::read_closed-returns-in_err-value-clause-value : goal.bare::read_closed-returns-in_err-value-clause-value
bare::read_closed-returns-in_err-value-clause-value t c =
    let p = err_from_is_err_and c.from_residual.result c.from_residual.ensures.1 in
    rw (p.1, p.2) (λ room r. closed_fault _ _ _ (closed_is _ _ room c.args.index _ _)
    (c.in_err-value.ensures.value room (room_of_value c.args.context.now.limit c.args.context.now.schema c.args.index _ room r)))

pub bare::read_closed-returns-in_err-close_content-clause-value : goal.bare::read_closed-returns-in_err-close_content-clause-value
bare::read_closed-returns-in_err-close_content-clause-value t c =
    let p = err_from_is_err_and c.from_residual-in_err-close_content.result c.from_residual-in_err-close_content.ensures.1 in
    rw (p.1, p.2) (λ room r. not_closed _ _ _ _ (closed_is _ _ room c.args.index _ _) (c.in_ok-value.ensures.value room
    (room_of_value c.args.context.now.limit c.args.context.now.schema c.args.index _ room r)) _ c.in_err-close_content.ensures.value)

pub bare::read_closed-returns-clause-value : goal.bare::read_closed-returns-clause-value
bare::read_closed-returns-clause-value t c = λ room r. closed_value _ _ _ _ _ (closed_is _ _ room c.args.index _ _) (c.in_ok-value.ensures.value room
    (room_of_value c.args.context.now.limit c.args.context.now.schema c.args.index _ room r)) c.in_ok-close_content.ensures.value

-- ---- bare options and newtypes

pub bare::read_bare_option-returns-then-not-stands_alone-clause-value : goal.bare::read_bare_option-returns-then-not-stands_alone-clause-value
bare::read_bare_option-returns-then-not-stands_alone-clause-value t c = λ room r. reads_same _ c.read_closed.result _ _ _
    (bare_option_closed _ _ room c.args.index c.args.cursor.now.gap c.args.cursor.now.rest c.args.content c.requires.at
    (sym c.stands_alone.ensures.value ∙ c.if-not-stands_alone.true))
    ((rw (c.stands_alone.ensures.place.rest, c.stands_alone.ensures.place.gap) at c.read_closed.ensures.value) room r)

pub bare::read_bare_option-returns-then-not-stands_alone-clause-advance : goal.bare::read_bare_option-returns-then-not-stands_alone-clause-advance
bare::read_bare_option-returns-then-not-stands_alone-clause-advance t c =
    let here = c.stands_alone.ensures.place in
    let a = c.read_closed.ensures.advance in
    record {
      text = search rules;
      no_longer = search rules;
      holds = data_there _ _ _ _ (stays _ _ here.rest) refl here.text c.read_closed.result a.holds;
      fault = a.fault;
    }

pub bare::read_bare_option-read_bare_below-requires : goal.bare::read_bare_option-read_bare_below-requires
bare::read_bare_option-read_bare_below-requires t c =
    let same : enough c.args.context.now.schema true c.args.content (length c.stands_alone.new.cursor.rest)
    ≡ enough c.args.context.now.schema true c.args.content (length c.args.cursor.now.rest) =
    ap (λ s. enough c.args.context.now.schema true c.args.content (length s)) c.stands_alone.ensures.place.rest in (
      omega (arith, same, held_of_bare c.args.context.now.schema true c.args.index c.args.content (length c.args.cursor.now.rest) c.requires.falls),
      c.requires.in_range.1,
    )

pub bare::read_bare_option-returns-in_err-value-clause-value : goal.bare::read_bare_option-returns-in_err-value-clause-value
bare::read_bare_option-returns-in_err-value-clause-value t c =
    let p = err_from_is_err_and c.from_residual.result c.from_residual.ensures.1 in
    rw (p.1, p.2) (λ room r. made_of plain.some_of (Err c.in_err-value.field-0.0) _ _ c.read_bare_below.new.cursor.rest (bare_option_alone _ _ room
    c.args.index c.args.cursor.now.gap c.args.cursor.now.rest c.args.content c.requires.at (sym c.stands_alone.ensures.value ∙ c.if-not-stands_alone.false))
    ((rw (c.stands_alone.ensures.place.rest, c.stands_alone.ensures.place.gap) at c.in_err-value.ensures.value) room
    (room_of_alone c.args.context.now c.args.index c.args.content _ room c.requires.falls r)))

pub bare::read_bare_option-returns : goal.bare::read_bare_option-returns
bare::read_bare_option-returns t c = record {
  value = λ room r. made_of plain.some_of (Ok c.in_ok-value.value) _ _ _ (bare_option_alone _ _ room c.args.index c.args.cursor.now.gap c.args.cursor.now.rest
      c.args.content c.requires.at (sym c.stands_alone.ensures.value ∙ c.if-not-stands_alone.false))
      ((rw (c.stands_alone.ensures.place.rest, c.stands_alone.ensures.place.gap) at c.in_ok-value.ensures.value) room (room_of_alone c.args.context.now
      c.args.index c.args.content _ room c.requires.falls r)) ∙ option_value c.in_ok-new.field-0 c.in_ok-value.value _ c.in_ok-new.ensures.ok;
  advance = record {
    text = search rules;
    no_longer = search rules;
    holds = λ source. sliced-some _ _ _ _ (stays _ _ c.stands_alone.ensures.place.rest) c.stands_alone.ensures.place.text c.in_ok-new.field-0 (subst
        (StringsAreSliced _ _) (sym c.in_ok-new.ensures.ok) (c.in_ok-value.ensures.advance.holds (source_there refl c.stands_alone.ensures.place.text source)));
    fault = search rules;
  };
  turns = looked_spent _ c.args.cursor.now _ c.read_bare_below.new.cursor true 1 _ _ c.stands_alone.new.cursor (omega (arith, c.requires.falls))
      c.stands_alone.ensures.place c.stands_alone.ensures.turns (made_turns _ _ c.read_bare_below.new.cursor _ (Ok _) c.in_ok-value.ensures.turns);
}

pub bare::read_bare_newtype-read_below-requires : goal.bare::read_bare_newtype-read_below-requires
bare::read_bare_newtype-read_below-requires t c =
    (omega (arith, value_within_bare c.args.context.now.schema c.args.content (length c.args.cursor.now.rest)), c.requires.1.1)

pub bare::read_bare_newtype-returns-in_err-value-clause-value : goal.bare::read_bare_newtype-returns-in_err-value-clause-value
bare::read_bare_newtype-returns-in_err-value-clause-value t c =
    let p = err_from_is_err_and c.from_residual.result c.from_residual.ensures.1 in
    rw (p.1, p.2) (λ i is room r. bare_newtype_fault _ _ room i _ _ _ c.args.content is.0 _
    (c.in_err-value.ensures.value room (room_of_bare_newtype c.args.context.now i c.args.content _ room is.1 r)))

pub bare::read_bare_newtype-returns-in_err-close_content-clause-value : goal.bare::read_bare_newtype-returns-in_err-close_content-clause-value
bare::read_bare_newtype-returns-in_err-close_content-clause-value t c =
    let p = err_from_is_err_and c.from_residual-in_err-close_content.result c.from_residual-in_err-close_content.ensures.1 in
    rw (p.1, p.2) (λ i is room r. bare_newtype_open _ _ room i _ _ _ c.args.content is.0 _ _
    (c.in_ok-value.ensures.value room (room_of_bare_newtype c.args.context.now i c.args.content _ room is.1 r)) _ c.in_err-close_content.ensures.value)

pub bare::read_bare_newtype-returns : goal.bare::read_bare_newtype-returns
bare::read_bare_newtype-returns t c = record {
  value = λ i is room r. bare_newtype_value _ _ room i _ _ _ c.args.content is.0 _ _
      (c.in_ok-value.ensures.value room (room_of_bare_newtype c.args.context.now i c.args.content _ room is.1 r)) _ c.in_ok-close_content.ensures.value
      ∙ newtype_value c.in_ok-name.name c.in_ok-new.field-0 c.in_ok-value.value _ _ c.in_ok-name.ensures.ok c.in_ok-new.ensures.ok;
  advance = record {
    text = search rules;
    no_longer = search rules;
    holds = λ source. sliced-newtype _ _ _ _ (stays _ _ refl) refl c.in_ok-name.name c.in_ok-new.field-0
        (subst (StringsAreSliced _ _) (sym c.in_ok-new.ensures.ok) (c.in_ok-value.ensures.advance.holds source));
    fault = search rules;
  };
  turns = moved_turns _ _ c.read_below.new.cursor c.close_content.new.cursor _ (Ok _) c.in_ok-value.ensures.turns c.in_ok-close_content.ensures.turns.moved
      c.in_ok-close_content.ensures.near;
}

-- ---- bare items

pub bare::read_bare_items-returns-then-not-is_empty-clause-value : goal.bare::read_bare_items-returns-then-not-is_empty-clause-value
bare::read_bare_items-returns-then-not-is_empty-clause-value t c = λ make room r. reads_same _ c.read_tuple_inside.result _ _ _
    (bare_items_here c.args.context.now room make c.args.shapes.now c.args.cursor.now (not_empty _ c.if-not-is_empty.ensures))
    (c.read_tuple_inside.ensures.value make room r)

pub bare::read_bare_items-returns-in_err-deeper-clause-value : goal.bare::read_bare_items-returns-in_err-deeper-clause-value
bare::read_bare_items-returns-in_err-deeper-clause-value t c =
    let p = err_from_is_err_and c.from_residual.result c.from_residual.ensures.1 in
    rw (p.1, p.2, c.in_err-deeper.ensures.0) (λ make room r. bare_items_ended c.args.context.now room make c.args.shapes.now c.args.cursor.now
    (is_nothing _ c.if-not-is_empty.ensures) (room_ended _ _ room c.in_err-deeper.ensures.1 r))

pub bare::read_bare_items-returns-in_err-close_bare-clause-value : goal.bare::read_bare_items-returns-in_err-close_bare-clause-value
bare::read_bare_items-returns-in_err-close_bare-clause-value t c =
    let p = err_from_is_err_and c.from_residual-in_err-close_bare.result c.from_residual-in_err-close_bare.ensures.1 in
    rw (p.1, p.2) (λ make room r. bare_end_fault (make plain.no_datas) c.args.cursor.now.rest _ (bare_items_empty c.args.context.now room make c.args.shapes.now
    c.args.cursor.now c.in_ok-deeper.field-0 c.in_ok-deeper.ensures r (is_nothing _ c.if-not-is_empty.ensures)) _ c.in_err-close_bare.ensures.value)

pub bare::read_bare_items-returns-clause-value : goal.bare::read_bare_items-returns-clause-value
bare::read_bare_items-returns-clause-value t c =
    λ make room r. bare_end_value (make plain.no_datas) c.args.cursor.now.rest _ _ (bare_items_empty c.args.context.now room make c.args.shapes.now
    c.args.cursor.now c.in_ok-deeper.field-0 c.in_ok-deeper.ensures r (is_nothing _ c.if-not-is_empty.ensures)) c.in_ok-close_bare.ensures.value
    ∙ no_items make c.new.result c.close_bare.new.cursor.rest c.new.ensures.items

-- ---- bare content by its shape

pub bare::read_bare-unreachable-requires : goal.bare::read_bare-unreachable-requires
bare::read_bare-unreachable-requires t c = let q : None ≡ Some (get_or c.args.context.now.schema c.args.index unit) =
    sym c.in-None.ensures.value ∙ slice_get-get_or c.args.context.now.schema c.args.index unit c.requires in
    cc

pub bare::read_bare-returns-in_err-close_bare-in-Some-Unit-clause-value : goal.bare::read_bare-returns-in_err-close_bare-in-Some-Unit-clause-value
bare::read_bare-returns-in_err-close_bare-in-Some-Unit-clause-value t c =
    let p = err_from_is_err_and c.from_residual.result c.from_residual.ensures.1 in
    rw (p.1, p.2) (λ room r. bare_end_fault plain.the_unit c.args.cursor.now.rest _ (bare_unit c.args.context.now.extensions c.args.context.now.schema room
    c.args.index c.args.cursor.now.gap c.args.cursor.now.rest (c.in-Some-Unit.ensures.value ∙ ap (λ s. Some (shape_view s)) c.in-Some-Unit.field-0-is)) _
    c.in_err-close_bare-in-Some-Unit.ensures.value)

pub bare::read_bare-returns-in_ok-close_bare-in-Some-Unit-clause-value : goal.bare::read_bare-returns-in_ok-close_bare-in-Some-Unit-clause-value
bare::read_bare-returns-in_ok-close_bare-in-Some-Unit-clause-value t c =
    λ room r. bare_end_value plain.the_unit c.args.cursor.now.rest _ _ (bare_unit c.args.context.now.extensions c.args.context.now.schema room c.args.index
    c.args.cursor.now.gap c.args.cursor.now.rest (c.in-Some-Unit.ensures.value ∙ ap (λ s. Some (shape_view s)) c.in-Some-Unit.field-0-is))
    c.in_ok-close_bare-in-Some-Unit.ensures.value ∙ ap (λ d. got d c.close_bare.new.cursor.rest) (sym view-unit)

pub bare::read_bare-returns-then-opens_interval-clause-value : goal.bare::read_bare-returns-then-opens_interval-clause-value
bare::read_bare-returns-then-opens_interval-clause-value t c = λ room r. reads_same _ c.read_closed.result _ _ _ (ranged_unit c.args.context.now.extensions
    c.args.context.now.schema room c.args.index c.args.cursor.now.gap c.args.cursor.now.rest _ (c.in-Some-UnitStruct.ensures.value ∙ ap
    (λ s. Some (shape_view s)) c.in-Some-UnitStruct.field-0-is) (sym c.opens_interval.ensures ∙ c.if-opens_interval.true)) (c.read_closed.ensures.value room r)

pub bare::read_bare-returns-then-opens_interval-2-clause-value : goal.bare::read_bare-returns-then-opens_interval-2-clause-value
bare::read_bare-returns-then-opens_interval-2-clause-value t c =
    λ room r. reads_same _ c.read_closed-then-opens_interval-2.result _ _ _ (ranged_struct c.args.context.now.extensions c.args.context.now.schema room
    c.args.index c.args.cursor.now.gap c.args.cursor.now.rest _ _ (c.in-Some-Struct.ensures.value ∙ ap (λ s. Some (shape_view s)) c.in-Some-Struct.field-0-is)
    (sym c.opens_interval-in-Some-Struct.ensures ∙ c.if-opens_interval-2.true)) (c.read_closed-then-opens_interval-2.ensures.value room r)

pub bare::read_bare-returns-in_err-close_bare-in-Some-UnitStruct-clause-value : goal.bare::read_bare-returns-in_err-close_bare-in-Some-UnitStruct-clause-value
bare::read_bare-returns-in_err-close_bare-in-Some-UnitStruct-clause-value t c =
    let p = err_from_is_err_and c.from_residual-in_err-close_bare-in-Some-UnitStruct.result c.from_residual-in_err-close_bare-in-Some-UnitStruct.ensures.1 in
    rw (p.1, p.2) (λ room r. bare_end_fault (plain.unit_struct_of (chars (string_bytes c.in-Some-UnitStruct.name))) c.args.cursor.now.rest _
    (bare_unit_struct c.args.context.now.extensions c.args.context.now.schema room c.args.index c.args.cursor.now.gap c.args.cursor.now.rest _
    (c.in-Some-UnitStruct.ensures.value ∙ ap (λ s. Some (shape_view s)) c.in-Some-UnitStruct.field-0-is)
    (sym c.opens_interval.ensures ∙ c.if-opens_interval.false)) _ c.in_err-close_bare-in-Some-UnitStruct.ensures.value)

pub bare::read_bare-returns-in_ok-from_str-in-Some-UnitStruct-clause-value : goal.bare::read_bare-returns-in_ok-from_str-in-Some-UnitStruct-clause-value
bare::read_bare-returns-in_ok-from_str-in-Some-UnitStruct-clause-value t c =
    λ room r. bare_end_value (plain.unit_struct_of (chars c.as_str.result.now)) c.args.cursor.now.rest _ _
    (bare_unit_struct c.args.context.now.extensions c.args.context.now.schema room c.args.index c.args.cursor.now.gap c.args.cursor.now.rest _
    (c.in-Some-UnitStruct.ensures.value ∙ ap (λ s. Some (shape_view s)) c.in-Some-UnitStruct.field-0-is ∙ ap (λ b. Some (unit_struct (chars b)))
    (sym c.as_str.ensures.value)) (sym c.opens_interval.ensures ∙ c.if-opens_interval.false)) c.in_ok-close_bare-in-Some-UnitStruct.ensures.value
    ∙ unit_struct_value c.in_ok-from_str-in-Some-UnitStruct.field-0 _ _ c.in_ok-from_str-in-Some-UnitStruct.ensures.ok

pub bare::read_bare-read_bare_items-requires : goal.bare::read_bare-read_bare_items-requires
bare::read_bare-read_bare_items-requires t c =
    let below =
    subst (λ s. holds_below (length c.args.context.now.schema) (shape_view s) ≡ true) c.in-Some-Tuple.field-0-is c.in-Some-Tuple.ensures.in_range in (
      omega (arith, items_of_bare c.args.context.now.schema c.args.index (length c.args.cursor.now.rest)),
      subst (λ js. list_all (λ j. nat_lt j (length c.args.context.now.schema)) js ≡ true) (sym c.as_slice.ensures.value) below,
    )

pub bare::read_bare-returns-in_err-items-in-Some-Tuple-clause-value : goal.bare::read_bare-returns-in_err-items-in-Some-Tuple-clause-value
bare::read_bare-returns-in_err-items-in-Some-Tuple-clause-value t c =
    let p = err_from_is_err_and c.from_residual-in_err-items-in-Some-Tuple.result c.from_residual-in_err-items-in-Some-Tuple.ensures.1 in
    rw (p.1, p.2) (λ room r.
    tuple_fault _ _ (bare_tuple c.args.context.now.extensions c.args.context.now.schema room c.args.index c.args.cursor.now.gap c.args.cursor.now.rest _
    (c.in-Some-Tuple.ensures.value ∙ ap (λ s. Some (shape_view s)) c.in-Some-Tuple.field-0-is ∙ ap (λ js. Some (tuple js)) (sym c.as_slice.ensures.value)))
    (c.in_err-items-in-Some-Tuple.ensures.value plain.tuple_of room (room_of_bare_items c.args.context.now c.args.index _ room r)))

pub bare::read_bare-returns-in_ok-items-in-Some-Tuple : goal.bare::read_bare-returns-in_ok-items-in-Some-Tuple
bare::read_bare-returns-in_ok-items-in-Some-Tuple t c = record {
  value = λ room r. bare_tuple c.args.context.now.extensions c.args.context.now.schema room c.args.index c.args.cursor.now.gap c.args.cursor.now.rest _
      (c.in-Some-Tuple.ensures.value ∙ ap (λ s. Some (shape_view s)) c.in-Some-Tuple.field-0-is ∙ ap (λ js. Some (tuple js)) (sym c.as_slice.ensures.value))
      ∙ c.in_ok-items-in-Some-Tuple.ensures.value plain.tuple_of room (room_of_bare_items c.args.context.now c.args.index _ room r)
      ∙ ap (λ d. got d c.read_bare_items.new.cursor.rest) (sym (view-tuple c.in_ok-items-in-Some-Tuple.items));
  advance = record {
    text = search rules;
    no_longer = search rules;
    holds = λ source. sliced-tuple _ _ _ _ (stays _ _ refl) refl c.in_ok-items-in-Some-Tuple.items (c.in_ok-items-in-Some-Tuple.ensures.advance.holds source);
    fault = search rules;
  };
  turns = opened_spent _ c.args.cursor.now _ c.read_bare_items.new.cursor _ _ (omega arith)
      (made_turns _ _ c.read_bare_items.new.cursor _ (Ok _) c.in_ok-items-in-Some-Tuple.ensures.turns);
}

pub bare::read_bare-read_bare_items-requires-in-Some-TupleStruct : goal.bare::read_bare-read_bare_items-requires-in-Some-TupleStruct
bare::read_bare-read_bare_items-requires-in-Some-TupleStruct t c =
    let below =
    subst (λ s. holds_below (length c.args.context.now.schema) (shape_view s) ≡ true) c.in-Some-TupleStruct.field-0-is
    c.in-Some-TupleStruct.ensures.in_range in (
      omega (arith, items_of_bare c.args.context.now.schema c.args.index (length c.args.cursor.now.rest)),
      subst (λ js. list_all (λ j. nat_lt j (length c.args.context.now.schema)) js ≡ true) (sym c.as_slice-in-Some-TupleStruct.ensures.value) below,
    )

pub bare::read_bare-returns-in_err-items-in-Some-TupleStruct-clause-value : goal.bare::read_bare-returns-in_err-items-in-Some-TupleStruct-clause-value
bare::read_bare-returns-in_err-items-in-Some-TupleStruct-clause-value t c =
    let p = err_from_is_err_and c.from_residual-in_err-items-in-Some-TupleStruct.result c.from_residual-in_err-items-in-Some-TupleStruct.ensures.1 in
    rw (p.1, p.2) (λ room r. tuple_fault _ _ (bare_tuple_struct c.args.context.now.extensions c.args.context.now.schema room c.args.index c.args.cursor.now.gap
    c.args.cursor.now.rest _ _ (c.in-Some-TupleStruct.ensures.value ∙ ap (λ s. Some (shape_view s)) c.in-Some-TupleStruct.field-0-is
    ∙ ap₂ (λ b js. Some (tuple_struct (chars b) js)) (sym c.as_str-name.ensures.value) (sym c.as_slice-in-Some-TupleStruct.ensures.value)))
    (c.in_err-items-in-Some-TupleStruct.ensures.value (plain.tuple_struct_of (chars c.as_str-name.result.now)) room
    (room_of_bare_items c.args.context.now c.args.index _ room r)))

pub bare::read_bare-returns-in_ok-from_str-in-Some-TupleStruct : goal.bare::read_bare-returns-in_ok-from_str-in-Some-TupleStruct
bare::read_bare-returns-in_ok-from_str-in-Some-TupleStruct t c = record {
  value = λ room r. bare_tuple_struct c.args.context.now.extensions c.args.context.now.schema room c.args.index c.args.cursor.now.gap c.args.cursor.now.rest _ _
      (c.in-Some-TupleStruct.ensures.value ∙ ap (λ s. Some (shape_view s)) c.in-Some-TupleStruct.field-0-is ∙ ap₂ (λ b js. Some (tuple_struct (chars b) js))
      (sym c.as_str-name.ensures.value) (sym c.as_slice-in-Some-TupleStruct.ensures.value)) ∙ c.in_ok-items-in-Some-TupleStruct.ensures.value
      (plain.tuple_struct_of (chars c.as_str-name.result.now)) room (room_of_bare_items c.args.context.now c.args.index _ room r)
      ∙ tuple_struct_value c.in_ok-from_str-in-Some-TupleStruct.field-0 c.in_ok-items-in-Some-TupleStruct.items _ _
      c.in_ok-from_str-in-Some-TupleStruct.ensures.ok;
  advance = record {
    text = search rules;
    no_longer = search rules;
    holds = λ source. sliced-tuple_struct _ _ _ _ (stays _ _ refl) refl c.in_ok-from_str-in-Some-TupleStruct.field-0 c.in_ok-items-in-Some-TupleStruct.items
        (c.in_ok-items-in-Some-TupleStruct.ensures.advance.holds source);
    fault = search rules;
  };
  turns = opened_spent _ c.args.cursor.now _ c.read_bare_items-in-Some-TupleStruct.new.cursor _ _ (omega arith)
      (made_turns _ _ c.read_bare_items-in-Some-TupleStruct.new.cursor _ (Ok _) c.in_ok-items-in-Some-TupleStruct.ensures.turns);
}

pub bare::read_bare-read_fields_inside-requires : goal.bare::read_bare-read_fields_inside-requires
bare::read_bare-read_fields_inside-requires t c =
    let below =
    subst (λ s. holds_below (length c.args.context.now.schema) (shape_view s) ≡ true) c.in-Some-Struct.field-0-is c.in-Some-Struct.ensures.in_range in
    let differ = subst (λ s. has_distinct_names (shape_view s) ≡ true) c.in-Some-Struct.field-0-is c.in-Some-Struct.ensures.distinct in
    (omega (arith, items_of_bare c.args.context.now.schema c.args.index (length c.args.cursor.now.rest)), (below, differ))

pub bare::read_bare-returns-in_err-fields-in-Some-Struct-clause-value : goal.bare::read_bare-returns-in_err-fields-in-Some-Struct-clause-value
bare::read_bare-returns-in_err-fields-in-Some-Struct-clause-value t c =
    let p = err_from_is_err_and c.from_residual-in_err-fields-in-Some-Struct.result c.from_residual-in_err-fields-in-Some-Struct.ensures.1 in
    rw (p.1, p.2) (λ room r. tuple_fault _ _ (bare_struct c.args.context.now.extensions c.args.context.now.schema room c.args.index c.args.cursor.now.gap
    c.args.cursor.now.rest _ _ (c.in-Some-Struct.ensures.value ∙ ap (λ s. Some (shape_view s)) c.in-Some-Struct.field-0-is
    ∙ ap (λ b. Some (struct (chars b) (list_view c.in-Some-Struct.list))) (sym c.as_str-name-in-Some-Struct.ensures.value))
    (sym c.opens_interval-in-Some-Struct.ensures ∙ c.if-opens_interval-2.false)) (c.in_err-fields-in-Some-Struct.ensures.value
    (plain.struct_of (chars c.as_str-name-in-Some-Struct.result.now)) room (room_of_bare_items c.args.context.now c.args.index _ room r)))

pub bare::read_bare-returns-in_ok-from_str-in-Some-Struct : goal.bare::read_bare-returns-in_ok-from_str-in-Some-Struct
bare::read_bare-returns-in_ok-from_str-in-Some-Struct t c = record {
  value = λ room r. bare_struct c.args.context.now.extensions c.args.context.now.schema room c.args.index c.args.cursor.now.gap c.args.cursor.now.rest _ _
      (c.in-Some-Struct.ensures.value ∙ ap (λ s. Some (shape_view s)) c.in-Some-Struct.field-0-is
      ∙ ap (λ b. Some (struct (chars b) (list_view c.in-Some-Struct.list))) (sym c.as_str-name-in-Some-Struct.ensures.value))
      (sym c.opens_interval-in-Some-Struct.ensures ∙ c.if-opens_interval-2.false) ∙ c.in_ok-fields-in-Some-Struct.ensures.value
      (plain.struct_of (chars c.as_str-name-in-Some-Struct.result.now)) room (room_of_bare_items c.args.context.now c.args.index _ room r)
      ∙ struct_value c.in_ok-from_str-in-Some-Struct.field-0 c.in_ok-fields-in-Some-Struct.fields _ _ c.in_ok-from_str-in-Some-Struct.ensures.ok;
  advance = record {
    text = search rules;
    no_longer = search rules;
    holds = λ source. sliced-struct _ _ _ _ (stays _ _ refl) refl c.in_ok-from_str-in-Some-Struct.field-0 c.in_ok-fields-in-Some-Struct.fields
        (c.in_ok-fields-in-Some-Struct.ensures.advance.holds source);
    fault = search rules;
  };
  turns = opened_spent _ c.args.cursor.now _ c.read_fields_inside.new.cursor _ _ (omega arith)
      (made_turns _ _ c.read_fields_inside.new.cursor _ (Ok _) c.in_ok-fields-in-Some-Struct.ensures.turns);
}

pub bare::read_bare-returns-in-Some-Bool-clause-value : goal.bare::read_bare-returns-in-Some-Bool-clause-value
bare::read_bare-returns-in-Some-Bool-clause-value t c = λ room r. reads_same _ c.read_closed-in-Some-Bool.result _ _ _
    (bare_plain c.args.context.now.extensions c.args.context.now.schema room c.args.index c.args.cursor.now.gap c.args.cursor.now.rest _
    (c.in-Some-Bool.ensures.value ∙ ap (λ s. Some (shape_view s)) c.in-Some-Bool.field-0-is) refl) (c.read_closed-in-Some-Bool.ensures.value room r)

pub bare::read_bare-returns-in-Some-Int-clause-value : goal.bare::read_bare-returns-in-Some-Int-clause-value
bare::read_bare-returns-in-Some-Int-clause-value t c = λ room r. reads_same _ c.read_closed-in-Some-Int.result _ _ _
    (bare_plain c.args.context.now.extensions c.args.context.now.schema room c.args.index c.args.cursor.now.gap c.args.cursor.now.rest _
    (c.in-Some-Int.ensures.value ∙ ap (λ s. Some (shape_view s)) c.in-Some-Int.field-0-is) refl) (c.read_closed-in-Some-Int.ensures.value room r)

pub bare::read_bare-returns-in-Some-Char-clause-value : goal.bare::read_bare-returns-in-Some-Char-clause-value
bare::read_bare-returns-in-Some-Char-clause-value t c = λ room r. reads_same _ c.read_closed-in-Some-Char.result _ _ _
    (bare_plain c.args.context.now.extensions c.args.context.now.schema room c.args.index c.args.cursor.now.gap c.args.cursor.now.rest _
    (c.in-Some-Char.ensures.value ∙ ap (λ s. Some (shape_view s)) c.in-Some-Char.field-0-is) refl) (c.read_closed-in-Some-Char.ensures.value room r)

pub bare::read_bare-returns-in-Some-Str-clause-value : goal.bare::read_bare-returns-in-Some-Str-clause-value
bare::read_bare-returns-in-Some-Str-clause-value t c = λ room r. reads_same _ c.read_closed-in-Some-Str.result _ _ _
    (bare_plain c.args.context.now.extensions c.args.context.now.schema room c.args.index c.args.cursor.now.gap c.args.cursor.now.rest _
    (c.in-Some-Str.ensures.value ∙ ap (λ s. Some (shape_view s)) c.in-Some-Str.field-0-is) refl) (c.read_closed-in-Some-Str.ensures.value room r)

pub bare::read_bare-returns-in-Some-Bytes-clause-value : goal.bare::read_bare-returns-in-Some-Bytes-clause-value
bare::read_bare-returns-in-Some-Bytes-clause-value t c = λ room r. reads_same _ c.read_closed-in-Some-Bytes.result _ _ _
    (bare_plain c.args.context.now.extensions c.args.context.now.schema room c.args.index c.args.cursor.now.gap c.args.cursor.now.rest _
    (c.in-Some-Bytes.ensures.value ∙ ap (λ s. Some (shape_view s)) c.in-Some-Bytes.field-0-is) refl) (c.read_closed-in-Some-Bytes.ensures.value room r)

pub bare::read_bare-returns-in-Some-Seq-clause-value : goal.bare::read_bare-returns-in-Some-Seq-clause-value
bare::read_bare-returns-in-Some-Seq-clause-value t c = λ room r. reads_same _ c.read_closed-in-Some-Seq.result _ _ _
    (bare_plain c.args.context.now.extensions c.args.context.now.schema room c.args.index c.args.cursor.now.gap c.args.cursor.now.rest _
    (c.in-Some-Seq.ensures.value ∙ ap (λ s. Some (shape_view s)) c.in-Some-Seq.field-0-is) refl) (c.read_closed-in-Some-Seq.ensures.value room r)

pub bare::read_bare-returns-in-Some-Map-clause-value : goal.bare::read_bare-returns-in-Some-Map-clause-value
bare::read_bare-returns-in-Some-Map-clause-value t c = λ room r. reads_same _ c.read_closed-in-Some-Map.result _ _ _
    (bare_plain c.args.context.now.extensions c.args.context.now.schema room c.args.index c.args.cursor.now.gap c.args.cursor.now.rest _
    (c.in-Some-Map.ensures.value ∙ ap (λ s. Some (shape_view s)) c.in-Some-Map.field-0-is) refl) (c.read_closed-in-Some-Map.ensures.value room r)

pub bare::read_bare-returns-in-Some-Enum-clause-value : goal.bare::read_bare-returns-in-Some-Enum-clause-value
bare::read_bare-returns-in-Some-Enum-clause-value t c = λ room r. reads_same _ c.read_closed-in-Some-Enum.result _ _ _
    (bare_plain c.args.context.now.extensions c.args.context.now.schema room c.args.index c.args.cursor.now.gap c.args.cursor.now.rest _
    (c.in-Some-Enum.ensures.value ∙ ap (λ s. Some (shape_view s)) c.in-Some-Enum.field-0-is) refl) (c.read_closed-in-Some-Enum.ensures.value room r)

pub bare::read_bare-returns-in-Some-Raw-clause-value : goal.bare::read_bare-returns-in-Some-Raw-clause-value
bare::read_bare-returns-in-Some-Raw-clause-value t c =
    c.read_bare_raw.ensures.value c.args.index (c.in-Some-Raw.ensures.value ∙ ap (λ s. Some (shape_view s)) c.in-Some-Raw.field-0-is, tt)

pub bare::read_bare-read_bare_newtype-requires : goal.bare::read_bare-read_bare_newtype-requires
bare::read_bare-read_bare_newtype-requires t c =
    let below =
    subst (λ s. holds_below (length c.args.context.now.schema) (shape_view s) ≡ true) c.in-Some-Newtype.field-0-is c.in-Some-Newtype.ensures.in_range in
    let falls =
    subst (λ s. IsOneLonger c.args.context.now.schema c.args.index (content_of (shape_view s))) c.in-Some-Newtype.field-0-is
    c.in-Some-Newtype.ensures.falls in (
      omega (arith, held_of_bare c.args.context.now.schema true c.args.index c.in-Some-Newtype.content (length c.args.cursor.now.rest) falls),
      ltb-true _ _ below,
    )

pub bare::read_bare-returns-in-Some-Newtype-clause-value : goal.bare::read_bare-returns-in-Some-Newtype-clause-value
bare::read_bare-returns-in-Some-Newtype-clause-value t c = c.read_bare_newtype.ensures.value c.args.index (
  c.in-Some-Newtype.ensures.value ∙ ap (λ s. Some (shape_view s)) c.in-Some-Newtype.field-0-is
      ∙ ap (λ b. Some (newtype (chars b) c.in-Some-Newtype.content)) (sym c.as_str-in-Some-Newtype.ensures.value),
  subst (λ s. IsOneLonger c.args.context.now.schema c.args.index (content_of (shape_view s))) c.in-Some-Newtype.field-0-is c.in-Some-Newtype.ensures.falls,
)

pub bare::read_bare-returns-in-Some-Value-clause-value : goal.bare::read_bare-returns-in-Some-Value-clause-value
bare::read_bare-returns-in-Some-Value-clause-value t c =
    c.read_bare_untyped.ensures.value c.args.index (c.in-Some-Value.ensures.value ∙ ap (λ s. Some (shape_view s)) c.in-Some-Value.field-0-is, tt)
