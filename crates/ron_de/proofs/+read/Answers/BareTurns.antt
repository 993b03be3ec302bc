-- The count of turns in reading bare content.
use Rattle.std.proofs.Common.{Ok, Some, arith, subst, true, Err, ◌+◌}
use Rattle.std.proofs.lemmas.Result.{err_from_is_err_and}
use Rattle.ron_spec_grammar.specs.Data as plain
use Rattle.ron_spec_grammar.specs.Schema.{content_of}
use Rattle.ron_data_schema.specs.Shapes.{shape_view, IsOneLonger}
use Rattle.ron_de_parts.proofs.KeptLemmas.{kept_anyhow}
use Rattle.ron_de_parts.specs.Slices.{StringsAreSliced}
use Rattle.ron_spec_grammar.specs.Room.{rank}
use Rattle.ron_de.proofs.TurnLemmas.{made_turns, refused_turns, open_turns, moved_turns, settled_spent, spent_more, opened_spent, looked_spent, here_spent}
use Rattle.ron_de.proofs.TurnLemmas.{word_settled, scan_settled, step_settled}
use Rattle.ron_de.proofs.+read.Goals as goal

-- ---- the count

pub bare::read_closed-returns-in_err-value-clause-turns : goal.bare::read_closed-returns-in_err-value-clause-turns
bare::read_closed-returns-in_err-value-clause-turns t c =
    let p = err_from_is_err_and c.from_residual.result c.from_residual.ensures.1 in
    rw (p.1, p.2) (refused_turns _ _ c.read_value.new.cursor _ _ c.in_err-value.ensures.turns)

pub bare::read_closed-returns-in_err-close_content-clause-turns : goal.bare::read_closed-returns-in_err-close_content-clause-turns
bare::read_closed-returns-in_err-close_content-clause-turns t c =
    let p = err_from_is_err_and c.from_residual-in_err-close_content.result c.from_residual-in_err-close_content.ensures.1 in
    rw (p.1, p.2) (open_turns _ _ c.read_value.new.cursor c.close_content.new.cursor _ _ c.in_ok-value.ensures.turns c.in_err-close_content.ensures.turns.most)

pub bare::read_bare_newtype-returns-in_err-value-clause-turns : goal.bare::read_bare_newtype-returns-in_err-value-clause-turns
bare::read_bare_newtype-returns-in_err-value-clause-turns t c =
    let p = err_from_is_err_and c.from_residual.result c.from_residual.ensures.1 in
    rw (p.1, p.2) (refused_turns _ _ c.read_below.new.cursor _ _ c.in_err-value.ensures.turns)

pub bare::read_bare_newtype-returns-in_err-close_content-clause-turns : goal.bare::read_bare_newtype-returns-in_err-close_content-clause-turns
bare::read_bare_newtype-returns-in_err-close_content-clause-turns t c =
    let p = err_from_is_err_and c.from_residual-in_err-close_content.result c.from_residual-in_err-close_content.ensures.1 in
    rw (p.1, p.2) (open_turns _ _ c.read_below.new.cursor c.close_content.new.cursor _ _ c.in_ok-value.ensures.turns c.in_err-close_content.ensures.turns.most)

pub bare::read_closed-returns-clause-turns : goal.bare::read_closed-returns-clause-turns
bare::read_closed-returns-clause-turns t c = moved_turns _ _ c.read_value.new.cursor c.close_content.new.cursor _ (Ok _) c.in_ok-value.ensures.turns
    c.in_ok-close_content.ensures.turns.moved c.in_ok-close_content.ensures.near

pub bare::read_bare_newtype-returns-in_err-name-clause-turns : goal.bare::read_bare_newtype-returns-in_err-name-clause-turns
bare::read_bare_newtype-returns-in_err-name-clause-turns t c =
    let p = err_from_is_err_and c.from_residual-in_err-name.result c.from_residual-in_err-name.ensures.1 in
    rw (p.1, p.2) (moved_turns _ _ c.read_below.new.cursor c.close_content.new.cursor _ (Err _) c.in_ok-value.ensures.turns
    c.in_ok-close_content.ensures.turns.moved c.in_ok-close_content.ensures.near)

pub bare::read_bare_newtype-returns-in_err-new-clause-turns : goal.bare::read_bare_newtype-returns-in_err-new-clause-turns
bare::read_bare_newtype-returns-in_err-new-clause-turns t c =
    let p = err_from_is_err_and c.from_residual-in_err-new.result c.from_residual-in_err-new.ensures.1 in
    rw (p.1, p.2) (moved_turns _ _ c.read_below.new.cursor c.close_content.new.cursor _ (Err _) c.in_ok-value.ensures.turns
    c.in_ok-close_content.ensures.turns.moved c.in_ok-close_content.ensures.near)

pub bare::read_bare_option-returns-then-not-stands_alone-clause-turns : goal.bare::read_bare_option-returns-then-not-stands_alone-clause-turns
bare::read_bare_option-returns-then-not-stands_alone-clause-turns t c = looked_spent _ c.args.cursor.now c.read_closed.result c.read_closed.new.cursor true 1
    (rank c.args.context.now.schema c.args.index + 2) _ c.stands_alone.new.cursor (omega arith) c.stands_alone.ensures.place c.stands_alone.ensures.turns
    (opened_spent _ c.stands_alone.new.cursor c.read_closed.result c.read_closed.new.cursor _ _ (omega arith) c.read_closed.ensures.turns)

pub bare::read_bare_option-returns-in_err-value-clause-turns : goal.bare::read_bare_option-returns-in_err-value-clause-turns
bare::read_bare_option-returns-in_err-value-clause-turns t c =
    let p = err_from_is_err_and c.from_residual.result c.from_residual.ensures.1 in
    rw (p.1, p.2) (looked_spent _ c.args.cursor.now _ c.read_bare_below.new.cursor true 1 _ _ c.stands_alone.new.cursor (omega (arith, c.requires.falls))
    c.stands_alone.ensures.place c.stands_alone.ensures.turns (refused_turns _ _ c.read_bare_below.new.cursor _ _ c.in_err-value.ensures.turns))

pub bare::read_bare_option-returns-in_err-new-clause-turns : goal.bare::read_bare_option-returns-in_err-new-clause-turns
bare::read_bare_option-returns-in_err-new-clause-turns t c =
    let p = err_from_is_err_and c.from_residual-in_err-new.result c.from_residual-in_err-new.ensures.1 in
    rw (p.1, p.2) (looked_spent _ c.args.cursor.now _ c.read_bare_below.new.cursor true 1 _ _ c.stands_alone.new.cursor (omega (arith, c.requires.falls))
    c.stands_alone.ensures.place c.stands_alone.ensures.turns (made_turns _ _ c.read_bare_below.new.cursor _ (Err _) c.in_ok-value.ensures.turns))

pub bare::read_bare_items-returns-in_err-deeper-clause-turns : goal.bare::read_bare_items-returns-in_err-deeper-clause-turns
bare::read_bare_items-returns-in_err-deeper-clause-turns t c =
    let p = err_from_is_err_and c.from_residual.result c.from_residual.ensures.1 in
    rw (p.1, p.2) (here_spent _ _ c.args.cursor.now c.args.cursor.now _ (omega arith))

pub bare::read_bare_items-returns-in_err-close_bare-clause-turns : goal.bare::read_bare_items-returns-in_err-close_bare-clause-turns
bare::read_bare_items-returns-in_err-close_bare-clause-turns t c =
    let p = err_from_is_err_and c.from_residual-in_err-close_bare.result c.from_residual-in_err-close_bare.ensures.1 in
    rw (p.1, p.2) (settled_spent _ c.args.cursor.now _ c.close_bare.new.cursor _
    (scan_settled _ c.args.cursor.now c.close_bare.new.cursor _ c.in_err-close_bare.ensures.turns.most))

pub bare::read_bare_items-returns-clause-turns : goal.bare::read_bare_items-returns-clause-turns
bare::read_bare_items-returns-clause-turns t c = settled_spent _ c.args.cursor.now _ c.close_bare.new.cursor _
    (word_settled _ c.args.cursor.now _ c.close_bare.new.cursor c.in_ok-close_bare.ensures.turns.moved c.in_ok-close_bare.ensures.near)

pub bare::read_bare-returns-in_err-close_bare-in-Some-Unit-clause-turns : goal.bare::read_bare-returns-in_err-close_bare-in-Some-Unit-clause-turns
bare::read_bare-returns-in_err-close_bare-in-Some-Unit-clause-turns t c =
    let p = err_from_is_err_and c.from_residual.result c.from_residual.ensures.1 in
    rw (p.1, p.2) (settled_spent _ c.args.cursor.now _ c.close_bare.new.cursor _
    (scan_settled _ c.args.cursor.now c.close_bare.new.cursor _ c.in_err-close_bare-in-Some-Unit.ensures.turns.most))

pub bare::read_bare-returns-in_ok-close_bare-in-Some-Unit-clause-turns : goal.bare::read_bare-returns-in_ok-close_bare-in-Some-Unit-clause-turns
bare::read_bare-returns-in_ok-close_bare-in-Some-Unit-clause-turns t c = settled_spent _ c.args.cursor.now _ c.close_bare.new.cursor _ (word_settled _
    c.args.cursor.now _ c.close_bare.new.cursor c.in_ok-close_bare-in-Some-Unit.ensures.turns.moved c.in_ok-close_bare-in-Some-Unit.ensures.near)

pub bare::read_bare-returns-then-opens_interval-clause-turns : goal.bare::read_bare-returns-then-opens_interval-clause-turns
bare::read_bare-returns-then-opens_interval-clause-turns t c =
    opened_spent _ c.args.cursor.now c.read_closed.result c.read_closed.new.cursor _ _ (omega arith) c.read_closed.ensures.turns

pub bare::read_bare-returns-then-opens_interval-2-clause-turns : goal.bare::read_bare-returns-then-opens_interval-2-clause-turns
bare::read_bare-returns-then-opens_interval-2-clause-turns t c = opened_spent _ c.args.cursor.now c.read_closed-then-opens_interval-2.result
    c.read_closed-then-opens_interval-2.new.cursor _ _ (omega arith) c.read_closed-then-opens_interval-2.ensures.turns

pub bare::read_bare-returns-in_err-close_bare-in-Some-UnitStruct-clause-turns : goal.bare::read_bare-returns-in_err-close_bare-in-Some-UnitStruct-clause-turns
bare::read_bare-returns-in_err-close_bare-in-Some-UnitStruct-clause-turns t c =
    let p = err_from_is_err_and c.from_residual-in_err-close_bare-in-Some-UnitStruct.result c.from_residual-in_err-close_bare-in-Some-UnitStruct.ensures.1 in
    rw (p.1, p.2) (settled_spent _ c.args.cursor.now _ c.close_bare-in-Some-UnitStruct.new.cursor _
    (scan_settled _ c.args.cursor.now c.close_bare-in-Some-UnitStruct.new.cursor _ c.in_err-close_bare-in-Some-UnitStruct.ensures.turns.most))

pub bare::read_bare-returns-in_err-from_str-in-Some-UnitStruct-clause-turns : goal.bare::read_bare-returns-in_err-from_str-in-Some-UnitStruct-clause-turns
bare::read_bare-returns-in_err-from_str-in-Some-UnitStruct-clause-turns t c =
    let p = err_from_is_err_and c.from_residual-in_err-from_str-in-Some-UnitStruct.result c.from_residual-in_err-from_str-in-Some-UnitStruct.ensures.1 in
    rw (p.1, p.2) (settled_spent _ c.args.cursor.now _ c.close_bare-in-Some-UnitStruct.new.cursor _
    (step_settled _ c.args.cursor.now c.close_bare-in-Some-UnitStruct.new.cursor _ c.in_ok-close_bare-in-Some-UnitStruct.ensures.turns.moved))

pub bare::read_bare-returns-in_ok-from_str-in-Some-UnitStruct-clause-turns : goal.bare::read_bare-returns-in_ok-from_str-in-Some-UnitStruct-clause-turns
bare::read_bare-returns-in_ok-from_str-in-Some-UnitStruct-clause-turns t c =
    settled_spent _ c.args.cursor.now _ c.close_bare-in-Some-UnitStruct.new.cursor _ (word_settled _ c.args.cursor.now _
    c.close_bare-in-Some-UnitStruct.new.cursor c.in_ok-close_bare-in-Some-UnitStruct.ensures.turns.moved c.in_ok-close_bare-in-Some-UnitStruct.ensures.near)

pub bare::read_bare-returns-in_err-items-in-Some-Tuple-clause-turns : goal.bare::read_bare-returns-in_err-items-in-Some-Tuple-clause-turns
bare::read_bare-returns-in_err-items-in-Some-Tuple-clause-turns t c =
    let p = err_from_is_err_and c.from_residual-in_err-items-in-Some-Tuple.result c.from_residual-in_err-items-in-Some-Tuple.ensures.1 in
    rw (p.1, p.2) (opened_spent _ c.args.cursor.now _ c.read_bare_items.new.cursor _ _ (omega arith)
    (refused_turns _ _ c.read_bare_items.new.cursor _ _ c.in_err-items-in-Some-Tuple.ensures.turns))

pub bare::read_bare-returns-in_err-items-in-Some-TupleStruct-clause-turns : goal.bare::read_bare-returns-in_err-items-in-Some-TupleStruct-clause-turns
bare::read_bare-returns-in_err-items-in-Some-TupleStruct-clause-turns t c =
    let p = err_from_is_err_and c.from_residual-in_err-items-in-Some-TupleStruct.result c.from_residual-in_err-items-in-Some-TupleStruct.ensures.1 in
    rw (p.1, p.2) (opened_spent _ c.args.cursor.now _ c.read_bare_items-in-Some-TupleStruct.new.cursor _ _ (omega arith)
    (refused_turns _ _ c.read_bare_items-in-Some-TupleStruct.new.cursor _ _ c.in_err-items-in-Some-TupleStruct.ensures.turns))

pub bare::read_bare-returns-in_err-from_str-in-Some-TupleStruct-clause-turns : goal.bare::read_bare-returns-in_err-from_str-in-Some-TupleStruct-clause-turns
bare::read_bare-returns-in_err-from_str-in-Some-TupleStruct-clause-turns t c =
    let p = err_from_is_err_and c.from_residual-in_err-from_str-in-Some-TupleStruct.result c.from_residual-in_err-from_str-in-Some-TupleStruct.ensures.1 in
    rw (p.1, p.2) (opened_spent _ c.args.cursor.now _ c.read_bare_items-in-Some-TupleStruct.new.cursor _ _ (omega arith)
    (made_turns _ _ c.read_bare_items-in-Some-TupleStruct.new.cursor _ (Err _) c.in_ok-items-in-Some-TupleStruct.ensures.turns))

pub bare::read_bare-returns-in_err-fields-in-Some-Struct-clause-turns : goal.bare::read_bare-returns-in_err-fields-in-Some-Struct-clause-turns
bare::read_bare-returns-in_err-fields-in-Some-Struct-clause-turns t c =
    let p = err_from_is_err_and c.from_residual-in_err-fields-in-Some-Struct.result c.from_residual-in_err-fields-in-Some-Struct.ensures.1 in
    rw (p.1, p.2) (opened_spent _ c.args.cursor.now _ c.read_fields_inside.new.cursor _ _ (omega arith)
    (refused_turns _ _ c.read_fields_inside.new.cursor _ _ c.in_err-fields-in-Some-Struct.ensures.turns))

pub bare::read_bare-returns-in_err-from_str-in-Some-Struct-clause-turns : goal.bare::read_bare-returns-in_err-from_str-in-Some-Struct-clause-turns
bare::read_bare-returns-in_err-from_str-in-Some-Struct-clause-turns t c =
    let p = err_from_is_err_and c.from_residual-in_err-from_str-in-Some-Struct.result c.from_residual-in_err-from_str-in-Some-Struct.ensures.1 in
    rw (p.1, p.2) (opened_spent _ c.args.cursor.now _ c.read_fields_inside.new.cursor _ _ (omega arith)
    (made_turns _ _ c.read_fields_inside.new.cursor _ (Err _) c.in_ok-fields-in-Some-Struct.ensures.turns))

pub bare::read_bare-returns-in-Some-Bool-clause-turns : goal.bare::read_bare-returns-in-Some-Bool-clause-turns
bare::read_bare-returns-in-Some-Bool-clause-turns t c = opened_spent _ c.args.cursor.now c.read_closed-in-Some-Bool.result c.read_closed-in-Some-Bool.new.cursor
    _ _ (omega arith) c.read_closed-in-Some-Bool.ensures.turns

pub bare::read_bare-returns-in-Some-Int-clause-turns : goal.bare::read_bare-returns-in-Some-Int-clause-turns
bare::read_bare-returns-in-Some-Int-clause-turns t c = opened_spent _ c.args.cursor.now c.read_closed-in-Some-Int.result c.read_closed-in-Some-Int.new.cursor _
    _ (omega arith) c.read_closed-in-Some-Int.ensures.turns

pub bare::read_bare-returns-in-Some-Char-clause-turns : goal.bare::read_bare-returns-in-Some-Char-clause-turns
bare::read_bare-returns-in-Some-Char-clause-turns t c = opened_spent _ c.args.cursor.now c.read_closed-in-Some-Char.result c.read_closed-in-Some-Char.new.cursor
    _ _ (omega arith) c.read_closed-in-Some-Char.ensures.turns

pub bare::read_bare-returns-in-Some-Str-clause-turns : goal.bare::read_bare-returns-in-Some-Str-clause-turns
bare::read_bare-returns-in-Some-Str-clause-turns t c = opened_spent _ c.args.cursor.now c.read_closed-in-Some-Str.result c.read_closed-in-Some-Str.new.cursor _
    _ (omega arith) c.read_closed-in-Some-Str.ensures.turns

pub bare::read_bare-returns-in-Some-Bytes-clause-turns : goal.bare::read_bare-returns-in-Some-Bytes-clause-turns
bare::read_bare-returns-in-Some-Bytes-clause-turns t c = opened_spent _ c.args.cursor.now c.read_closed-in-Some-Bytes.result
    c.read_closed-in-Some-Bytes.new.cursor _ _ (omega arith) c.read_closed-in-Some-Bytes.ensures.turns

pub bare::read_bare-returns-in-Some-Seq-clause-turns : goal.bare::read_bare-returns-in-Some-Seq-clause-turns
bare::read_bare-returns-in-Some-Seq-clause-turns t c = opened_spent _ c.args.cursor.now c.read_closed-in-Some-Seq.result c.read_closed-in-Some-Seq.new.cursor _
    _ (omega arith) c.read_closed-in-Some-Seq.ensures.turns

pub bare::read_bare-returns-in-Some-Map-clause-turns : goal.bare::read_bare-returns-in-Some-Map-clause-turns
bare::read_bare-returns-in-Some-Map-clause-turns t c = opened_spent _ c.args.cursor.now c.read_closed-in-Some-Map.result c.read_closed-in-Some-Map.new.cursor _
    _ (omega arith) c.read_closed-in-Some-Map.ensures.turns

pub bare::read_bare-returns-in-Some-Enum-clause-turns : goal.bare::read_bare-returns-in-Some-Enum-clause-turns
bare::read_bare-returns-in-Some-Enum-clause-turns t c = opened_spent _ c.args.cursor.now c.read_closed-in-Some-Enum.result c.read_closed-in-Some-Enum.new.cursor
    _ _ (omega arith) c.read_closed-in-Some-Enum.ensures.turns

pub bare::read_bare-returns-in-Some-Raw-clause-turns : goal.bare::read_bare-returns-in-Some-Raw-clause-turns
bare::read_bare-returns-in-Some-Raw-clause-turns t c =
    spent_more _ c.args.cursor.now c.read_bare_raw.result c.read_bare_raw.new.cursor 2 _ (omega arith) (c.read_bare_raw.ensures.turns _)

pub bare::read_bare-returns-in-Some-Value-clause-advance : goal.bare::read_bare-returns-in-Some-Value-clause-advance
bare::read_bare-returns-in-Some-Value-clause-advance t c =
    let a = c.read_bare_untyped.ensures.advance in
    record {
      text = a.text;
      no_longer = a.no_longer;
      holds = kept_anyhow (StringsAreSliced c.args.cursor.now.rest) _ _ c.read_bare_untyped.result a.holds;
      fault = a.fault;
    }

pub bare::read_bare-returns-in-Some-Value-clause-turns : goal.bare::read_bare-returns-in-Some-Value-clause-turns
bare::read_bare-returns-in-Some-Value-clause-turns t c =
    spent_more _ c.args.cursor.now c.read_bare_untyped.result c.read_bare_untyped.new.cursor 2 _ (omega arith) (c.read_bare_untyped.ensures.turns _)

pub bare::read_bare-returns-in-Some-Newtype-clause-turns : goal.bare::read_bare-returns-in-Some-Newtype-clause-turns
bare::read_bare-returns-in-Some-Newtype-clause-turns t c =
    let falls =
    subst (λ s. IsOneLonger c.args.context.now.schema c.args.index (content_of (shape_view s))) c.in-Some-Newtype.field-0-is c.in-Some-Newtype.ensures.falls in
    opened_spent _ c.args.cursor.now c.read_bare_newtype.result c.read_bare_newtype.new.cursor _ _ (omega (arith, falls)) c.read_bare_newtype.ensures.turns
