-- Reading at the start of a text.
use Rattle.std.proofs.Common.{◌≡◌, None, Some, Ok, Err, get_or, length, refl, sym, ap, subst, ◌∙◌, chars, string_bytes, List, arith, false, rules}
use Rattle.std.proofs.lemmas.Result.{err_from_is_err_and}
use Rattle.std.proofs.lemmas.Option.{slice_get-get_or}
use Rattle.ron_spec_words.specs.Reader.{meant}
use Rattle.ron_spec_grammar.specs.Data as plain
use Rattle.ron_spec_grammar.specs.Schema.{unit, content_of, Shape}
use Rattle.ron_spec_grammar.specs.Shapes.Option.{some_data}
use Rattle.ron_spec_grammar.specs.Shapes.Newtype.{newtype_data}
use Rattle.ron_data_schema.specs.Shapes.{shape_view, IsOneLonger}
use Rattle.ron_de_parts.proofs.RoomLemmas.{room_ended}
use Rattle.ron_de_parts.proofs.ContentLemmas.{made_of}
use Rattle.ron_de_parts.specs.Slices.{StringsAreSliced}
use Rattle.ron_de_parts.proofs.KeptLemmas.{source_there}
use Rattle.ron_de_parts.proofs.SliceLemmas.{sliced-some, sliced-newtype, stays, data_there}
use Rattle.ron_de.proofs.HeldLemmas.{room_of_held, newtype_value}
use Rattle.ron_de.proofs.BareLemmas.{option_value}
use Rattle.ron_de.proofs.FirstLemmas.{option_there, newtype_there, option_alone, newtype_alone, below_first_ended, reads_alike, reads_anywhere, reads_first}
use Rattle.ron_de.proofs.TurnLemmas.{made_turns, refused_turns, spent_more, looked_spent, here_spent, look_spent}
use Rattle.ron_de_steps.proofs.KeepLemmas.{raw_typed}
use Rattle.ron_de.specs.Turns.{SpendsLooked}
use Rattle.ron_de.proofs.first.+read_first.Goals as goal

pub unreachable-requires : goal.unreachable-requires
unreachable-requires t c = let q : None ≡ Some (get_or c.args.context.now.schema c.args.index unit) =
    sym c.in-None.ensures.value ∙ slice_get-get_or c.args.context.now.schema c.args.index unit c.requires in
    cc

-- ---- options

pub returns-then-not-stands_alone-clause-value : goal.returns-then-not-stands_alone-clause-value
returns-then-not-stands_alone-clause-value t c =
    let at = c.in-Some-Option.ensures.value ∙ ap (λ s. Some (shape_view s)) c.in-Some-Option.field-0-is in
    reads_alike c.args.context.now c.args.index c.args.cursor.now c.read_value.result c.read_value.new.cursor.rest
    (λ room. option_there c.args.context.now.extensions c.args.context.now.schema room c.args.index c.args.cursor.now.gap c.args.cursor.now.rest _
    at (sym c.stands_alone.ensures.value ∙ c.if-not-stands_alone.true))
    (rw (c.stands_alone.ensures.place.rest, c.stands_alone.ensures.place.gap) at c.read_value.ensures.value)

pub returns-in_err-deeper-in-Some-Option-clause-value : goal.returns-in_err-deeper-in-Some-Option-clause-value
returns-in_err-deeper-in-Some-Option-clause-value t c =
    let at = c.in-Some-Option.ensures.value ∙ ap (λ s. Some (shape_view s)) c.in-Some-Option.field-0-is in
    let falls =
    subst (λ s. IsOneLonger c.args.context.now.schema c.args.index (content_of (shape_view s))) c.in-Some-Option.field-0-is c.in-Some-Option.ensures.falls in
    let p = err_from_is_err_and c.from_residual.result c.from_residual.ensures.1 in
    rw (p.1, p.2, c.in_err-deeper-in-Some-Option.ensures.0) (λ room r. option_alone c.args.context.now.extensions c.args.context.now.schema room c.args.index
    c.args.cursor.now.gap c.args.cursor.now.rest _ at (sym c.stands_alone.ensures.value ∙ c.if-not-stands_alone.false)
    ∙ ap (λ o. meant o some_data) (below_first_ended _ _ room c.in-Some-Option.content _ _ (room_ended _ _ room c.in_err-deeper-in-Some-Option.ensures.1
    (room_of_held c.args.context.now c.args.index c.in-Some-Option.content (length c.args.cursor.now.rest) room falls r))))

pub returns-in_err-value-in-Some-Option-clause-value : goal.returns-in_err-value-in-Some-Option-clause-value
returns-in_err-value-in-Some-Option-clause-value t c =
    let at = c.in-Some-Option.ensures.value ∙ ap (λ s. Some (shape_view s)) c.in-Some-Option.field-0-is in
    let falls =
    subst (λ s. IsOneLonger c.args.context.now.schema c.args.index (content_of (shape_view s))) c.in-Some-Option.field-0-is c.in-Some-Option.ensures.falls in
    let p = err_from_is_err_and c.from_residual-in_err-value-in-Some-Option.result c.from_residual-in_err-value-in-Some-Option.ensures.1 in
    rw (p.1, p.2) (λ room r. made_of plain.some_of (Err c.in_err-value-in-Some-Option.field-0.0) _ _ c.read_first.new.cursor.rest
    (option_alone c.args.context.now.extensions c.args.context.now.schema room c.args.index c.args.cursor.now.gap c.args.cursor.now.rest _
    at (sym c.stands_alone.ensures.value ∙ c.if-not-stands_alone.false))
    (reads_first c.args.context.now c.in_ok-deeper-in-Some-Option.field-0 c.in_ok-deeper-in-Some-Option.ensures c.in-Some-Option.content c.args.cursor.now room
    (room_of_held c.args.context.now c.args.index c.in-Some-Option.content (length c.args.cursor.now.rest) room falls r)
    (Err c.in_err-value-in-Some-Option.field-0.0) c.read_first.new.cursor.rest
    (rw (c.stands_alone.ensures.place.rest, c.stands_alone.ensures.place.gap) at c.in_err-value-in-Some-Option.ensures.value)))

pub returns-in_ok-new-in-Some-Option-clause-value : goal.returns-in_ok-new-in-Some-Option-clause-value
returns-in_ok-new-in-Some-Option-clause-value t c =
    let at = c.in-Some-Option.ensures.value ∙ ap (λ s. Some (shape_view s)) c.in-Some-Option.field-0-is in
    let falls =
    subst (λ s. IsOneLonger c.args.context.now.schema c.args.index (content_of (shape_view s))) c.in-Some-Option.field-0-is c.in-Some-Option.ensures.falls in
    (λ room r. made_of plain.some_of (Ok c.in_ok-value-in-Some-Option.value) _ _ c.read_first.new.cursor.rest
    (option_alone c.args.context.now.extensions c.args.context.now.schema room c.args.index c.args.cursor.now.gap c.args.cursor.now.rest _
    at (sym c.stands_alone.ensures.value ∙ c.if-not-stands_alone.false))
    (reads_first c.args.context.now c.in_ok-deeper-in-Some-Option.field-0 c.in_ok-deeper-in-Some-Option.ensures c.in-Some-Option.content c.args.cursor.now room
    (room_of_held c.args.context.now c.args.index c.in-Some-Option.content (length c.args.cursor.now.rest) room falls r) (Ok c.in_ok-value-in-Some-Option.value)
    c.read_first.new.cursor.rest (rw (c.stands_alone.ensures.place.rest, c.stands_alone.ensures.place.gap) at c.in_ok-value-in-Some-Option.ensures.value))
    ∙ option_value c.in_ok-new-in-Some-Option.field-0 c.in_ok-value-in-Some-Option.value _ c.in_ok-new-in-Some-Option.ensures.ok)

pub returns-then-not-stands_alone-clause-advance : goal.returns-then-not-stands_alone-clause-advance
returns-then-not-stands_alone-clause-advance t c =
    let here = c.stands_alone.ensures.place in
    record {
      text = search rules;
      no_longer = search rules;
      holds = data_there _ _ _ _ (stays _ _ here.rest) refl here.text c.read_value.result c.read_value.ensures.slices;
      fault = search rules;
    }

pub returns-in_ok-new-in-Some-Option-clause-advance : goal.returns-in_ok-new-in-Some-Option-clause-advance
returns-in_ok-new-in-Some-Option-clause-advance t c = record {
  text = search rules;
  no_longer = search rules;
  holds = λ source. sliced-some _ _ _ _ (stays _ _ c.stands_alone.ensures.place.rest) c.stands_alone.ensures.place.text c.in_ok-new-in-Some-Option.field-0
      (subst (StringsAreSliced _ _) (sym c.in_ok-new-in-Some-Option.ensures.ok)
      (c.in_ok-value-in-Some-Option.ensures.advance.holds (source_there c.in_ok-deeper-in-Some-Option.ensures.3 c.stands_alone.ensures.place.text source)));
  fault = search rules;
}

-- ---- newtypes

pub returns-then-not-unwraps_newtypes-clause-value : goal.returns-then-not-unwraps_newtypes-clause-value
returns-then-not-unwraps_newtypes-clause-value t c =
    let at = c.in-Some-Newtype.ensures.value ∙ ap (λ s. Some (shape_view s)) c.in-Some-Newtype.field-0-is in
    reads_alike c.args.context.now c.args.index c.args.cursor.now c.read_value-then-not-unwraps_newtypes.result
    c.read_value-then-not-unwraps_newtypes.new.cursor.rest
    (λ room. newtype_there c.args.context.now.extensions c.args.context.now.schema room c.args.index c.args.cursor.now.gap c.args.cursor.now.rest _ _
    at (sym c.unwraps_newtypes.ensures ∙ c.if-not-unwraps_newtypes.true)) c.read_value-then-not-unwraps_newtypes.ensures.value

pub returns-in_err-deeper-in-Some-Newtype-clause-value : goal.returns-in_err-deeper-in-Some-Newtype-clause-value
returns-in_err-deeper-in-Some-Newtype-clause-value t c =
    let at = c.in-Some-Newtype.ensures.value ∙ ap (λ s. Some (shape_view s)) c.in-Some-Newtype.field-0-is in
    let falls =
    subst (λ s. IsOneLonger c.args.context.now.schema c.args.index (content_of (shape_view s))) c.in-Some-Newtype.field-0-is c.in-Some-Newtype.ensures.falls in
    let p = err_from_is_err_and c.from_residual-in_err-deeper-in-Some-Newtype.result c.from_residual-in_err-deeper-in-Some-Newtype.ensures.1 in
    rw (p.1, p.2, c.in_err-deeper-in-Some-Newtype.ensures.0)
    (λ room r. newtype_alone c.args.context.now.extensions c.args.context.now.schema room c.args.index c.args.cursor.now.gap c.args.cursor.now.rest _ _
    at (sym c.unwraps_newtypes.ensures ∙ c.if-not-unwraps_newtypes.false) ∙ ap (λ o. meant o (newtype_data (chars (string_bytes c.in-Some-Newtype.name))))
    (below_first_ended _ _ room c.in-Some-Newtype.content _ _ (room_ended _ _ room c.in_err-deeper-in-Some-Newtype.ensures.1
    (room_of_held c.args.context.now c.args.index c.in-Some-Newtype.content (length c.args.cursor.now.rest) room falls r))))

pub returns-in_err-value-in-Some-Newtype-clause-value : goal.returns-in_err-value-in-Some-Newtype-clause-value
returns-in_err-value-in-Some-Newtype-clause-value t c =
    let at = c.in-Some-Newtype.ensures.value ∙ ap (λ s. Some (shape_view s)) c.in-Some-Newtype.field-0-is in
    let falls =
    subst (λ s. IsOneLonger c.args.context.now.schema c.args.index (content_of (shape_view s))) c.in-Some-Newtype.field-0-is c.in-Some-Newtype.ensures.falls in
    let p = err_from_is_err_and c.from_residual-in_err-value-in-Some-Newtype.result c.from_residual-in_err-value-in-Some-Newtype.ensures.1 in
    rw (p.1, p.2) (λ room r. made_of (plain.newtype_of (chars (string_bytes c.in-Some-Newtype.name))) (Err c.in_err-value-in-Some-Newtype.field-0.0) _ _
    c.read_first-in-Some-Newtype.new.cursor.rest (newtype_alone c.args.context.now.extensions c.args.context.now.schema room c.args.index c.args.cursor.now.gap
    c.args.cursor.now.rest _ _ at (sym c.unwraps_newtypes.ensures ∙ c.if-not-unwraps_newtypes.false))
    (reads_first c.args.context.now c.in_ok-deeper-in-Some-Newtype.field-0 c.in_ok-deeper-in-Some-Newtype.ensures c.in-Some-Newtype.content c.args.cursor.now
    room (room_of_held c.args.context.now c.args.index c.in-Some-Newtype.content (length c.args.cursor.now.rest) room falls r)
    (Err c.in_err-value-in-Some-Newtype.field-0.0) c.read_first-in-Some-Newtype.new.cursor.rest c.in_err-value-in-Some-Newtype.ensures.value))

pub returns-in_ok-new-in-Some-Newtype-clause-value : goal.returns-in_ok-new-in-Some-Newtype-clause-value
returns-in_ok-new-in-Some-Newtype-clause-value t c =
    let at = c.in-Some-Newtype.ensures.value ∙ ap (λ s. Some (shape_view s)) c.in-Some-Newtype.field-0-is in
    let falls =
    subst (λ s. IsOneLonger c.args.context.now.schema c.args.index (content_of (shape_view s))) c.in-Some-Newtype.field-0-is c.in-Some-Newtype.ensures.falls in
    (λ room r. made_of (plain.newtype_of (chars (string_bytes c.in-Some-Newtype.name))) (Ok c.in_ok-value-in-Some-Newtype.value) _ _
    c.read_first-in-Some-Newtype.new.cursor.rest (newtype_alone c.args.context.now.extensions c.args.context.now.schema room c.args.index c.args.cursor.now.gap
    c.args.cursor.now.rest _ _ at (sym c.unwraps_newtypes.ensures ∙ c.if-not-unwraps_newtypes.false))
    (reads_first c.args.context.now c.in_ok-deeper-in-Some-Newtype.field-0 c.in_ok-deeper-in-Some-Newtype.ensures c.in-Some-Newtype.content c.args.cursor.now
    room (room_of_held c.args.context.now c.args.index c.in-Some-Newtype.content (length c.args.cursor.now.rest) room falls r)
    (Ok c.in_ok-value-in-Some-Newtype.value) c.read_first-in-Some-Newtype.new.cursor.rest c.in_ok-value-in-Some-Newtype.ensures.value)
    ∙ newtype_value c.in_ok-name-in-Some-Newtype.name c.in_ok-new-in-Some-Newtype.field-0 c.in_ok-value-in-Some-Newtype.value _ _
    (c.in_ok-name-in-Some-Newtype.ensures.ok ∙ c.as_str.ensures.value) c.in_ok-new-in-Some-Newtype.ensures.ok)

pub returns-in_ok-new-in-Some-Newtype-clause-advance : goal.returns-in_ok-new-in-Some-Newtype-clause-advance
returns-in_ok-new-in-Some-Newtype-clause-advance t c = record {
  text = search rules;
  no_longer = search rules;
  holds =
      λ source. sliced-newtype _ _ _ _ (stays _ _ refl) refl c.in_ok-name-in-Some-Newtype.name c.in_ok-new-in-Some-Newtype.field-0 (subst (StringsAreSliced _ _)
      (sym c.in_ok-new-in-Some-Newtype.ensures.ok) (c.in_ok-value-in-Some-Newtype.ensures.advance.holds (c.in_ok-deeper-in-Some-Newtype.ensures.3 ∙ source)));
  fault = search rules;
}

-- ---- all else

pub returns-in-Some-Bool-clause-value : goal.returns-in-Some-Bool-clause-value
returns-in-Some-Bool-clause-value t c =
    let at = c.in-Some-Bool.ensures.value ∙ ap (λ s. Some (shape_view s)) c.in-Some-Bool.field-0-is in
    reads_anywhere c.args.context.now c.args.index c.args.cursor.now c.read_value-in-Some-Bool.result c.read_value-in-Some-Bool.new.cursor.rest _
    at refl c.read_value-in-Some-Bool.ensures.value

pub returns-in-Some-Int-clause-value : goal.returns-in-Some-Int-clause-value
returns-in-Some-Int-clause-value t c =
    let at = c.in-Some-Int.ensures.value ∙ ap (λ s. Some (shape_view s)) c.in-Some-Int.field-0-is in
    reads_anywhere c.args.context.now c.args.index c.args.cursor.now c.read_value-in-Some-Int.result c.read_value-in-Some-Int.new.cursor.rest _
    at refl c.read_value-in-Some-Int.ensures.value

pub returns-in-Some-Char-clause-value : goal.returns-in-Some-Char-clause-value
returns-in-Some-Char-clause-value t c =
    let at = c.in-Some-Char.ensures.value ∙ ap (λ s. Some (shape_view s)) c.in-Some-Char.field-0-is in
    reads_anywhere c.args.context.now c.args.index c.args.cursor.now c.read_value-in-Some-Char.result c.read_value-in-Some-Char.new.cursor.rest _
    at refl c.read_value-in-Some-Char.ensures.value

pub returns-in-Some-Str-clause-value : goal.returns-in-Some-Str-clause-value
returns-in-Some-Str-clause-value t c =
    let at = c.in-Some-Str.ensures.value ∙ ap (λ s. Some (shape_view s)) c.in-Some-Str.field-0-is in
    reads_anywhere c.args.context.now c.args.index c.args.cursor.now c.read_value-in-Some-Str.result c.read_value-in-Some-Str.new.cursor.rest _
    at refl c.read_value-in-Some-Str.ensures.value

pub returns-in-Some-Bytes-clause-value : goal.returns-in-Some-Bytes-clause-value
returns-in-Some-Bytes-clause-value t c =
    let at = c.in-Some-Bytes.ensures.value ∙ ap (λ s. Some (shape_view s)) c.in-Some-Bytes.field-0-is in
    reads_anywhere c.args.context.now c.args.index c.args.cursor.now c.read_value-in-Some-Bytes.result c.read_value-in-Some-Bytes.new.cursor.rest _
    at refl c.read_value-in-Some-Bytes.ensures.value

pub returns-in-Some-Unit-clause-value : goal.returns-in-Some-Unit-clause-value
returns-in-Some-Unit-clause-value t c =
    let at = c.in-Some-Unit.ensures.value ∙ ap (λ s. Some (shape_view s)) c.in-Some-Unit.field-0-is in
    reads_anywhere c.args.context.now c.args.index c.args.cursor.now c.read_value-in-Some-Unit.result c.read_value-in-Some-Unit.new.cursor.rest _
    at refl c.read_value-in-Some-Unit.ensures.value

pub returns-in-Some-Seq-clause-value : goal.returns-in-Some-Seq-clause-value
returns-in-Some-Seq-clause-value t c =
    let at = c.in-Some-Seq.ensures.value ∙ ap (λ s. Some (shape_view s)) c.in-Some-Seq.field-0-is in
    reads_anywhere c.args.context.now c.args.index c.args.cursor.now c.read_value-in-Some-Seq.result c.read_value-in-Some-Seq.new.cursor.rest _
    at refl c.read_value-in-Some-Seq.ensures.value

pub returns-in-Some-Tuple-clause-value : goal.returns-in-Some-Tuple-clause-value
returns-in-Some-Tuple-clause-value t c =
    let at = c.in-Some-Tuple.ensures.value ∙ ap (λ s. Some (shape_view s)) c.in-Some-Tuple.field-0-is in
    reads_anywhere c.args.context.now c.args.index c.args.cursor.now c.read_value-in-Some-Tuple.result c.read_value-in-Some-Tuple.new.cursor.rest _
    at refl c.read_value-in-Some-Tuple.ensures.value

pub returns-in-Some-Map-clause-value : goal.returns-in-Some-Map-clause-value
returns-in-Some-Map-clause-value t c =
    let at = c.in-Some-Map.ensures.value ∙ ap (λ s. Some (shape_view s)) c.in-Some-Map.field-0-is in
    reads_anywhere c.args.context.now c.args.index c.args.cursor.now c.read_value-in-Some-Map.result c.read_value-in-Some-Map.new.cursor.rest _
    at refl c.read_value-in-Some-Map.ensures.value

pub returns-in-Some-UnitStruct-clause-value : goal.returns-in-Some-UnitStruct-clause-value
returns-in-Some-UnitStruct-clause-value t c =
    let at = c.in-Some-UnitStruct.ensures.value ∙ ap (λ s. Some (shape_view s)) c.in-Some-UnitStruct.field-0-is in
    reads_anywhere c.args.context.now c.args.index c.args.cursor.now c.read_value-in-Some-UnitStruct.result c.read_value-in-Some-UnitStruct.new.cursor.rest _
    at refl c.read_value-in-Some-UnitStruct.ensures.value

pub returns-in-Some-TupleStruct-clause-value : goal.returns-in-Some-TupleStruct-clause-value
returns-in-Some-TupleStruct-clause-value t c =
    let at = c.in-Some-TupleStruct.ensures.value ∙ ap (λ s. Some (shape_view s)) c.in-Some-TupleStruct.field-0-is in
    reads_anywhere c.args.context.now c.args.index c.args.cursor.now c.read_value-in-Some-TupleStruct.result c.read_value-in-Some-TupleStruct.new.cursor.rest _
    at refl c.read_value-in-Some-TupleStruct.ensures.value

pub returns-in-Some-Struct-clause-value : goal.returns-in-Some-Struct-clause-value
returns-in-Some-Struct-clause-value t c =
    let at = c.in-Some-Struct.ensures.value ∙ ap (λ s. Some (shape_view s)) c.in-Some-Struct.field-0-is in
    reads_anywhere c.args.context.now c.args.index c.args.cursor.now c.read_value-in-Some-Struct.result c.read_value-in-Some-Struct.new.cursor.rest _
    at refl c.read_value-in-Some-Struct.ensures.value

pub returns-in-Some-Enum-clause-value : goal.returns-in-Some-Enum-clause-value
returns-in-Some-Enum-clause-value t c =
    let at = c.in-Some-Enum.ensures.value ∙ ap (λ s. Some (shape_view s)) c.in-Some-Enum.field-0-is in
    reads_anywhere c.args.context.now c.args.index c.args.cursor.now c.read_value-in-Some-Enum.result c.read_value-in-Some-Enum.new.cursor.rest _
    at refl c.read_value-in-Some-Enum.ensures.value

pub returns-in-Some-Raw-clause-value : goal.returns-in-Some-Raw-clause-value
returns-in-Some-Raw-clause-value t c =
    c.read_raw.ensures.value c.args.index (c.in-Some-Raw.ensures.value ∙ ap (λ s. Some (shape_view s)) c.in-Some-Raw.field-0-is, tt)

pub returns-in-Some-Value-clause-value : goal.returns-in-Some-Value-clause-value
returns-in-Some-Value-clause-value t c =
    let at = c.in-Some-Value.ensures.value ∙ ap (λ s. Some (shape_view s)) c.in-Some-Value.field-0-is in
    reads_anywhere c.args.context.now c.args.index c.args.cursor.now c.read_value-in-Some-Value.result c.read_value-in-Some-Value.new.cursor.rest _
    at refl c.read_value-in-Some-Value.ensures.value

-- ---- the count

pub returns-then-not-stands_alone-clause-turns : goal.returns-then-not-stands_alone-clause-turns
returns-then-not-stands_alone-clause-turns t c = looked_spent _ c.args.cursor.now c.read_value.result c.read_value.new.cursor false 1 _ _
    c.stands_alone.new.cursor (omega arith) c.stands_alone.ensures.place c.stands_alone.ensures.turns c.read_value.ensures.turns

pub returns-in_err-deeper-in-Some-Option-clause-turns : goal.returns-in_err-deeper-in-Some-Option-clause-turns
returns-in_err-deeper-in-Some-Option-clause-turns t c =
    let p = err_from_is_err_and c.from_residual.result c.from_residual.ensures.1 in
    rw (p.1, p.2) (look_spent _ _ c.args.cursor.now c.stands_alone.new.cursor _ 1 (omega arith) c.stands_alone.ensures.place c.stands_alone.ensures.turns)

pub returns-in_err-value-in-Some-Option-clause-turns : goal.returns-in_err-value-in-Some-Option-clause-turns
returns-in_err-value-in-Some-Option-clause-turns t c =
    let falls =
    subst (λ s. IsOneLonger c.args.context.now.schema c.args.index (content_of (shape_view s))) c.in-Some-Option.field-0-is c.in-Some-Option.ensures.falls in
    let p = err_from_is_err_and c.from_residual-in_err-value-in-Some-Option.result c.from_residual-in_err-value-in-Some-Option.ensures.1 in
    rw (p.1, p.2) (looked_spent _ c.args.cursor.now _ c.read_first.new.cursor false 1 _ _ c.stands_alone.new.cursor (omega (arith, falls))
    c.stands_alone.ensures.place c.stands_alone.ensures.turns (refused_turns _ _ c.read_first.new.cursor _ _
    (subst (λ (s : List Shape). SpendsLooked s c.in-Some-Option.content c.stands_alone.new.cursor (Err c.in_err-value-in-Some-Option.field-0.0)
    c.read_first.new.cursor) c.in_ok-deeper-in-Some-Option.ensures.1 c.in_err-value-in-Some-Option.ensures.turns)))

pub returns-in_err-new-in-Some-Option-clause-turns : goal.returns-in_err-new-in-Some-Option-clause-turns
returns-in_err-new-in-Some-Option-clause-turns t c =
    let falls =
    subst (λ s. IsOneLonger c.args.context.now.schema c.args.index (content_of (shape_view s))) c.in-Some-Option.field-0-is c.in-Some-Option.ensures.falls in
    let p = err_from_is_err_and c.from_residual-in_err-new-in-Some-Option.result c.from_residual-in_err-new-in-Some-Option.ensures.1 in
    rw (p.1, p.2) (looked_spent _ c.args.cursor.now _ c.read_first.new.cursor false 1 _ _ c.stands_alone.new.cursor (omega (arith, falls))
    c.stands_alone.ensures.place c.stands_alone.ensures.turns
    (made_turns _ _ c.read_first.new.cursor _ (Err _) (subst (λ (s : List Shape). SpendsLooked s c.in-Some-Option.content c.stands_alone.new.cursor
    (Ok c.in_ok-value-in-Some-Option.value) c.read_first.new.cursor) c.in_ok-deeper-in-Some-Option.ensures.1 c.in_ok-value-in-Some-Option.ensures.turns)))

pub returns-in_ok-new-in-Some-Option-clause-turns : goal.returns-in_ok-new-in-Some-Option-clause-turns
returns-in_ok-new-in-Some-Option-clause-turns t c =
    let falls =
    subst (λ s. IsOneLonger c.args.context.now.schema c.args.index (content_of (shape_view s))) c.in-Some-Option.field-0-is c.in-Some-Option.ensures.falls in
    looked_spent _ c.args.cursor.now _ c.read_first.new.cursor false 1 _ _ c.stands_alone.new.cursor (omega (arith, falls)) c.stands_alone.ensures.place
    c.stands_alone.ensures.turns
    (made_turns _ _ c.read_first.new.cursor _ (Ok _) (subst (λ (s : List Shape). SpendsLooked s c.in-Some-Option.content c.stands_alone.new.cursor
    (Ok c.in_ok-value-in-Some-Option.value) c.read_first.new.cursor) c.in_ok-deeper-in-Some-Option.ensures.1 c.in_ok-value-in-Some-Option.ensures.turns))

pub returns-then-not-unwraps_newtypes-clause-turns : goal.returns-then-not-unwraps_newtypes-clause-turns
returns-then-not-unwraps_newtypes-clause-turns t c = spent_more _ c.args.cursor.now c.read_value-then-not-unwraps_newtypes.result
    c.read_value-then-not-unwraps_newtypes.new.cursor _ _ (omega arith) c.read_value-then-not-unwraps_newtypes.ensures.turns

pub returns-in_err-deeper-in-Some-Newtype-clause-turns : goal.returns-in_err-deeper-in-Some-Newtype-clause-turns
returns-in_err-deeper-in-Some-Newtype-clause-turns t c =
    let p = err_from_is_err_and c.from_residual-in_err-deeper-in-Some-Newtype.result c.from_residual-in_err-deeper-in-Some-Newtype.ensures.1 in
    rw (p.1, p.2) (here_spent _ _ c.args.cursor.now c.args.cursor.now _ (omega arith))

pub returns-in_err-value-in-Some-Newtype-clause-turns : goal.returns-in_err-value-in-Some-Newtype-clause-turns
returns-in_err-value-in-Some-Newtype-clause-turns t c =
    let falls =
    subst (λ s. IsOneLonger c.args.context.now.schema c.args.index (content_of (shape_view s))) c.in-Some-Newtype.field-0-is c.in-Some-Newtype.ensures.falls in
    let p = err_from_is_err_and c.from_residual-in_err-value-in-Some-Newtype.result c.from_residual-in_err-value-in-Some-Newtype.ensures.1 in
    rw (p.1, p.2) (spent_more _ c.args.cursor.now _ c.read_first-in-Some-Newtype.new.cursor _ _ (omega (arith, falls))
    (refused_turns _ _ c.read_first-in-Some-Newtype.new.cursor _ _
    (subst (λ (s : List Shape). SpendsLooked s c.in-Some-Newtype.content c.args.cursor.now (Err c.in_err-value-in-Some-Newtype.field-0.0)
    c.read_first-in-Some-Newtype.new.cursor) c.in_ok-deeper-in-Some-Newtype.ensures.1 c.in_err-value-in-Some-Newtype.ensures.turns)))

pub returns-in_err-name-in-Some-Newtype-clause-turns : goal.returns-in_err-name-in-Some-Newtype-clause-turns
returns-in_err-name-in-Some-Newtype-clause-turns t c =
    let falls =
    subst (λ s. IsOneLonger c.args.context.now.schema c.args.index (content_of (shape_view s))) c.in-Some-Newtype.field-0-is c.in-Some-Newtype.ensures.falls in
    let p = err_from_is_err_and c.from_residual-in_err-name-in-Some-Newtype.result c.from_residual-in_err-name-in-Some-Newtype.ensures.1 in
    rw (p.1, p.2)
    (spent_more _ c.args.cursor.now _ c.read_first-in-Some-Newtype.new.cursor _ _ (omega (arith, falls)) (made_turns _ _ c.read_first-in-Some-Newtype.new.cursor
    _ (Err _) (subst (λ (s : List Shape). SpendsLooked s c.in-Some-Newtype.content c.args.cursor.now (Ok c.in_ok-value-in-Some-Newtype.value)
    c.read_first-in-Some-Newtype.new.cursor) c.in_ok-deeper-in-Some-Newtype.ensures.1 c.in_ok-value-in-Some-Newtype.ensures.turns)))

pub returns-in_err-new-in-Some-Newtype-clause-turns : goal.returns-in_err-new-in-Some-Newtype-clause-turns
returns-in_err-new-in-Some-Newtype-clause-turns t c =
    let falls =
    subst (λ s. IsOneLonger c.args.context.now.schema c.args.index (content_of (shape_view s))) c.in-Some-Newtype.field-0-is c.in-Some-Newtype.ensures.falls in
    let p = err_from_is_err_and c.from_residual-in_err-new-in-Some-Newtype.result c.from_residual-in_err-new-in-Some-Newtype.ensures.1 in
    rw (p.1, p.2)
    (spent_more _ c.args.cursor.now _ c.read_first-in-Some-Newtype.new.cursor _ _ (omega (arith, falls)) (made_turns _ _ c.read_first-in-Some-Newtype.new.cursor
    _ (Err _) (subst (λ (s : List Shape). SpendsLooked s c.in-Some-Newtype.content c.args.cursor.now (Ok c.in_ok-value-in-Some-Newtype.value)
    c.read_first-in-Some-Newtype.new.cursor) c.in_ok-deeper-in-Some-Newtype.ensures.1 c.in_ok-value-in-Some-Newtype.ensures.turns)))

pub returns-in_ok-new-in-Some-Newtype-clause-turns : goal.returns-in_ok-new-in-Some-Newtype-clause-turns
returns-in_ok-new-in-Some-Newtype-clause-turns t c =
    let falls =
    subst (λ s. IsOneLonger c.args.context.now.schema c.args.index (content_of (shape_view s))) c.in-Some-Newtype.field-0-is c.in-Some-Newtype.ensures.falls in
    spent_more _ c.args.cursor.now _ c.read_first-in-Some-Newtype.new.cursor _ _ (omega (arith, falls)) (made_turns _ _ c.read_first-in-Some-Newtype.new.cursor
    _ (Ok _) (subst (λ (s : List Shape). SpendsLooked s c.in-Some-Newtype.content c.args.cursor.now (Ok c.in_ok-value-in-Some-Newtype.value)
    c.read_first-in-Some-Newtype.new.cursor) c.in_ok-deeper-in-Some-Newtype.ensures.1 c.in_ok-value-in-Some-Newtype.ensures.turns))

pub returns-in-Some-Bool-clause-turns : goal.returns-in-Some-Bool-clause-turns
returns-in-Some-Bool-clause-turns t c = spent_more _ c.args.cursor.now c.read_value-in-Some-Bool.result c.read_value-in-Some-Bool.new.cursor _ _ (omega arith)
    c.read_value-in-Some-Bool.ensures.turns

pub returns-in-Some-Int-clause-turns : goal.returns-in-Some-Int-clause-turns
returns-in-Some-Int-clause-turns t c =
    spent_more _ c.args.cursor.now c.read_value-in-Some-Int.result c.read_value-in-Some-Int.new.cursor _ _ (omega arith) c.read_value-in-Some-Int.ensures.turns

pub returns-in-Some-Char-clause-turns : goal.returns-in-Some-Char-clause-turns
returns-in-Some-Char-clause-turns t c = spent_more _ c.args.cursor.now c.read_value-in-Some-Char.result c.read_value-in-Some-Char.new.cursor _ _ (omega arith)
    c.read_value-in-Some-Char.ensures.turns

pub returns-in-Some-Str-clause-turns : goal.returns-in-Some-Str-clause-turns
returns-in-Some-Str-clause-turns t c =
    spent_more _ c.args.cursor.now c.read_value-in-Some-Str.result c.read_value-in-Some-Str.new.cursor _ _ (omega arith) c.read_value-in-Some-Str.ensures.turns

pub returns-in-Some-Bytes-clause-turns : goal.returns-in-Some-Bytes-clause-turns
returns-in-Some-Bytes-clause-turns t c = spent_more _ c.args.cursor.now c.read_value-in-Some-Bytes.result c.read_value-in-Some-Bytes.new.cursor _ _
    (omega arith) c.read_value-in-Some-Bytes.ensures.turns

pub returns-in-Some-Unit-clause-turns : goal.returns-in-Some-Unit-clause-turns
returns-in-Some-Unit-clause-turns t c = spent_more _ c.args.cursor.now c.read_value-in-Some-Unit.result c.read_value-in-Some-Unit.new.cursor _ _ (omega arith)
    c.read_value-in-Some-Unit.ensures.turns

pub returns-in-Some-Seq-clause-turns : goal.returns-in-Some-Seq-clause-turns
returns-in-Some-Seq-clause-turns t c =
    spent_more _ c.args.cursor.now c.read_value-in-Some-Seq.result c.read_value-in-Some-Seq.new.cursor _ _ (omega arith) c.read_value-in-Some-Seq.ensures.turns

pub returns-in-Some-Tuple-clause-turns : goal.returns-in-Some-Tuple-clause-turns
returns-in-Some-Tuple-clause-turns t c = spent_more _ c.args.cursor.now c.read_value-in-Some-Tuple.result c.read_value-in-Some-Tuple.new.cursor _ _
    (omega arith) c.read_value-in-Some-Tuple.ensures.turns

pub returns-in-Some-Map-clause-turns : goal.returns-in-Some-Map-clause-turns
returns-in-Some-Map-clause-turns t c =
    spent_more _ c.args.cursor.now c.read_value-in-Some-Map.result c.read_value-in-Some-Map.new.cursor _ _ (omega arith) c.read_value-in-Some-Map.ensures.turns

pub returns-in-Some-UnitStruct-clause-turns : goal.returns-in-Some-UnitStruct-clause-turns
returns-in-Some-UnitStruct-clause-turns t c = spent_more _ c.args.cursor.now c.read_value-in-Some-UnitStruct.result c.read_value-in-Some-UnitStruct.new.cursor _
    _ (omega arith) c.read_value-in-Some-UnitStruct.ensures.turns

pub returns-in-Some-TupleStruct-clause-turns : goal.returns-in-Some-TupleStruct-clause-turns
returns-in-Some-TupleStruct-clause-turns t c = spent_more _ c.args.cursor.now c.read_value-in-Some-TupleStruct.result
    c.read_value-in-Some-TupleStruct.new.cursor _ _ (omega arith) c.read_value-in-Some-TupleStruct.ensures.turns

pub returns-in-Some-Struct-clause-turns : goal.returns-in-Some-Struct-clause-turns
returns-in-Some-Struct-clause-turns t c = spent_more _ c.args.cursor.now c.read_value-in-Some-Struct.result c.read_value-in-Some-Struct.new.cursor _ _
    (omega arith) c.read_value-in-Some-Struct.ensures.turns

pub returns-in-Some-Enum-clause-turns : goal.returns-in-Some-Enum-clause-turns
returns-in-Some-Enum-clause-turns t c = spent_more _ c.args.cursor.now c.read_value-in-Some-Enum.result c.read_value-in-Some-Enum.new.cursor _ _ (omega arith)
    c.read_value-in-Some-Enum.ensures.turns

pub returns-in-Some-Value-clause-turns : goal.returns-in-Some-Value-clause-turns
returns-in-Some-Value-clause-turns t c = spent_more _ c.args.cursor.now c.read_value-in-Some-Value.result c.read_value-in-Some-Value.new.cursor _ _
    (omega arith) c.read_value-in-Some-Value.ensures.turns

pub returns-in-Some-Raw-clause-turns : goal.returns-in-Some-Raw-clause-turns
returns-in-Some-Raw-clause-turns t c = spent_more _ c.args.cursor.now c.read_raw.result c.read_raw.new.cursor 2 _ (omega arith)
    (raw_typed _ 2 c.args.cursor.now c.read_raw.result c.read_raw.new.cursor c.read_raw.ensures.turns)
