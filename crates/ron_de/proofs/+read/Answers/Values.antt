-- Values, by their shape.
use Rattle.std.proofs.Common.{◌≡◌, Some, slice_get, length, chars, sym, ◌∙◌, ap, arith, subst, ap₂, true, nat_lt, get_or, None}
use Rattle.std.specs.List.{list_all}
use Rattle.std.proofs.lemmas.Bool.{ltb-true, and_parts}
use Rattle.ron_spec_grammar.proofs.Turns.{read_integer, read_character, read_text}
use Rattle.ron_spec_grammar.proofs.ElementTurns.{read_boolean, read_the_unit}
use Rattle.ron_spec_grammar.proofs.ContentTurns.{read_unit_struct_of}
use Rattle.ron_spec_grammar.specs.Schema.{newtype, tuple, tuple_struct, struct, holds_below, has_distinct_names, content_of, unit}
use Rattle.ron_data_schema.specs.declared.schema.Shape.TheVariants as shape_
use Rattle.ron_data_schema.specs.Shapes.{shape_view, list_view, enum_view, IsOneLonger}
use Rattle.ron_spec_grammar.proofs.ByteTurns.{bytes_read}
use Rattle.ron_de.proofs.HeldLemmas.{room_of_group}
use Rattle.ron_de_parts.specs.Slices.{StringsAreSliced}
use Rattle.ron_de_parts.proofs.KeptLemmas.{kept_anyhow}
use Rattle.ron_de_parts.proofs.RoomLemmas.{group_of_value, held_of_value}
use Rattle.ron_de_parts.proofs.StepLemmas.{refused_in_any_room, refused_or}
use Rattle.ron_de.proofs.TurnLemmas.{settled_spent, spent_more}
use Rattle.ron_de_steps.proofs.KeepLemmas.{raw_typed}
use Rattle.std.proofs.lemmas.Option.{slice_get-get_or}
use Rattle.ron_de.proofs.+read.Goals as goal

-- ---- values

pub value::read_value-returns-in-Some-Bool-clause-value : goal.value::read_value-returns-in-Some-Bool-clause-value
value::read_value-returns-in-Some-Bool-clause-value t c = λ room r.
    let at : slice_get c.args.context.now.schema c.args.index ≡ Some (shape_view shape_.Bool) =
    c.in-Some-Bool.ensures.value ∙ ap (λ s. Some (shape_view s)) c.in-Some-Bool.field-0-is in
    rw (read_boolean c.args.context.now.extensions c.args.context.now.schema room c.args.index c.args.cursor.now.gap c.args.cursor.now.rest at)
    c.read_bool.ensures.value

pub value::read_value-returns-in-Some-Unit-clause-value : goal.value::read_value-returns-in-Some-Unit-clause-value
value::read_value-returns-in-Some-Unit-clause-value t c = λ room r.
    let at : slice_get c.args.context.now.schema c.args.index ≡ Some (shape_view shape_.Unit) =
    c.in-Some-Unit.ensures.value ∙ ap (λ s. Some (shape_view s)) c.in-Some-Unit.field-0-is in
    rw (read_the_unit c.args.context.now.extensions c.args.context.now.schema room c.args.index c.args.cursor.now.gap c.args.cursor.now.rest at)
    c.read_unit.ensures.value

pub value::read_value-returns-in-Some-Bool-clause-leaf : goal.value::read_value-returns-in-Some-Bool-clause-leaf
value::read_value-returns-in-Some-Bool-clause-leaf t c = λ _.
    let at : slice_get c.args.context.now.schema c.args.index ≡ Some (shape_view shape_.Bool) =
    c.in-Some-Bool.ensures.value ∙ ap (λ s. Some (shape_view s)) c.in-Some-Bool.field-0-is in
    refused_in_any_room c.read_bool.result c.read_bool.ensures.refused
    (λ room. read_boolean c.args.context.now.extensions c.args.context.now.schema room c.args.index c.args.cursor.now.gap c.args.cursor.now.rest at)

pub value::read_value-returns-in-Some-Unit-clause-leaf : goal.value::read_value-returns-in-Some-Unit-clause-leaf
value::read_value-returns-in-Some-Unit-clause-leaf t c = λ _.
    let at : slice_get c.args.context.now.schema c.args.index ≡ Some (shape_view shape_.Unit) =
    c.in-Some-Unit.ensures.value ∙ ap (λ s. Some (shape_view s)) c.in-Some-Unit.field-0-is in
    refused_in_any_room c.read_unit.result c.read_unit.ensures.refused
    (λ room. read_the_unit c.args.context.now.extensions c.args.context.now.schema room c.args.index c.args.cursor.now.gap c.args.cursor.now.rest at)

pub value::read_value-returns-in-Some-Int-clause-leaf : goal.value::read_value-returns-in-Some-Int-clause-leaf
value::read_value-returns-in-Some-Int-clause-leaf t c = λ _.
    let at : slice_get c.args.context.now.schema c.args.index ≡ Some (shape_view (shape_.Int c.in-Some-Int.width)) =
    c.in-Some-Int.ensures.value ∙ ap (λ s. Some (shape_view s)) c.in-Some-Int.field-0-is in
    refused_in_any_room c.read_integer.result c.read_integer.ensures.refused (λ room.
    read_integer c.args.context.now.extensions c.args.context.now.schema room c.args.index c.args.cursor.now.gap c.args.cursor.now.rest c.in-Some-Int.width at)

pub value::read_value-returns-in-Some-Int-clause-value : goal.value::read_value-returns-in-Some-Int-clause-value
value::read_value-returns-in-Some-Int-clause-value t c = λ room r.
    let at : slice_get c.args.context.now.schema c.args.index ≡ Some (shape_view (shape_.Int c.in-Some-Int.width)) =
    c.in-Some-Int.ensures.value ∙ ap (λ s. Some (shape_view s)) c.in-Some-Int.field-0-is in
    rw (read_integer c.args.context.now.extensions c.args.context.now.schema room c.args.index c.args.cursor.now.gap c.args.cursor.now.rest c.in-Some-Int.width
    at) c.read_integer.ensures.value

pub value::read_value-returns-in-Some-Char-clause-leaf : goal.value::read_value-returns-in-Some-Char-clause-leaf
value::read_value-returns-in-Some-Char-clause-leaf t c = λ _.
    let at : slice_get c.args.context.now.schema c.args.index ≡ Some (shape_view shape_.Char) =
    c.in-Some-Char.ensures.value ∙ ap (λ s. Some (shape_view s)) c.in-Some-Char.field-0-is in
    refused_in_any_room c.read_char.result c.read_char.ensures.refused
    (λ room. read_character c.args.context.now.extensions c.args.context.now.schema room c.args.index c.args.cursor.now.gap c.args.cursor.now.rest at)

pub value::read_value-returns-in-Some-Char-clause-value : goal.value::read_value-returns-in-Some-Char-clause-value
value::read_value-returns-in-Some-Char-clause-value t c = λ room r.
    let at : slice_get c.args.context.now.schema c.args.index ≡ Some (shape_view shape_.Char) =
    c.in-Some-Char.ensures.value ∙ ap (λ s. Some (shape_view s)) c.in-Some-Char.field-0-is in
    rw (read_character c.args.context.now.extensions c.args.context.now.schema room c.args.index c.args.cursor.now.gap c.args.cursor.now.rest at)
    c.read_char.ensures.value

pub value::read_value-returns-in-Some-Str-clause-string : goal.value::read_value-returns-in-Some-Str-clause-string
value::read_value-returns-in-Some-Str-clause-string t c = λ _ source.
    let at : slice_get c.args.context.now.schema c.args.index ≡ Some (shape_view shape_.Str) =
    c.in-Some-Str.ensures.value ∙ ap (λ s. Some (shape_view s)) c.in-Some-Str.field-0-is in
    refused_or _ c.read_str.result (c.read_str.ensures.refused source)
    (λ room. read_text c.args.context.now.extensions c.args.context.now.schema room c.args.index c.args.cursor.now.gap c.args.cursor.now.rest at)

pub value::read_value-returns-in-Some-Str-clause-value : goal.value::read_value-returns-in-Some-Str-clause-value
value::read_value-returns-in-Some-Str-clause-value t c = λ room r.
    let at : slice_get c.args.context.now.schema c.args.index ≡ Some (shape_view shape_.Str) =
    c.in-Some-Str.ensures.value ∙ ap (λ s. Some (shape_view s)) c.in-Some-Str.field-0-is in
    rw (read_text c.args.context.now.extensions c.args.context.now.schema room c.args.index c.args.cursor.now.gap c.args.cursor.now.rest at)
    c.read_str.ensures.value

pub value::read_value-returns-in-Some-UnitStruct-clause-value : goal.value::read_value-returns-in-Some-UnitStruct-clause-value
value::read_value-returns-in-Some-UnitStruct-clause-value t c = λ room r.
    let at : slice_get c.args.context.now.schema c.args.index ≡ Some (shape_view (shape_.UnitStruct c.in-Some-UnitStruct.name)) =
    c.in-Some-UnitStruct.ensures.value ∙ ap (λ s. Some (shape_view s)) c.in-Some-UnitStruct.field-0-is in
    rw (read_unit_struct_of c.args.context.now.extensions c.args.context.now.schema room c.args.index c.args.cursor.now.gap c.args.cursor.now.rest _ at)
    (rw c.as_str.ensures.value at c.read_unit_struct.ensures.value)

pub value::read_value-returns-in-Some-Bytes-clause-value : goal.value::read_value-returns-in-Some-Bytes-clause-value
value::read_value-returns-in-Some-Bytes-clause-value t c = λ room r.
    let at : slice_get c.args.context.now.schema c.args.index ≡ Some (shape_view shape_.Bytes) =
    c.in-Some-Bytes.ensures.value ∙ ap (λ s. Some (shape_view s)) c.in-Some-Bytes.field-0-is in
    rw (bytes_read c.args.context.now.extensions c.args.context.now.schema room c.args.index c.args.cursor.now.gap c.args.cursor.now.rest at)
    (c.read_bytes.ensures.value room (room_of_group c.args.context.now c.args.index _ _ room (omega arith) r))

-- ---- what holds no text is kept anyhow

pub value::read_value-returns-in-Some-Bool-clause-slices : goal.value::read_value-returns-in-Some-Bool-clause-slices
value::read_value-returns-in-Some-Bool-clause-slices t c =
    kept_anyhow (StringsAreSliced c.args.cursor.now.rest) _ _ c.read_bool.result c.read_bool.ensures.slices

pub value::read_value-returns-in-Some-Int-clause-slices : goal.value::read_value-returns-in-Some-Int-clause-slices
value::read_value-returns-in-Some-Int-clause-slices t c =
    kept_anyhow (StringsAreSliced c.args.cursor.now.rest) _ _ c.read_integer.result c.read_integer.ensures.advance.holds

pub value::read_value-returns-in-Some-Char-clause-slices : goal.value::read_value-returns-in-Some-Char-clause-slices
value::read_value-returns-in-Some-Char-clause-slices t c =
    kept_anyhow (StringsAreSliced c.args.cursor.now.rest) _ _ c.read_char.result c.read_char.ensures.slices

pub value::read_value-returns-in-Some-Unit-clause-slices : goal.value::read_value-returns-in-Some-Unit-clause-slices
value::read_value-returns-in-Some-Unit-clause-slices t c =
    kept_anyhow (StringsAreSliced c.args.cursor.now.rest) _ _ c.read_unit.result c.read_unit.ensures.slices

pub value::read_value-returns-in-Some-UnitStruct-clause-slices : goal.value::read_value-returns-in-Some-UnitStruct-clause-slices
value::read_value-returns-in-Some-UnitStruct-clause-slices t c =
    kept_anyhow (StringsAreSliced c.args.cursor.now.rest) _ _ c.read_unit_struct.result c.read_unit_struct.ensures.advance.holds

pub value::read_value-returns-in-Some-Value-clause-slices : goal.value::read_value-returns-in-Some-Value-clause-slices
value::read_value-returns-in-Some-Value-clause-slices t c =
    kept_anyhow (StringsAreSliced c.args.cursor.now.rest) _ _ c.read_untyped.result c.read_untyped.ensures.advance.holds

-- ---- lists, tuples and maps

pub value::read_value-read_seq-requires : goal.value::read_value-read_seq-requires
value::read_value-read_seq-requires t c =
    let below = subst (λ s. holds_below (length c.args.context.now.schema) (shape_view s) ≡ true) c.in-Some-Seq.field-0-is c.in-Some-Seq.ensures.in_range in (
      omega (arith, group_of_value c.args.context.now.schema c.args.index (length c.args.cursor.now.rest) (length c.args.cursor.now.rest) (omega arith)),
      ltb-true _ _ below,
    )

pub value::read_value-returns-in-Some-Seq-clause-value : goal.value::read_value-returns-in-Some-Seq-clause-value
value::read_value-returns-in-Some-Seq-clause-value t c =
    c.read_seq.ensures.value c.args.index (c.in-Some-Seq.ensures.value ∙ ap (λ s. Some (shape_view s)) c.in-Some-Seq.field-0-is, tt)

pub value::read_value-read_tuple-requires : goal.value::read_value-read_tuple-requires
value::read_value-read_tuple-requires t c =
    let below =
    subst (λ s. holds_below (length c.args.context.now.schema) (shape_view s) ≡ true) c.in-Some-Tuple.field-0-is c.in-Some-Tuple.ensures.in_range in (
      omega (arith, group_of_value c.args.context.now.schema c.args.index (length c.args.cursor.now.rest) (length c.args.cursor.now.rest) (omega arith)),
      subst (λ js. list_all (λ j. nat_lt j (length c.args.context.now.schema)) js ≡ true) (sym c.as_slice.ensures.value) below,
    )

pub value::read_value-returns-in-Some-Tuple-clause-value : goal.value::read_value-returns-in-Some-Tuple-clause-value
value::read_value-returns-in-Some-Tuple-clause-value t c = c.read_tuple.ensures.value c.args.index (
  c.in-Some-Tuple.ensures.value ∙ ap (λ s. Some (shape_view s)) c.in-Some-Tuple.field-0-is ∙ ap (λ js. Some (tuple js)) (sym c.as_slice.ensures.value),
  tt,
)

pub value::read_value-read_map-requires : goal.value::read_value-read_map-requires
value::read_value-read_map-requires t c =
    let below = subst (λ s. holds_below (length c.args.context.now.schema) (shape_view s) ≡ true) c.in-Some-Map.field-0-is c.in-Some-Map.ensures.in_range in
    let both =
    and_parts (nat_lt c.in-Some-Map.key (length c.args.context.now.schema)) (nat_lt c.in-Some-Map.value (length c.args.context.now.schema)) below in (
      omega (arith, group_of_value c.args.context.now.schema c.args.index (length c.args.cursor.now.rest) (length c.args.cursor.now.rest) (omega arith)),
      (ltb-true _ _ both.0, ltb-true _ _ both.1),
    )

pub value::read_value-returns-in-Some-Map-clause-value : goal.value::read_value-returns-in-Some-Map-clause-value
value::read_value-returns-in-Some-Map-clause-value t c =
    c.read_map.ensures.value c.args.index (c.in-Some-Map.ensures.value ∙ ap (λ s. Some (shape_view s)) c.in-Some-Map.field-0-is, tt)

-- ---- options and newtypes

pub value::read_value-read_option-requires : goal.value::read_value-read_option-requires
value::read_value-read_option-requires t c =
    let below =
    subst (λ s. holds_below (length c.args.context.now.schema) (shape_view s) ≡ true) c.in-Some-Option.field-0-is c.in-Some-Option.ensures.in_range in
    let falls =
    subst (λ s. IsOneLonger c.args.context.now.schema c.args.index (content_of (shape_view s))) c.in-Some-Option.field-0-is c.in-Some-Option.ensures.falls in
    (omega (arith, held_of_value c.args.context.now.schema c.args.index c.in-Some-Option.content (length c.args.cursor.now.rest) falls), ltb-true _ _ below)

pub value::read_value-returns-in-Some-Option-clause-value : goal.value::read_value-returns-in-Some-Option-clause-value
value::read_value-returns-in-Some-Option-clause-value t c = c.read_option.ensures.value c.args.index (
  c.in-Some-Option.ensures.value ∙ ap (λ s. Some (shape_view s)) c.in-Some-Option.field-0-is,
  subst (λ s. IsOneLonger c.args.context.now.schema c.args.index (content_of (shape_view s))) c.in-Some-Option.field-0-is c.in-Some-Option.ensures.falls,
)

pub value::read_value-read_newtype-requires : goal.value::read_value-read_newtype-requires
value::read_value-read_newtype-requires t c =
    let below =
    subst (λ s. holds_below (length c.args.context.now.schema) (shape_view s) ≡ true) c.in-Some-Newtype.field-0-is c.in-Some-Newtype.ensures.in_range in
    let falls =
    subst (λ s. IsOneLonger c.args.context.now.schema c.args.index (content_of (shape_view s))) c.in-Some-Newtype.field-0-is c.in-Some-Newtype.ensures.falls in
    (omega (arith, held_of_value c.args.context.now.schema c.args.index c.in-Some-Newtype.content (length c.args.cursor.now.rest) falls), ltb-true _ _ below)

pub value::read_value-returns-in-Some-Newtype-clause-value : goal.value::read_value-returns-in-Some-Newtype-clause-value
value::read_value-returns-in-Some-Newtype-clause-value t c = c.read_newtype.ensures.value c.args.index (
  c.in-Some-Newtype.ensures.value ∙ ap (λ s. Some (shape_view s)) c.in-Some-Newtype.field-0-is
      ∙ ap (λ b. Some (newtype (chars b) c.in-Some-Newtype.content)) (sym c.as_str-in-Some-Newtype.ensures.value),
  subst (λ s. IsOneLonger c.args.context.now.schema c.args.index (content_of (shape_view s))) c.in-Some-Newtype.field-0-is c.in-Some-Newtype.ensures.falls,
)

-- ---- structs and enums

pub value::read_value-read_tuple_struct-requires : goal.value::read_value-read_tuple_struct-requires
value::read_value-read_tuple_struct-requires t c =
    let below =
    subst (λ s. holds_below (length c.args.context.now.schema) (shape_view s) ≡ true) c.in-Some-TupleStruct.field-0-is
    c.in-Some-TupleStruct.ensures.in_range in (
      omega (arith, group_of_value c.args.context.now.schema c.args.index (length c.args.cursor.now.rest) (length c.args.cursor.now.rest) (omega arith)),
      subst (λ js. list_all (λ j. nat_lt j (length c.args.context.now.schema)) js ≡ true) (sym c.as_slice-in-Some-TupleStruct.ensures.value) below,
    )

pub value::read_value-returns-in-Some-TupleStruct-clause-value : goal.value::read_value-returns-in-Some-TupleStruct-clause-value
value::read_value-returns-in-Some-TupleStruct-clause-value t c = c.read_tuple_struct.ensures.value c.args.index (
  c.in-Some-TupleStruct.ensures.value ∙ ap (λ s. Some (shape_view s)) c.in-Some-TupleStruct.field-0-is
      ∙ ap₂ (λ b js. Some (tuple_struct (chars b) js)) (sym c.as_str-in-Some-TupleStruct.ensures.value) (sym c.as_slice-in-Some-TupleStruct.ensures.value),
  tt,
)

pub value::read_value-read_struct-requires : goal.value::read_value-read_struct-requires
value::read_value-read_struct-requires t c =
    let below =
    subst (λ s. holds_below (length c.args.context.now.schema) (shape_view s) ≡ true) c.in-Some-Struct.field-0-is c.in-Some-Struct.ensures.in_range in
    let differ = subst (λ s. has_distinct_names (shape_view s) ≡ true) c.in-Some-Struct.field-0-is c.in-Some-Struct.ensures.distinct in (
      omega (arith, group_of_value c.args.context.now.schema c.args.index (length c.args.cursor.now.rest) (length c.args.cursor.now.rest) (omega arith)),
      (below, differ),
    )

pub value::read_value-returns-in-Some-Struct-clause-value : goal.value::read_value-returns-in-Some-Struct-clause-value
value::read_value-returns-in-Some-Struct-clause-value t c = c.read_struct.ensures.value c.args.index (
  c.in-Some-Struct.ensures.value ∙ ap (λ s. Some (shape_view s)) c.in-Some-Struct.field-0-is
      ∙ ap (λ b. Some (struct (chars b) (list_view c.in-Some-Struct.list))) (sym c.as_str-in-Some-Struct.ensures.value),
  tt,
)

pub value::read_value-read_enum-requires : goal.value::read_value-read_enum-requires
value::read_value-read_enum-requires t c =
    let is : shape_view (shape_.Enum c.in-Some-Enum.name c.in-Some-Enum.variants) ≡ enum_view c.as_str-in-Some-Enum.result.now
    c.as_slice-in-Some-Enum.result.now = ap₂ enum_view (sym c.as_str-in-Some-Enum.ensures.value) (sym c.as_slice-in-Some-Enum.ensures.value) in
    let below = subst (λ s. holds_below (length c.args.context.now.schema) s ≡ true) is
    (subst (λ s. holds_below (length c.args.context.now.schema) (shape_view s) ≡ true) c.in-Some-Enum.field-0-is c.in-Some-Enum.ensures.in_range) in
    let differ = subst (λ s. has_distinct_names s ≡ true) is
    (subst (λ s. has_distinct_names (shape_view s) ≡ true) c.in-Some-Enum.field-0-is c.in-Some-Enum.ensures.distinct) in (
      omega (arith, group_of_value c.args.context.now.schema c.args.index (length c.args.cursor.now.rest) (length c.args.cursor.now.rest) (omega arith)),
      (below, differ),
    )

pub value::read_value-returns-in-Some-Enum-clause-value : goal.value::read_value-returns-in-Some-Enum-clause-value
value::read_value-returns-in-Some-Enum-clause-value t c = c.read_enum.ensures.value c.args.index (
  c.in-Some-Enum.ensures.value ∙ ap (λ s. Some (shape_view s)) c.in-Some-Enum.field-0-is
      ∙ ap₂ (λ b vs. Some (enum_view b vs)) (sym c.as_str-in-Some-Enum.ensures.value) (sym c.as_slice-in-Some-Enum.ensures.value),
  tt,
)

pub value::read_value-returns-in-Some-Raw-clause-value : goal.value::read_value-returns-in-Some-Raw-clause-value
value::read_value-returns-in-Some-Raw-clause-value t c =
    c.read_raw.ensures.value c.args.index (c.in-Some-Raw.ensures.value ∙ ap (λ s. Some (shape_view s)) c.in-Some-Raw.field-0-is, tt)

pub value::read_value-returns-in-Some-Value-clause-value : goal.value::read_value-returns-in-Some-Value-clause-value
value::read_value-returns-in-Some-Value-clause-value t c =
    c.read_untyped.ensures.value c.args.index (c.in-Some-Value.ensures.value ∙ ap (λ s. Some (shape_view s)) c.in-Some-Value.field-0-is, tt)

pub value::read_value-unreachable-requires : goal.value::read_value-unreachable-requires
value::read_value-unreachable-requires t c = let q : None ≡ Some (get_or c.args.context.now.schema c.args.index unit) =
    sym c.in-None.ensures.value ∙ slice_get-get_or c.args.context.now.schema c.args.index unit c.requires in
    cc

-- ---- the count

pub value::read_value-returns-in-Some-Bool-clause-turns : goal.value::read_value-returns-in-Some-Bool-clause-turns
value::read_value-returns-in-Some-Bool-clause-turns t c =
    settled_spent _ c.args.cursor.now c.read_bool.result c.read_bool.new.cursor _ (c.read_bool.ensures.turns _)

pub value::read_value-returns-in-Some-Unit-clause-turns : goal.value::read_value-returns-in-Some-Unit-clause-turns
value::read_value-returns-in-Some-Unit-clause-turns t c =
    settled_spent _ c.args.cursor.now c.read_unit.result c.read_unit.new.cursor _ (c.read_unit.ensures.turns _)

pub value::read_value-returns-in-Some-Int-clause-turns : goal.value::read_value-returns-in-Some-Int-clause-turns
value::read_value-returns-in-Some-Int-clause-turns t c =
    settled_spent _ c.args.cursor.now c.read_integer.result c.read_integer.new.cursor _ (c.read_integer.ensures.turns _)

pub value::read_value-returns-in-Some-Char-clause-turns : goal.value::read_value-returns-in-Some-Char-clause-turns
value::read_value-returns-in-Some-Char-clause-turns t c =
    settled_spent _ c.args.cursor.now c.read_char.result c.read_char.new.cursor _ (c.read_char.ensures.turns _)

pub value::read_value-returns-in-Some-Str-clause-turns : goal.value::read_value-returns-in-Some-Str-clause-turns
value::read_value-returns-in-Some-Str-clause-turns t c =
    settled_spent _ c.args.cursor.now c.read_str.result c.read_str.new.cursor _ (c.read_str.ensures.turns _)

pub value::read_value-returns-in-Some-UnitStruct-clause-turns : goal.value::read_value-returns-in-Some-UnitStruct-clause-turns
value::read_value-returns-in-Some-UnitStruct-clause-turns t c =
    settled_spent _ c.args.cursor.now c.read_unit_struct.result c.read_unit_struct.new.cursor _ (c.read_unit_struct.ensures.turns _)

pub value::read_value-returns-in-Some-Bytes-clause-turns : goal.value::read_value-returns-in-Some-Bytes-clause-turns
value::read_value-returns-in-Some-Bytes-clause-turns t c =
    settled_spent _ c.args.cursor.now c.read_bytes.result c.read_bytes.new.cursor _ (c.read_bytes.ensures.turns _)

pub value::read_value-returns-in-Some-Seq-clause-turns : goal.value::read_value-returns-in-Some-Seq-clause-turns
value::read_value-returns-in-Some-Seq-clause-turns t c = settled_spent _ c.args.cursor.now c.read_seq.result c.read_seq.new.cursor _ c.read_seq.ensures.turns

pub value::read_value-returns-in-Some-Tuple-clause-turns : goal.value::read_value-returns-in-Some-Tuple-clause-turns
value::read_value-returns-in-Some-Tuple-clause-turns t c =
    settled_spent _ c.args.cursor.now c.read_tuple.result c.read_tuple.new.cursor _ c.read_tuple.ensures.turns

pub value::read_value-returns-in-Some-Map-clause-turns : goal.value::read_value-returns-in-Some-Map-clause-turns
value::read_value-returns-in-Some-Map-clause-turns t c = settled_spent _ c.args.cursor.now c.read_map.result c.read_map.new.cursor _ c.read_map.ensures.turns

pub value::read_value-returns-in-Some-TupleStruct-clause-turns : goal.value::read_value-returns-in-Some-TupleStruct-clause-turns
value::read_value-returns-in-Some-TupleStruct-clause-turns t c =
    settled_spent _ c.args.cursor.now c.read_tuple_struct.result c.read_tuple_struct.new.cursor _ c.read_tuple_struct.ensures.turns

pub value::read_value-returns-in-Some-Struct-clause-turns : goal.value::read_value-returns-in-Some-Struct-clause-turns
value::read_value-returns-in-Some-Struct-clause-turns t c =
    settled_spent _ c.args.cursor.now c.read_struct.result c.read_struct.new.cursor _ c.read_struct.ensures.turns

pub value::read_value-returns-in-Some-Enum-clause-turns : goal.value::read_value-returns-in-Some-Enum-clause-turns
value::read_value-returns-in-Some-Enum-clause-turns t c =
    settled_spent _ c.args.cursor.now c.read_enum.result c.read_enum.new.cursor _ c.read_enum.ensures.turns

pub value::read_value-returns-in-Some-Option-clause-turns : goal.value::read_value-returns-in-Some-Option-clause-turns
value::read_value-returns-in-Some-Option-clause-turns t c =
    let falls =
    subst (λ s. IsOneLonger c.args.context.now.schema c.args.index (content_of (shape_view s))) c.in-Some-Option.field-0-is c.in-Some-Option.ensures.falls in
    spent_more _ c.args.cursor.now c.read_option.result c.read_option.new.cursor _ _ (omega (arith, falls)) c.read_option.ensures.turns

pub value::read_value-returns-in-Some-Newtype-clause-turns : goal.value::read_value-returns-in-Some-Newtype-clause-turns
value::read_value-returns-in-Some-Newtype-clause-turns t c =
    let falls =
    subst (λ s. IsOneLonger c.args.context.now.schema c.args.index (content_of (shape_view s))) c.in-Some-Newtype.field-0-is c.in-Some-Newtype.ensures.falls in
    spent_more _ c.args.cursor.now c.read_newtype.result c.read_newtype.new.cursor _ _ (omega (arith, falls)) c.read_newtype.ensures.turns

pub value::read_value-returns-in-Some-Value-clause-turns : goal.value::read_value-returns-in-Some-Value-clause-turns
value::read_value-returns-in-Some-Value-clause-turns t c =
    spent_more _ c.args.cursor.now c.read_untyped.result c.read_untyped.new.cursor 2 _ (omega arith) (c.read_untyped.ensures.turns _)

pub value::read_value-returns-in-Some-Raw-clause-turns : goal.value::read_value-returns-in-Some-Raw-clause-turns
value::read_value-returns-in-Some-Raw-clause-turns t c = spent_more _ c.args.cursor.now c.read_raw.result c.read_raw.new.cursor 2 _ (omega arith)
    (raw_typed _ 2 c.args.cursor.now c.read_raw.result c.read_raw.new.cursor c.read_raw.ensures.turns)
