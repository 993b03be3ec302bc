mod Rows
use Rattle.std.proofs.Common.{◌&&◌, chars, false, Some, rules, refl, sym, ap, ◌∙◌}
use Rattle.std.proofs.lemmas.Result.{err_from_is_err_and}
use Rattle.ron_spec_layout.proofs.ValueWords.{text_scalars}
use Rattle.ron_data.specs.declared.data.Data.TheVariants as data_
use Rattle.ron_data.specs.Datum.{data_view}
use Rattle.ron_data.proofs.DatumLemmas.{view-bool, view-int, view-char, view-str, view-bytes, view-unit, view-none, view-some, view-seq, view-tuple, view-map}
use Rattle.ron_data.proofs.DatumLemmas.{view-unit_struct, view-newtype, view-tuple_struct, view-struct, view-variant, view-value, view-raw, view-no_content}
use Rattle.ron_data.proofs.DatumLemmas.{view-one, view-items, view-named}
use Rattle.ron_spec_grammar.specs.Data.{raw_of}
use Rattle.ron_ser.specs.declared.container.Container.TheVariants as container
use Rattle.ron_ser.specs.Place.{left, right, inside, within}
use Rattle.ron_ser.specs.Written.{keeps_at}
use Rattle.ron_ser.specs.Piece.{value_piece, opening, closing}
use Rattle.ron_ser.proofs.Pieces.{nothing, one}
use Rattle.ron_ser.proofs.PieceLemmas.{written_eq, stopped_eq, tries_eq, leaf_written, plain_written, enclosed_written}
use Rattle.ron_ser.proofs.PieceLemmas.{enclosed_stopped, named_stopped, named_tries, name_stopped, deeper_tries, level_stopped}
use Rattle.ron_ser.proofs.PieceLemmas.{tries_same}
use Rattle.ron_ser.proofs.RowLemmas.{seen, content_seen}
use Rattle.ron_ser.proofs.KeepLemmas.{known_for, known_inside, some_kept, newtype_kept, held_kept}
use Rattle.ron_ser.proofs.DataLemmas.{raw_piece, bool_piece, int_piece, char_piece, str_piece, bytes_piece, unit_piece, none_piece, list_piece, tuple_piece}
use Rattle.ron_ser.proofs.DataLemmas.{tuple_struct_piece, map_piece, struct_piece, range_piece, some_piece, kept_piece, dropped_piece, newtype_piece}
use Rattle.ron_ser.proofs.DataLemmas.{variant_piece}
use Rattle.ron_ser.specs.Stand.{place_of}
use Rattle.ron_ser.proofs.value.+write.Goals as goal

-- ---- what holds no others

pub write_piece-returns-in-Bool : goal.write_piece-returns-in-Bool
write_piece-returns-in-Bool g t c known =
    written_eq g.O.Output.puts c.args.writing.now.limit (seen _ _ c.in-Bool.is (view-bool _) (bool_piece _ _ _))
    (plain_written g.O.Output.puts _ c.write_boolean.ensures)

pub write_piece-returns-in-Int : goal.write_piece-returns-in-Int
write_piece-returns-in-Int g t c known =
    written_eq g.O.Output.puts c.args.writing.now.limit (seen _ _ c.in-Int.is (view-int _) (int_piece _ _ _ _))
    (plain_written g.O.Output.puts _ (rw c.suffixes_numbers.ensures at c.write_number.ensures))

pub write_piece-returns-in-Char : goal.write_piece-returns-in-Char
write_piece-returns-in-Char g t c known =
    written_eq g.O.Output.puts c.args.writing.now.limit (seen _ _ c.in-Char.is (view-char _) (char_piece _ _ _))
    (leaf_written g.O.Output.puts _ c.write_character.ensures (search rules))

pub write_piece-returns-in-Str : goal.write_piece-returns-in-Str
write_piece-returns-in-Str g t c known =
    written_eq g.O.Output.puts c.args.writing.now.limit (seen _ _ c.in-Str.is (view-str _) (str_piece _ _ _))
    (rw (← c.as_str.ensures) (leaf_written g.O.Output.puts _ (rw c.escapes_strings.ensures at c.write_string.ensures) (text_scalars _ c.as_str.utf8)))

pub write_piece-returns-in-Bytes : goal.write_piece-returns-in-Bytes
write_piece-returns-in-Bytes g t c known =
    let wrote = c.write_byte_string.ensures in
    written_eq g.O.Output.puts c.args.writing.now.limit (seen _ _ c.in-Bytes.is (view-bytes _) (bytes_piece _ _ _))
    (rw (← c.as_slice.ensures) (leaf_written g.O.Output.puts _ (rw c.escapes_strings-in-Bytes.ensures at wrote.text) wrote.below))

pub write_piece-returns-in-Unit : goal.write_piece-returns-in-Unit
write_piece-returns-in-Unit g t c known =
    written_eq g.O.Output.puts c.args.writing.now.limit (seen _ _ c.in-Unit.is view-unit (unit_piece _ _))
    (plain_written g.O.Output.puts _ c.write_unit.ensures)

pub write_piece-returns-in-None : goal.write_piece-returns-in-None
write_piece-returns-in-None g t c known =
    written_eq g.O.Output.puts c.args.writing.now.limit (seen _ _ (c.in-Option.is ∙ ap data_.Option c.in-None.is) view-none (none_piece _ _))
    (plain_written g.O.Output.puts _ (one g.O.Output.puts _ _ _ (c.put.ensures)))

pub write_piece-returns-in-UnitStruct : goal.write_piece-returns-in-UnitStruct
write_piece-returns-in-UnitStruct g t c known =
    tries_eq g.O.Output.puts _ _ _ c.write_unit_struct.result (seen _ _ c.in-UnitStruct.is (view-unit_struct _) refl)
    (rw c.as_str-in-UnitStruct.ensures.value at c.write_unit_struct.ensures)

-- ---- values without a schema

pub write_piece-returns-in-Value : goal.write_piece-returns-in-Value
write_piece-returns-in-Value g t c known =
    let inside = known_for c.args.manner.somes (held_kept (place_of c.args.writing.now) c.args.manner.bare c.in-Value.is) known in
    tries_eq g.O.Output.puts _ _ _ c.write_any.result (seen _ _ c.in-Value.is (view-value _) refl) ((rw c.as_value.ensures at c.write_any.ensures) inside)

-- ---- raw texts

pub write_piece-returns-in-Raw : goal.write_piece-returns-in-Raw
write_piece-returns-in-Raw g t c known =
    tries_eq g.O.Output.puts _ _ _ c.write_raw.result (seen _ _ c.in-Raw.is (view-raw _) (ap (λ b. value_piece (place_of c.args.writing.now) c.args.manner.bare
    (raw_of (chars b))) (sym c.get_ron.ensures.text) ∙ raw_piece _ _ c.get_ron.result.now c.get_ron.utf8)) c.write_raw.ensures

-- ---- lists, tuples and maps

pub write_piece-returns-in-Seq : goal.write_piece-returns-in-Seq
write_piece-returns-in-Seq g t c known =
    tries_eq g.O.Output.puts _ _ _ c.write_items.result (seen _ _ c.in-Seq.is (view-seq _) (list_piece _ _ _))
    (rw c.as_slice-in-Seq.ensures.value at c.write_items.ensures)

pub write_piece-returns-in-Tuple : goal.write_piece-returns-in-Tuple
write_piece-returns-in-Tuple g t c known =
    tries_eq g.O.Output.puts _ _ _ c.write_items-in-Tuple.result (seen _ _ c.in-Tuple.is (view-tuple _) (tuple_piece _ _ _))
    (rw c.as_slice-in-Tuple.ensures.value at c.write_items-in-Tuple.ensures)

pub write_piece-returns-in-Map : goal.write_piece-returns-in-Map
write_piece-returns-in-Map g t c known =
    tries_eq g.O.Output.puts _ _ _ c.write_pairs.result (seen _ _ c.in-Map.is (view-map _) (map_piece _ _ _))
    (rw c.as_slice-in-Map.ensures.value at c.write_pairs.ensures)

-- ---- structs

pub write_piece-returns-in_err-write_struct_name-in-TupleStruct : goal.write_piece-returns-in_err-write_struct_name-in-TupleStruct
write_piece-returns-in_err-write_struct_name-in-TupleStruct g t c known =
    let p = err_from_is_err_and c.from_residual.result c.from_residual.ensures.1 in
    let called = c.in_err-write_struct_name-in-TupleStruct.ensures in
    rw (p.1, p.2)
    (stopped_eq g.O.Output.puts _ (seen _ _ c.in-TupleStruct.is (view-tuple_struct _ _) (tuple_struct_piece _ _ _ _))
    (name_stopped g.O.Output.puts _ _ _ _ _ (rw c.as_str-in-TupleStruct.ensures.value at called.refused) called.unchanged))

pub write_piece-returns-in_ok-write_struct_name-in-TupleStruct : goal.write_piece-returns-in_ok-write_struct_name-in-TupleStruct
write_piece-returns-in_ok-write_struct_name-in-TupleStruct g t c known =
    let name = rw c.as_str-in-TupleStruct.ensures.value at c.in_ok-write_struct_name-in-TupleStruct.ensures.name in
    let text = rw c.as_str-in-TupleStruct.ensures.value at c.in_ok-write_struct_name-in-TupleStruct.ensures.text in
    tries_eq g.O.Output.puts _ _ _ c.write_items-in-TupleStruct.result (seen _ _ c.in-TupleStruct.is (view-tuple_struct _ _) (tuple_struct_piece _ _ _ _))
    (named_tries g.O.Output.puts _ _ _ _ c.write_items-in-TupleStruct.result text name
    (rw c.as_slice-in-TupleStruct.ensures.value at c.write_items-in-TupleStruct.ensures))

pub write_piece-returns-in-Struct : goal.write_piece-returns-in-Struct
write_piece-returns-in-Struct g t c known =
    tries_eq g.O.Output.puts _ _ _ c.write_struct.result (seen _ _ c.in-Struct.is (view-struct _ _) refl)
    (rw (c.as_str-in-Struct.ensures.value, c.as_slice-in-Struct.ensures.value) at c.write_struct.ensures)

pub write_struct-returns-in-Some : goal.write_struct-returns-in-Some
write_struct-returns-in-Some g t c =
    let took = g.O.Output.puts in
    written_eq took c.args.writing.now.limit (range_piece (place_of c.args.writing.now) c.args.bare _ _ _ (sym c.in-Some.ensures))
    (plain_written took _ (rw c.suffixes_numbers.ensures at c.write_range.ensures))

pub write_struct-returns-in_err-write_struct_name : goal.write_struct-returns-in_err-write_struct_name
write_struct-returns-in_err-write_struct_name g t c =
    let p = err_from_is_err_and c.from_residual.result c.from_residual.ensures.1 in
    let called = c.in_err-write_struct_name.ensures in
    rw (p.1, p.2)
    (stopped_eq g.O.Output.puts _ (struct_piece _ _ _ _ (sym c.in_default.ensures)) (name_stopped g.O.Output.puts _ _ _ _ _ called.refused called.unchanged))

pub write_struct-returns : goal.write_struct-returns
write_struct-returns g t c =
    let called = c.in_ok-write_struct_name.ensures in
    tries_eq g.O.Output.puts _ _ _ c.write_fields.result (struct_piece _ _ _ _ (sym c.in_default.ensures))
    (named_tries g.O.Output.puts _ _ _ _ c.write_fields.result called.text called.name c.write_fields.ensures)

-- ---- newtypes

pub write_piece-returns-in-Newtype : goal.write_piece-returns-in-Newtype
write_piece-returns-in-Newtype g t c known =
    let call = rw c.deref-in-Newtype.ensures at (rw c.as_str-in-Newtype.ensures.value at c.write_newtype.ensures) in
    let inside = known_for c.args.manner.somes (newtype_kept (place_of c.args.writing.now) c.args.manner.bare c.in-Newtype.is refl) known in
    tries_eq g.O.Output.puts _ _ _ c.write_newtype.result (seen _ _ c.in-Newtype.is (view-newtype _ _) refl) (call inside)

pub write_newtype-returns-in_err-write_struct_name : goal.write_newtype-returns-in_err-write_struct_name
write_newtype-returns-in_err-write_struct_name g t c known =
    let p = err_from_is_err_and c.from_residual.result c.from_residual.ensures.1 in
    let called = c.in_err-write_struct_name.ensures in
    rw (p.1, p.2) (stopped_eq g.O.Output.puts _ (newtype_piece _ _ c.unwraps_newtype-alone.ensures refl refl _ _)
    (name_stopped g.O.Output.puts _ _ _ _ _ called.refused called.unchanged))

pub write_newtype-returns : goal.write_newtype-returns
write_newtype-returns g t c known =
    let called = c.in_ok-write_struct_name.ensures in
    let alone = ap (λ b. b && keeps_at (place_of c.args.writing.now) false (data_view c.args.content.now)) (sym c.unwraps_newtype-alone.ensures) in
    let inside = known_inside c.args.manner.somes _ _ (known_for c.args.manner.somes alone known) in
    tries_eq g.O.Output.puts _ _ _ c.write_content.result (newtype_piece _ _ c.unwraps_newtype-alone.ensures c.opening-left.ensures c.closing-right.ensures _ _)
    (named_tries g.O.Output.puts _ _ _ _ c.write_content.result called.text called.name ((rw c.somes_inside-inside.ensures at c.write_content.ensures) inside))

-- ---- variants

pub write_piece-returns-in_err-check_name-in-Variant : goal.write_piece-returns-in_err-check_name-in-Variant
write_piece-returns-in_err-check_name-in-Variant g t c known =
    let p = err_from_is_err_and c.from_residual-in_err-check_name-in-Variant.result c.from_residual-in_err-check_name-in-Variant.ensures.1 in
    rw (p.1, p.2)
    (stopped_eq g.O.Output.puts _ (seen _ _ c.in-Variant.is (view-variant _ _ _) (variant_piece _ _ _ _ _))
    (name_stopped g.O.Output.puts _ _ _ _ _ (rw c.as_str-in-Variant.ensures.value at c.in_err-check_name-in-Variant.ensures.refused) refl))

pub write_piece-returns-in_err-write_name-in-Variant : goal.write_piece-returns-in_err-write_name-in-Variant
write_piece-returns-in_err-write_name-in-Variant g t c known =
    let took = g.O.Output.puts in
    let p = err_from_is_err_and c.from_residual-in_err-write_name-in-Variant.result c.from_residual-in_err-write_name-in-Variant.ensures.1 in
    let called = c.in_err-write_name-in-Variant.ensures in
    rw (p.1, p.2)
    (stopped_eq took _ (seen _ _ c.in-Variant.is (view-variant _ _ _) (variant_piece _ _ _ _ _))
    (named_stopped took _ _ (nothing took _) (rw c.as_str-in-Variant.ensures.value at c.in_ok-check_name-in-Variant.ensures.name)
    (name_stopped took _ _ _ _ _ (rw c.as_str-in-Variant-2.ensures.value at called.refused) called.unchanged)))

pub write_piece-returns-in_ok-write_name-in-Variant : goal.write_piece-returns-in_ok-write_name-in-Variant
write_piece-returns-in_ok-write_name-in-Variant g t c known =
    let took = g.O.Output.puts in
    let name = rw c.as_str-in-Variant.ensures.value at c.in_ok-check_name-in-Variant.ensures.name in
    let variant = rw c.as_str-in-Variant-2.ensures.value at c.in_ok-write_name-in-Variant.ensures.name in
    let text = rw c.as_str-in-Variant-2.ensures.value at c.in_ok-write_name-in-Variant.ensures.text in
    tries_eq took _ _ _ c.write_variant.result (seen _ _ c.in-Variant.is (view-variant _ _ _) (variant_piece _ _ _ _ _))
    (named_tries took _ _ _ _ c.write_variant.result (nothing took _) name
    (named_tries took _ _ _ _ c.write_variant.result text variant c.write_variant.ensures))

pub write_variant-returns-in-Unit : goal.write_variant-returns-in-Unit
write_variant-returns-in-Unit g t c =
    written_eq g.O.Output.puts c.args.writing.now.limit (content_seen _ c.in-Unit.is view-no_content)
    (plain_written g.O.Output.puts _ (nothing g.O.Output.puts _))

pub write_variant-returns-in-Newtype : goal.write_variant-returns-in-Newtype
write_variant-returns-in-Newtype g t c =
    tries_eq g.O.Output.puts _ _ _ c.write_content.result (content_seen _ c.in-Newtype.is (view-one _))
    ((rw c.deref.ensures at (rw c.unwraps_variants-unwraps.ensures at c.write_content.ensures)) tt)

pub write_variant-returns-in-Tuple : goal.write_variant-returns-in-Tuple
write_variant-returns-in-Tuple g t c =
    tries_eq g.O.Output.puts _ _ _ c.write_items.result (content_seen _ c.in-Tuple.is (view-items _)) (rw c.as_slice.ensures.value at c.write_items.ensures)

pub write_variant-returns-in-Struct : goal.write_variant-returns-in-Struct
write_variant-returns-in-Struct g t c =
    tries_eq g.O.Output.puts _ _ _ c.write_fields.result (content_seen _ c.in-Struct.is (view-named _))
    (rw c.as_slice-in-Struct.ensures.value at c.write_fields.ensures)

-- ---- options

pub write_piece-returns-in-Some : goal.write_piece-returns-in-Some
write_piece-returns-in-Some g t c known =
    let inside = known_for c.args.manner.somes (some_kept (place_of c.args.writing.now) c.args.manner.bare c.in-Option.is c.in-Some.is) known in
    tries_eq g.O.Output.puts _ _ _ c.write_some.result (seen _ _ (c.in-Option.is ∙ ap data_.Option c.in-Some.is) (view-some _) refl)
    ((rw c.deref.ensures at c.write_some.ensures) inside)

pub write_some-returns-then-not-leaves_somes_out : goal.write_some-returns-then-not-leaves_somes_out
write_some-returns-then-not-leaves_somes_out g t c known =
    let explicit = sym c.leaves_somes_out.ensures ∙ c.if-not-leaves_somes_out.true in
    tries_eq g.O.Output.puts _ _ _ c.write_content.result (some_piece _ _ explicit _) ((rw c.unwraps_variants-unwraps.ensures at c.write_content.ensures) tt)

pub write_some-returns-then-are_kept : goal.write_some-returns-then-are_kept
write_some-returns-then-are_kept g t c known =
    let implicit = sym c.leaves_somes_out.ensures ∙ c.if-not-leaves_somes_out.false in
    let kept = sym (c.are_kept.ensures known) ∙ c.if-are_kept.true in
    tries_eq g.O.Output.puts _ _ _ c.write_content-then-are_kept.result (kept_piece _ _ implicit _ kept) (c.write_content-then-are_kept.ensures kept)

pub write_some-returns-else-are_kept : goal.write_some-returns-else-are_kept
write_some-returns-else-are_kept g t c known =
    let implicit = sym c.leaves_somes_out.ensures ∙ c.if-not-leaves_somes_out.false in
    let dropped = sym (c.are_kept.ensures known) ∙ c.if-are_kept.false in
    tries_eq g.O.Output.puts _ _ _ c.write_inner.result (dropped_piece _ _ implicit _ dropped) (c.write_inner.ensures dropped)

-- ---- a value in another

pub write_content-returns-in_err-write_inner : goal.write_content-returns-in_err-write_inner
write_content-returns-in_err-write_inner g t c known =
    let took = g.O.Output.puts in
    let p = err_from_is_err_and c.from_residual.result c.from_residual.ensures.1 in
    rw (p.1, p.2) (enclosed_stopped took _ c.args.brackets.1.now (one took _ _ _ (c.put.ensures)) (c.in_err-write_inner.ensures known))

pub write_content-returns : goal.write_content-returns
write_content-returns g t c known =
    let took = g.O.Output.puts in
    enclosed_written took _ (one took _ _ _ (c.put.ensures)) (c.in_ok-write_inner.ensures known) (one took _ _ _ (c.put-2.ensures))

pub write_inner-returns-in_default : goal.write_inner-returns-in_default
write_inner-returns-in_default g t c known = level_stopped g.O.Output.puts _ _ _ c.in_default.ensures.level

pub write_inner-returns : goal.write_inner-returns
write_inner-returns g t c known =
    let took = g.O.Output.puts in
    let inner = c.in-Some.ensures in
    let same = known_for c.args.manner.somes (ap (λ x. keeps_at x c.args.manner.bare (data_view c.args.value.now)) (sym inner.place)) known in
    deeper_tries took _ _ _ _ c.write_piece.result inner.level (tries_same took _ inner.place _ _ _ _ c.write_piece.result (c.write_piece.ensures same))

-- ---- an item, and the value of a field

pub write_item-returns-in_default : goal.write_item-returns-in_default
write_item-returns-in_default g t c = level_stopped g.O.Output.puts _ _ _ c.in_default.ensures.level

pub write_item-returns : goal.write_item-returns
write_item-returns g t c =
    let took = g.O.Output.puts in
    let inner = c.in-Some.ensures in
    deeper_tries took _ _ _ _ c.write_piece.result inner.level (tries_same took _ inner.place _ _ _ _ c.write_piece.result (c.write_piece.ensures tt))

pub write_field-returns-in_default : goal.write_field-returns-in_default
write_field-returns-in_default g t c = level_stopped g.O.Output.puts _ _ _ c.in_default.ensures.level

pub write_field-returns : goal.write_field-returns
write_field-returns g t c =
    let took = g.O.Output.puts in
    let inner = c.in-Some.ensures in
    let there = c.within-within.ensures.place ∙ ap (within (chars c.args.name.now)) inner.place in
    deeper_tries took _ _ _ _ c.write_piece.result (inner.level ∙ ap Some (sym c.within-within.ensures.limit))
    (tries_same took _ there _ _ _ _ c.write_piece.result (c.write_piece.ensures tt))

-- ---- items, pairs and fields, in a file of their own

pub write_items-loop-i-init : goal.write_items-loop-i-init
write_items-loop-i-init = Rows.write_items-loop-i-init

pub write_items-returns-in_err-write_item : goal.write_items-returns-in_err-write_item
write_items-returns-in_err-write_item = Rows.write_items-returns-in_err-write_item

pub write_items-loop-i-preserved : goal.write_items-loop-i-preserved
write_items-loop-i-preserved = Rows.write_items-loop-i-preserved

pub write_items-returns : goal.write_items-returns
write_items-returns = Rows.write_items-returns

pub write_pairs-loop-i-init : goal.write_pairs-loop-i-init
write_pairs-loop-i-init = Rows.write_pairs-loop-i-init

pub write_pairs-returns-in_err-write_item : goal.write_pairs-returns-in_err-write_item
write_pairs-returns-in_err-write_item = Rows.write_pairs-returns-in_err-write_item

pub write_pairs-returns-in_err-write_item-2 : goal.write_pairs-returns-in_err-write_item-2
write_pairs-returns-in_err-write_item-2 = Rows.write_pairs-returns-in_err-write_item-2

pub write_pairs-loop-i-preserved : goal.write_pairs-loop-i-preserved
write_pairs-loop-i-preserved = Rows.write_pairs-loop-i-preserved

pub write_pairs-returns : goal.write_pairs-returns
write_pairs-returns = Rows.write_pairs-returns

pub write_fields-loop-i-init : goal.write_fields-loop-i-init
write_fields-loop-i-init = Rows.write_fields-loop-i-init

pub write_fields-returns-in_err-write_name : goal.write_fields-returns-in_err-write_name
write_fields-returns-in_err-write_name = Rows.write_fields-returns-in_err-write_name

pub write_fields-returns-in_err-write_field : goal.write_fields-returns-in_err-write_field
write_fields-returns-in_err-write_field = Rows.write_fields-returns-in_err-write_field

pub write_fields-loop-i-preserved : goal.write_fields-loop-i-preserved
write_fields-loop-i-preserved = Rows.write_fields-loop-i-preserved

pub write_fields-returns : goal.write_fields-returns
write_fields-returns = Rows.write_fields-returns
