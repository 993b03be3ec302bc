use Rattle.std.proofs.Common.{rules, refl, sym, ◌∙◌}
use Rattle.ron_value.proofs.ListOrders.{slice_cmp-first_ended, slice_cmp-second_ended}
use Rattle.ron_data.specs.Datum.{data_view, pair_view, named_view}
use Rattle.ron_data.specs.Order.{data_cmp, pair_cmp, field_cmp}
use Rattle.ron_data.proofs.DatumLemmas.{view-str, view-bytes, view-seq, view-tuple, view-map, view-unit_struct, view-newtype, view-tuple_struct, view-struct}
use Rattle.ron_data.proofs.DatumLemmas.{view-variant, view-raw, view-items, view-named}
use Rattle.ron_data.proofs.OrderLemmas.{strings_cmp, raws_cmp, bytes_cmp, lists_cmp, tuples_cmp, maps_cmp, unit_structs_cmp, newtypes_cmp, tuple_structs_cmp}
use Rattle.ron_data.proofs.OrderLemmas.{structs_cmp, variants_cmp, contents_cmp}
use Rattle.ron_data.proofs.order.+compare.Goals as goal
use Rattle.ron_data.proofs.order.+compare.Goals.{compare_items-then-loop-i-test+else-i-others, compare_items-else-loop-i-test}
use Rattle.ron_data.proofs.order.+compare.Goals.{compare_pairs-then-loop-i-test+else-i-others, compare_pairs-else-loop-i-test}
use Rattle.ron_data.proofs.order.+compare.Goals.{compare_fields-then-loop-i-test+else-i-others, compare_fields-else-loop-i-test}

pub compare-returns-in-Str-Str : goal.compare-returns-in-Str-Str
compare-returns-in-Str-Str t c =
    let arm = c.in-Str-Str in
    rw (arm.is-0, arm.is-1, view-str arm.one, view-str arm.other, strings_cmp, c.compare_texts.ensures, c.as_str.ensures, c.as_str-in-Str-Str.ensures) refl

pub compare-returns-in-Raw-Raw : goal.compare-returns-in-Raw-Raw
compare-returns-in-Raw-Raw t c =
    let arm = c.in-Raw-Raw in
    rw (
      arm.is-0,
      arm.is-1,
      view-raw arm.one,
      view-raw arm.other,
      raws_cmp,
      c.compare_texts-in-Raw-Raw.ensures,
      c.get_ron.ensures.text,
      c.get_ron-in-Raw-Raw.ensures.text,
    ) refl

pub compare-returns-in-Bytes-Bytes : goal.compare-returns-in-Bytes-Bytes
compare-returns-in-Bytes-Bytes t c =
    let arm = c.in-Bytes-Bytes in
    rw (
      arm.is-0,
      arm.is-1,
      view-bytes arm.one,
      view-bytes arm.other,
      bytes_cmp,
      c.cmp-in-Bytes-Bytes.ensures,
      c.as_slice.ensures,
      c.as_slice-in-Bytes-Bytes.ensures,
    ) refl

pub compare-returns-in-Seq-Seq : goal.compare-returns-in-Seq-Seq
compare-returns-in-Seq-Seq t c =
    let arm = c.in-Seq-Seq in
    rw (
      arm.is-0,
      arm.is-1,
      view-seq arm.one,
      view-seq arm.other,
      lists_cmp,
      c.compare_items.ensures,
      c.as_slice-in-Seq-Seq.ensures.value,
      c.as_slice-in-Seq-Seq-2.ensures.value,
    ) refl

pub compare-returns-in-Tuple-Tuple : goal.compare-returns-in-Tuple-Tuple
compare-returns-in-Tuple-Tuple t c =
    let arm = c.in-Tuple-Tuple in
    rw (
      arm.is-0,
      arm.is-1,
      view-tuple arm.one,
      view-tuple arm.other,
      tuples_cmp,
      c.compare_items-in-Tuple-Tuple.ensures,
      c.as_slice-in-Tuple-Tuple.ensures.value,
      c.as_slice-in-Tuple-Tuple-2.ensures.value,
    ) refl

pub compare-returns-in-Map-Map : goal.compare-returns-in-Map-Map
compare-returns-in-Map-Map t c =
    let arm = c.in-Map-Map in
    rw (
      arm.is-0,
      arm.is-1,
      view-map arm.one,
      view-map arm.other,
      maps_cmp,
      c.compare_pairs.ensures,
      c.as_slice-in-Map-Map.ensures.value,
      c.as_slice-in-Map-Map-2.ensures.value,
    ) refl

pub compare-returns-in-UnitStruct-UnitStruct : goal.compare-returns-in-UnitStruct-UnitStruct
compare-returns-in-UnitStruct-UnitStruct t c =
    let arm = c.in-UnitStruct-UnitStruct in
    rw (arm.is-0, arm.is-1, view-unit_struct arm.one, view-unit_struct arm.other, unit_structs_cmp, c.compare_names.ensures) refl

pub compare-returns-in-Newtype-Newtype : goal.compare-returns-in-Newtype-Newtype
compare-returns-in-Newtype-Newtype t c =
    let arm = c.in-Newtype-Newtype in
    rw (
      arm.is-0,
      arm.is-1,
      view-newtype arm.name arm.one,
      view-newtype arm.other_name arm.other,
      newtypes_cmp _ _ (data_view arm.one.value) (data_view arm.other.value),
      c.then.ensures,
      c.compare_names-in-Newtype-Newtype.ensures,
      c.compare-in-Newtype-Newtype.ensures,
      c.deref-in-Newtype-Newtype.ensures,
      c.deref-in-Newtype-Newtype-2.ensures,
    ) refl

pub compare-returns-in-TupleStruct-TupleStruct : goal.compare-returns-in-TupleStruct-TupleStruct
compare-returns-in-TupleStruct-TupleStruct t c =
    let arm = c.in-TupleStruct-TupleStruct in
    rw (
      arm.is-0,
      arm.is-1,
      view-tuple_struct arm.name arm.one,
      view-tuple_struct arm.other_name arm.other,
      tuple_structs_cmp,
      c.then-in-TupleStruct-TupleStruct.ensures,
      c.compare_names-in-TupleStruct-TupleStruct.ensures,
      c.compare_items-in-TupleStruct-TupleStruct.ensures,
      c.as_slice-in-TupleStruct-TupleStruct.ensures.value,
      c.as_slice-in-TupleStruct-TupleStruct-2.ensures.value,
    ) refl

pub compare-returns-in-Struct-Struct : goal.compare-returns-in-Struct-Struct
compare-returns-in-Struct-Struct t c =
    let arm = c.in-Struct-Struct in
    rw (
      arm.is-0,
      arm.is-1,
      view-struct arm.name arm.one,
      view-struct arm.other_name arm.other,
      structs_cmp,
      c.then-in-Struct-Struct.ensures,
      c.compare_names-in-Struct-Struct.ensures,
      c.compare_fields.ensures,
      c.as_slice-in-Struct-Struct.ensures.value,
      c.as_slice-in-Struct-Struct-2.ensures.value,
    ) refl

pub compare-returns-in-Variant-Variant : goal.compare-returns-in-Variant-Variant
compare-returns-in-Variant-Variant t c =
    let arm = c.in-Variant-Variant in
    rw (
      arm.is-0,
      arm.is-1,
      view-variant arm.name arm.variant arm.content,
      view-variant arm.other_name arm.other_variant arm.other,
      variants_cmp,
      c.then-in-Variant-Variant-2.ensures,
      c.then-in-Variant-Variant.ensures,
      c.compare_content.ensures,
      c.compare_names-in-Variant-Variant.ensures,
      c.compare_names-in-Variant-Variant-2.ensures,
    ) refl

pub compare_content-returns-in-Tuple-Tuple : goal.compare_content-returns-in-Tuple-Tuple
compare_content-returns-in-Tuple-Tuple t c =
    let arm = c.in-Tuple-Tuple in
    rw (
      arm.is-0,
      arm.is-1,
      view-items arm.one,
      view-items arm.other,
      lists_cmp,
      c.compare_items.ensures,
      c.as_slice.ensures.value,
      c.as_slice-in-Tuple-Tuple.ensures.value,
    ) refl

pub compare_content-returns-in-Struct-Struct : goal.compare_content-returns-in-Struct-Struct
compare_content-returns-in-Struct-Struct t c =
    let arm = c.in-Struct-Struct in
    rw (
      arm.is-0,
      arm.is-1,
      view-named arm.one,
      view-named arm.other,
      contents_cmp,
      c.compare_fields.ensures,
      c.as_slice-in-Struct-Struct.ensures.value,
      c.as_slice-in-Struct-Struct-2.ensures.value,
    ) refl

pub compare_items-returns : goal.compare_items-returns
compare_items-returns t c =
    let i = c.loop-i.invariant in
    elim c.loop-i-test.branch [
      | compare_items-then-loop-i-test+else-i-others w ↦ c.cmp.ensures
          ∙ sym (slice_cmp-second_ended data_view data_cmp _ _ c.loop-i.i i.in_items i.in_others (search rules)) ∙ i.rest
      | compare_items-else-loop-i-test w ↦ c.cmp.ensures ∙ sym (slice_cmp-first_ended data_view data_cmp _ _ c.loop-i.i i.in_items i.in_others (search rules))
          ∙ i.rest
    ]

pub compare_pairs-returns : goal.compare_pairs-returns
compare_pairs-returns t c =
    let i = c.loop-i.invariant in
    elim c.loop-i-test.branch [
      | compare_pairs-then-loop-i-test+else-i-others w ↦ c.cmp.ensures
          ∙ sym (slice_cmp-second_ended pair_view pair_cmp _ _ c.loop-i.i i.in_pairs i.in_others (search rules)) ∙ i.rest
      | compare_pairs-else-loop-i-test w ↦ c.cmp.ensures ∙ sym (slice_cmp-first_ended pair_view pair_cmp _ _ c.loop-i.i i.in_pairs i.in_others (search rules))
          ∙ i.rest
    ]

pub compare_fields-returns : goal.compare_fields-returns
compare_fields-returns t c =
    let i = c.loop-i.invariant in
    elim c.loop-i-test.branch [
      | compare_fields-then-loop-i-test+else-i-others w ↦ c.cmp.ensures
          ∙ sym (slice_cmp-second_ended named_view field_cmp _ _ c.loop-i.i i.in_fields i.in_others (search rules)) ∙ i.rest
      | compare_fields-else-loop-i-test w ↦ c.cmp.ensures
          ∙ sym (slice_cmp-first_ended named_view field_cmp _ _ c.loop-i.i i.in_fields i.in_others (search rules)) ∙ i.rest
    ]
