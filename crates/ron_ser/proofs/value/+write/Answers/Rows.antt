-- The items, the pairs and the fields that a list, a map and a struct hold.
use Rattle.std.proofs.Common.{false, codes, ap}
use Rattle.std.proofs.lemmas.Result.{err_from_is_err_and}
use Rattle.ron_data.specs.declared.data.Data.TheVariants as data_
use Rattle.ron_ser.specs.declared.container.Container.TheVariants as container
use Rattle.ron_ser.specs.Place.{left, right, inside}
use Rattle.ron_ser.specs.Piece.{enclosed, opening, closing}
use Rattle.ron_ser.proofs.Pieces.{one}
use Rattle.ron_ser.proofs.PieceLemmas.{written_eq, stopped_eq, behind_stopped, behind_written, enclosed_written}
use Rattle.ron_ser.proofs.PieceLemmas.{enclosed_stopped, named_written, named_stopped, name_stopped, keyed_written}
use Rattle.ron_ser.proofs.PieceLemmas.{key_stopped, keyed_stopped, ended_written, ended_stopped}
use Rattle.ron_ser.proofs.PlaceLemmas.{before_bytes, behind_bytes}
use Rattle.ron_ser.proofs.ItemLemmas.{none_stand, all_stand, more_stand, item_stopped}
use Rattle.ron_ser.proofs.RowLemmas.{inner_piece, items_row, pair_piece, pairs_row, field_piece, fields_row}
use Rattle.ron_ser.specs.Stand.{place_of}
use Rattle.ron_ser.proofs.value.+write.Goals as goal

-- ---- the items of a list or a tuple

pub write_items-loop-i-init : goal.write_items-loop-i-init
write_items-loop-i-init g t c = none_stand (before_bytes (place_of c.args.writing.now) c.args.container)
    (inner_piece (inside c.args.container (place_of c.args.writing.now))) g.O.Output.puts c.args.writing.now.limit c.args.items.now _

pub write_items-returns-in_err-write_item : goal.write_items-returns-in_err-write_item
write_items-returns-in_err-write_item g t c =
    let took = g.O.Output.puts in
    let here = place_of c.args.writing.now in
    let k = c.args.container in
    let p = err_from_is_err_and c.from_residual.result c.from_residual.ensures.1 in
    rw (p.1, p.2)
    (stopped_eq took _ (ap (λ q. enclosed (left k) q (right k)) (items_row here k c.args.items.now))
    (enclosed_stopped took _ (right k) (one took _ _ _ (rw c.left.ensures at (c.put.ensures)))
    (ended_stopped took _ (behind_bytes here k _)
    (item_stopped (before_bytes here k) (inner_piece (inside k here)) took _ _ _ _ c.loop-i-test.true c.index-items-i.is c.loop-i.invariant
    c.write_before.ensures
    c.in_err-write_item.ensures))))

pub write_items-loop-i-preserved : goal.write_items-loop-i-preserved
write_items-loop-i-preserved g t c =
    let took = g.O.Output.puts in
    let here = place_of c.args.writing.now in
    let k = c.args.container in
    more_stand (before_bytes here k) (inner_piece (inside k here)) took _ _ _ _ c.loop-i-test.true c.index-items-i.is c.loop-i.invariant c.write_before.ensures
    c.in_ok-write_item.ensures

pub write_items-returns : goal.write_items-returns
write_items-returns g t c =
    let took = g.O.Output.puts in
    let here = place_of c.args.writing.now in
    let k = c.args.container in
    let f = inner_piece (inside k here) in
    written_eq took _ (ap (λ q. enclosed (left k) q (right k)) (items_row here k c.args.items.now))
    (enclosed_written took _ (one took _ _ _ (rw c.left.ensures at (c.put.ensures)))
    (ended_written took _ (all_stand (before_bytes here k) f took _ c.loop-i.i c.args.items.now c.loop-i-test.false c.loop-i.invariant) c.write_behind.ensures)
    (one took _ _ _ (rw c.right.ensures at (c.put-2.ensures))))

-- ---- the pairs of a map

pub write_pairs-loop-i-init : goal.write_pairs-loop-i-init
write_pairs-loop-i-init g t c = none_stand (before_bytes (place_of c.args.writing.now) container.Map)
    (pair_piece (inside container.Map (place_of c.args.writing.now))) g.O.Output.puts c.args.writing.now.limit c.args.pairs.now _

pub write_pairs-returns-in_err-write_item : goal.write_pairs-returns-in_err-write_item
write_pairs-returns-in_err-write_item g t c =
    let took = g.O.Output.puts in
    let here = place_of c.args.writing.now in
    let p = err_from_is_err_and c.from_residual.result c.from_residual.ensures.1 in
    rw (p.1, p.2)
    (stopped_eq took _ (ap (λ q. enclosed (codes "{") q (codes "}")) (pairs_row here c.args.pairs.now))
    (enclosed_stopped took _ (codes "}") (one took _ _ _ (c.put.ensures))
    (ended_stopped took _ (behind_bytes here container.Map _)
    (item_stopped (before_bytes here container.Map) (pair_piece (inside container.Map here)) took _ _ _ _ c.loop-i-test.true c.index-pairs-i.is
    c.loop-i.invariant c.write_before.ensures
    (key_stopped took _ _ _ c.in_err-write_item.ensures)))))

pub write_pairs-returns-in_err-write_item-2 : goal.write_pairs-returns-in_err-write_item-2
write_pairs-returns-in_err-write_item-2 g t c =
    let took = g.O.Output.puts in
    let here = place_of c.args.writing.now in
    let p = err_from_is_err_and c.from_residual-in_err-write_item-2.result c.from_residual-in_err-write_item-2.ensures.1 in
    rw (p.1, p.2)
    (stopped_eq took _ (ap (λ q. enclosed (codes "{") q (codes "}")) (pairs_row here c.args.pairs.now))
    (enclosed_stopped took _ (codes "}") (one took _ _ _ (c.put.ensures))
    (ended_stopped took _ (behind_bytes here container.Map _)
    (item_stopped (before_bytes here container.Map) (pair_piece (inside container.Map here)) took _ _ _ _ c.loop-i-test.true c.index-pairs-i.is
    c.loop-i.invariant c.write_before.ensures
    (keyed_stopped took _ c.in_ok-write_item.ensures c.write_colon.ensures c.in_err-write_item-2.ensures)))))

pub write_pairs-loop-i-preserved : goal.write_pairs-loop-i-preserved
write_pairs-loop-i-preserved g t c =
    let took = g.O.Output.puts in
    let here = place_of c.args.writing.now in
    more_stand (before_bytes here container.Map) (pair_piece (inside container.Map here)) took _ _ _ _ c.loop-i-test.true c.index-pairs-i.is c.loop-i.invariant
    c.write_before.ensures
    (keyed_written took _ c.in_ok-write_item.ensures c.write_colon.ensures c.in_ok-write_item-2.ensures)

pub write_pairs-returns : goal.write_pairs-returns
write_pairs-returns g t c =
    let took = g.O.Output.puts in
    let here = place_of c.args.writing.now in
    let f = pair_piece (inside container.Map here) in
    written_eq took _ (ap (λ q. enclosed (codes "{") q (codes "}")) (pairs_row here c.args.pairs.now))
    (enclosed_written took _ (one took _ _ _ (c.put.ensures))
    (ended_written took _ (all_stand (before_bytes here container.Map) f took _ c.loop-i.i c.args.pairs.now c.loop-i-test.false c.loop-i.invariant)
    c.write_behind.ensures)
    (one took _ _ _ (c.put-2.ensures)))

-- ---- the fields of a struct

pub write_fields-loop-i-init : goal.write_fields-loop-i-init
write_fields-loop-i-init g t c = none_stand (before_bytes (place_of c.args.writing.now) (container.Struct c.args.bare))
    (field_piece (inside (container.Struct c.args.bare) (place_of c.args.writing.now))) g.O.Output.puts c.args.writing.now.limit c.args.fields.now _

pub write_fields-returns-in_err-write_name : goal.write_fields-returns-in_err-write_name
write_fields-returns-in_err-write_name g t c =
    let took = g.O.Output.puts in
    let here = place_of c.args.writing.now in
    let k = container.Struct c.args.bare in
    let p = err_from_is_err_and c.from_residual.result c.from_residual.ensures.1 in
    let called = c.in_err-write_name.ensures in
    rw (p.1, p.2)
    (stopped_eq took _ (ap (λ q. enclosed (opening c.args.bare) q (closing c.args.bare)) (fields_row here c.args.bare c.args.fields.now))
    (enclosed_stopped took _ (closing c.args.bare) (one took _ _ _ (rw c.opening.ensures at (c.put.ensures)))
    (ended_stopped took _ (behind_bytes here k _)
    (item_stopped (before_bytes here k) (field_piece (inside k here)) took _ _ _ _ c.loop-i-test.true c.index-fields-i.is c.loop-i.invariant
    c.write_before.ensures
    (behind_stopped took _ (rw c.as_str.ensures.value at c.write_doc_comment.ensures)
    (name_stopped took _ _ _ _ _ (rw c.as_str-in-loop-i.ensures.value at called.refused) called.unchanged))))))

pub write_fields-returns-in_err-write_field : goal.write_fields-returns-in_err-write_field
write_fields-returns-in_err-write_field g t c =
    let took = g.O.Output.puts in
    let here = place_of c.args.writing.now in
    let k = container.Struct c.args.bare in
    let p = err_from_is_err_and c.from_residual-in_err-write_field.result c.from_residual-in_err-write_field.ensures.1 in
    let text = rw c.as_str-in-loop-i.ensures.value at c.in_ok-write_name.ensures.text in
    let name = rw c.as_str-in-loop-i.ensures.value at c.in_ok-write_name.ensures.name in
    rw (p.1, p.2)
    (stopped_eq took _ (ap (λ q. enclosed (opening c.args.bare) q (closing c.args.bare)) (fields_row here c.args.bare c.args.fields.now))
    (enclosed_stopped took _ (closing c.args.bare) (one took _ _ _ (rw c.opening.ensures at (c.put.ensures)))
    (ended_stopped took _ (behind_bytes here k _)
    (item_stopped (before_bytes here k) (field_piece (inside k here)) took _ _ _ _ c.loop-i-test.true c.index-fields-i.is c.loop-i.invariant
    c.write_before.ensures
    (behind_stopped took _ (rw c.as_str.ensures.value at c.write_doc_comment.ensures)
    (named_stopped took _ _ text name
    (behind_stopped took _ c.write_colon.ensures (rw c.as_str-in-loop-i-2.ensures.value at c.in_err-write_field.ensures))))))))

pub write_fields-loop-i-preserved : goal.write_fields-loop-i-preserved
write_fields-loop-i-preserved g t c =
    let took = g.O.Output.puts in
    let here = place_of c.args.writing.now in
    let k = container.Struct c.args.bare in
    let text = rw c.as_str-in-loop-i.ensures.value at c.in_ok-write_name.ensures.text in
    let name = rw c.as_str-in-loop-i.ensures.value at c.in_ok-write_name.ensures.name in
    more_stand (before_bytes here k) (field_piece (inside k here)) took _ _ _ _ c.loop-i-test.true c.index-fields-i.is c.loop-i.invariant c.write_before.ensures
    (behind_written took _ (rw c.as_str.ensures.value at c.write_doc_comment.ensures)
    (named_written took _ _ text name (behind_written took _ c.write_colon.ensures (rw c.as_str-in-loop-i-2.ensures.value at c.in_ok-write_field.ensures))))

pub write_fields-returns : goal.write_fields-returns
write_fields-returns g t c =
    let took = g.O.Output.puts in
    let here = place_of c.args.writing.now in
    let k = container.Struct c.args.bare in
    let f = field_piece (inside k here) in
    written_eq took _ (ap (λ q. enclosed (opening c.args.bare) q (closing c.args.bare)) (fields_row here c.args.bare c.args.fields.now))
    (enclosed_written took _ (one took _ _ _ (rw c.opening.ensures at (c.put.ensures)))
    (ended_written took _ (all_stand (before_bytes here k) f took _ c.loop-i.i c.args.fields.now c.loop-i-test.false c.loop-i.invariant) c.write_behind.ensures)
    (one took _ _ _ (rw c.closing.ensures at (c.put-2.ensures))))
