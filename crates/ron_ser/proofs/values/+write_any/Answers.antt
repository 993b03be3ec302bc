use Rattle.std.proofs.Common.{codes, rules, refl, sym, ap, ◌∙◌}
use Rattle.std.proofs.lemmas.Result.{err_from_is_err_and}
use Rattle.std.proofs.lemmas.Str.{is_utf8-from_IsUtf8}
use Rattle.ron_value.specs.declared.value.Value.TheVariants as value_
use Rattle.ron_ser.specs.declared.container.Container.TheVariants as container
use Rattle.ron_ser.specs.Place.{inside}
use Rattle.ron_ser.specs.Piece.{enclosed}
use Rattle.ron_ser.proofs.Pieces.{one}
use Rattle.ron_ser.proofs.PieceLemmas.{written_eq, stopped_eq, tries_eq, leaf_written, plain_written, enclosed_written, enclosed_stopped, deeper_tries}
use Rattle.ron_ser.proofs.PieceLemmas.{level_stopped, keyed_written, key_stopped, keyed_stopped, tries_same, ended_written, ended_stopped}
use Rattle.ron_ser.proofs.PlaceLemmas.{before_bytes, behind_bytes}
use Rattle.ron_ser.proofs.ItemLemmas.{none_stand, all_stand, more_stand, item_stopped}
use Rattle.ron_ser.proofs.KeepLemmas.{known_for, value_some_kept}
use Rattle.ron_ser.proofs.TreeLemmas.{tree-boolean, tree-character, tree-mapping, tree-number, tree-none, tree-some, tree-text, tree-bytes, tree-sequence}
use Rattle.ron_ser.proofs.TreeLemmas.{tree-unit}
use Rattle.ron_ser.proofs.ValuePieces.{tree_seen, value_boolean_piece, value_number_piece, value_character_piece, value_text_piece, value_bytes_piece}
use Rattle.ron_ser.proofs.ValuePieces.{value_unit_piece, value_none_piece, value_sequence_piece, value_mapping_piece, value_some_piece, value_kept_piece}
use Rattle.ron_ser.proofs.ValuePieces.{value_dropped_piece}
use Rattle.ron_ser.proofs.ValueRows.{held_piece, values_row, entry_piece, entries_row}
use Rattle.ron_ser.specs.Stand.{place_of}
use Rattle.ron_ser.proofs.values.+write_any.Goals as goal

-- ---- what holds no others

pub write_any-returns-in-Bool : goal.write_any-returns-in-Bool
write_any-returns-in-Bool g t c known =
    written_eq g.O.Output.puts c.args.writing.now.limit (tree_seen _ _ c.in-Bool.is (tree-boolean _) (value_boolean_piece _ _ _))
    (plain_written g.O.Output.puts _ c.write_boolean.ensures)

pub write_any-returns-in-Char : goal.write_any-returns-in-Char
write_any-returns-in-Char g t c known =
    written_eq g.O.Output.puts c.args.writing.now.limit (tree_seen _ _ c.in-Char.is (tree-character _) (value_character_piece _ _ _))
    (leaf_written g.O.Output.puts _ c.write_character.ensures (search rules))

pub write_any-returns-in-Number : goal.write_any-returns-in-Number
write_any-returns-in-Number g t c known =
    written_eq g.O.Output.puts c.args.writing.now.limit (tree_seen _ _ c.in-Number.is (tree-number _) (value_number_piece _ _ _ _))
    (plain_written g.O.Output.puts _ (rw c.suffixes_numbers.ensures at c.write_number.ensures))

pub write_any-returns-in-None : goal.write_any-returns-in-None
write_any-returns-in-None g t c known =
    written_eq g.O.Output.puts c.args.writing.now.limit (tree_seen _ _ (c.in-Option.is ∙ ap value_.Option c.in-None.is) tree-none (value_none_piece _ _))
    (plain_written g.O.Output.puts _ (one g.O.Output.puts _ _ _ (c.put.ensures)))

pub write_any-returns-in-String : goal.write_any-returns-in-String
write_any-returns-in-String g t c known =
    written_eq g.O.Output.puts c.args.writing.now.limit (tree_seen _ _ c.in-String.is (tree-text _) (value_text_piece _ _ _))
    (rw (← c.as_str.ensures.value)
    (leaf_written g.O.Output.puts _ (rw c.escapes_strings.ensures at c.write_string.ensures) (is_utf8-from_IsUtf8 _ c.as_str.utf8)))

pub write_any-returns-in-Bytes : goal.write_any-returns-in-Bytes
write_any-returns-in-Bytes g t c known =
    let wrote = c.write_byte_string.ensures in
    written_eq g.O.Output.puts c.args.writing.now.limit (tree_seen _ _ c.in-Bytes.is (tree-bytes _) (value_bytes_piece _ _ _))
    (rw (← c.as_slice-in-Bytes.ensures.value) (leaf_written g.O.Output.puts _ (rw c.escapes_strings-in-Bytes.ensures at wrote.text) wrote.below))

pub write_any-returns-in-Unit : goal.write_any-returns-in-Unit
write_any-returns-in-Unit g t c known =
    written_eq g.O.Output.puts c.args.writing.now.limit (tree_seen _ _ c.in-Unit.is tree-unit (value_unit_piece _ _))
    (plain_written g.O.Output.puts _ c.write_unit.ensures)

-- ---- lists and maps

pub write_any-returns-in-Seq : goal.write_any-returns-in-Seq
write_any-returns-in-Seq g t c known =
    tries_eq g.O.Output.puts _ _ _ c.write_items.result (tree_seen _ _ c.in-Seq.is (tree-sequence _) (value_sequence_piece _ _ _))
    (rw c.as_slice-in-Seq.ensures.value at c.write_items.ensures)

pub write_any-returns-in-Map : goal.write_any-returns-in-Map
write_any-returns-in-Map g t c known =
    tries_eq g.O.Output.puts _ _ _ c.write_entries.result (tree_seen _ _ c.in-Map.is (tree-mapping _) (value_mapping_piece _ _ _))
    (rw c.as_slice.ensures at c.write_entries.ensures)

-- ---- Somes

pub write_any-returns-in-Some : goal.write_any-returns-in-Some
write_any-returns-in-Some g t c known =
    let inside = known_for c.args.manner.somes (value_some_kept c.in-Option.is c.in-Some.is) known in
    tries_eq g.O.Output.puts _ _ _ c.write_some.result (tree_seen _ _ (c.in-Option.is ∙ ap value_.Option c.in-Some.is) (tree-some _) refl)
    ((rw c.deref.ensures at c.write_some.ensures) inside)

pub write_some-returns-then-not-leaves_somes_out : goal.write_some-returns-then-not-leaves_somes_out
write_some-returns-then-not-leaves_somes_out g t c known =
    let explicit = sym c.leaves_somes_out.ensures ∙ c.if-not-leaves_somes_out.true in
    tries_eq g.O.Output.puts _ _ _ c.write_content.result (value_some_piece _ _ explicit _)
    ((rw c.unwraps_variants-unwraps.ensures at c.write_content.ensures) tt)

pub write_some-returns-then-value_is_kept : goal.write_some-returns-then-value_is_kept
write_some-returns-then-value_is_kept g t c known =
    let implicit = sym c.leaves_somes_out.ensures ∙ c.if-not-leaves_somes_out.false in
    let kept = sym (c.value_is_kept.ensures known) ∙ c.if-value_is_kept.true in
    tries_eq g.O.Output.puts _ _ _ c.write_content-then-value_is_kept.result (value_kept_piece _ _ implicit _ kept)
    (c.write_content-then-value_is_kept.ensures kept)

pub write_some-returns-else-value_is_kept : goal.write_some-returns-else-value_is_kept
write_some-returns-else-value_is_kept g t c known =
    let implicit = sym c.leaves_somes_out.ensures ∙ c.if-not-leaves_somes_out.false in
    let dropped = sym (c.value_is_kept.ensures known) ∙ c.if-value_is_kept.false in
    tries_eq g.O.Output.puts _ _ _ c.write_inner.result (value_dropped_piece _ _ implicit _ dropped) (c.write_inner.ensures dropped)

-- ---- a value in another

pub write_content-returns-in_err-write_inner : goal.write_content-returns-in_err-write_inner
write_content-returns-in_err-write_inner g t c known =
    let took = g.O.Output.puts in
    let p = err_from_is_err_and c.from_residual.result c.from_residual.ensures.1 in
    rw (p.1, p.2) (enclosed_stopped took _ (codes ")") (one took _ _ _ (c.put.ensures)) (c.in_err-write_inner.ensures known))

pub write_content-returns : goal.write_content-returns
write_content-returns g t c known =
    let took = g.O.Output.puts in
    enclosed_written took _ (one took _ _ _ (c.put.ensures)) (c.in_ok-write_inner.ensures known) (one took _ _ _ (c.put-2.ensures))

pub write_inner-returns-in_default : goal.write_inner-returns-in_default
write_inner-returns-in_default g t c known = level_stopped g.O.Output.puts _ _ _ c.in_default.ensures.level

pub write_inner-returns : goal.write_inner-returns
write_inner-returns g t c known =
    let took = g.O.Output.puts in
    let inner = c.in-Some.ensures in
    deeper_tries took _ _ _ _ c.write_any.result inner.level (tries_same took _ inner.place _ _ _ _ c.write_any.result (c.write_any.ensures known))

-- ---- an item

pub write_item-returns-in_default : goal.write_item-returns-in_default
write_item-returns-in_default g t c = level_stopped g.O.Output.puts _ _ _ c.in_default.ensures.level

pub write_item-returns : goal.write_item-returns
write_item-returns g t c =
    let took = g.O.Output.puts in
    let inner = c.in-Some.ensures in
    deeper_tries took _ _ _ _ c.write_any.result inner.level (tries_same took _ inner.place _ _ _ _ c.write_any.result (c.write_any.ensures tt))

-- ---- the items of a list

pub write_items-loop-i-init : goal.write_items-loop-i-init
write_items-loop-i-init g t c = none_stand (before_bytes (place_of c.args.writing.now) container.List)
    (held_piece (inside container.List (place_of c.args.writing.now))) g.O.Output.puts c.args.writing.now.limit c.args.items.now _

pub write_items-returns-in_err-write_item : goal.write_items-returns-in_err-write_item
write_items-returns-in_err-write_item g t c =
    let took = g.O.Output.puts in
    let here = place_of c.args.writing.now in
    let p = err_from_is_err_and c.from_residual.result c.from_residual.ensures.1 in
    rw (p.1, p.2)
    (stopped_eq took _ (ap (λ q. enclosed (codes "[") q (codes "]")) (values_row here c.args.items.now))
    (enclosed_stopped took _ (codes "]") (one took _ _ _ (c.put.ensures))
    (ended_stopped took _ (behind_bytes here container.List _)
    (item_stopped (before_bytes here container.List) (held_piece (inside container.List here)) took _ _ _ _ c.loop-i-test.true c.index-items-i.is
    c.loop-i.invariant c.write_before.ensures
    c.in_err-write_item.ensures))))

pub write_items-loop-i-preserved : goal.write_items-loop-i-preserved
write_items-loop-i-preserved g t c =
    let took = g.O.Output.puts in
    let here = place_of c.args.writing.now in
    more_stand (before_bytes here container.List) (held_piece (inside container.List here)) took _ _ _ _ c.loop-i-test.true c.index-items-i.is
    c.loop-i.invariant c.write_before.ensures
    c.in_ok-write_item.ensures

pub write_items-returns : goal.write_items-returns
write_items-returns g t c =
    let took = g.O.Output.puts in
    let here = place_of c.args.writing.now in
    let f = held_piece (inside container.List here) in
    written_eq took _ (ap (λ q. enclosed (codes "[") q (codes "]")) (values_row here c.args.items.now))
    (enclosed_written took _ (one took _ _ _ (c.put.ensures))
    (ended_written took _ (all_stand (before_bytes here container.List) f took _ c.loop-i.i c.args.items.now c.loop-i-test.false c.loop-i.invariant)
    c.write_behind.ensures)
    (one took _ _ _ (c.put-2.ensures)))

-- ---- the entries of a map

pub write_entries-loop-i-init : goal.write_entries-loop-i-init
write_entries-loop-i-init g t c = none_stand (before_bytes (place_of c.args.writing.now) container.Map)
    (entry_piece (inside container.Map (place_of c.args.writing.now))) g.O.Output.puts c.args.writing.now.limit c.args.pairs.now _

pub write_entries-returns-in_err-write_item : goal.write_entries-returns-in_err-write_item
write_entries-returns-in_err-write_item g t c =
    let took = g.O.Output.puts in
    let here = place_of c.args.writing.now in
    let p = err_from_is_err_and c.from_residual.result c.from_residual.ensures.1 in
    rw (p.1, p.2)
    (stopped_eq took _ (ap (λ q. enclosed (codes "{") q (codes "}")) (entries_row here c.args.pairs.now))
    (enclosed_stopped took _ (codes "}") (one took _ _ _ (c.put.ensures))
    (ended_stopped took _ (behind_bytes here container.Map _)
    (item_stopped (before_bytes here container.Map) (entry_piece (inside container.Map here)) took _ _ _ _ c.loop-i-test.true c.index-pairs-i.is
    c.loop-i.invariant c.write_before.ensures
    (key_stopped took _ _ _ c.in_err-write_item.ensures)))))

pub write_entries-returns-in_err-write_item-2 : goal.write_entries-returns-in_err-write_item-2
write_entries-returns-in_err-write_item-2 g t c =
    let took = g.O.Output.puts in
    let here = place_of c.args.writing.now in
    let p = err_from_is_err_and c.from_residual-in_err-write_item-2.result c.from_residual-in_err-write_item-2.ensures.1 in
    rw (p.1, p.2)
    (stopped_eq took _ (ap (λ q. enclosed (codes "{") q (codes "}")) (entries_row here c.args.pairs.now))
    (enclosed_stopped took _ (codes "}") (one took _ _ _ (c.put.ensures))
    (ended_stopped took _ (behind_bytes here container.Map _)
    (item_stopped (before_bytes here container.Map) (entry_piece (inside container.Map here)) took _ _ _ _ c.loop-i-test.true c.index-pairs-i.is
    c.loop-i.invariant c.write_before.ensures
    (keyed_stopped took _ c.in_ok-write_item.ensures c.write_colon.ensures c.in_err-write_item-2.ensures)))))

pub write_entries-loop-i-preserved : goal.write_entries-loop-i-preserved
write_entries-loop-i-preserved g t c =
    let took = g.O.Output.puts in
    let here = place_of c.args.writing.now in
    more_stand (before_bytes here container.Map) (entry_piece (inside container.Map here)) took _ _ _ _ c.loop-i-test.true c.index-pairs-i.is c.loop-i.invariant
    c.write_before.ensures
    (keyed_written took _ c.in_ok-write_item.ensures c.write_colon.ensures c.in_ok-write_item-2.ensures)

pub write_entries-returns : goal.write_entries-returns
write_entries-returns g t c =
    let took = g.O.Output.puts in
    let here = place_of c.args.writing.now in
    let f = entry_piece (inside container.Map here) in
    written_eq took _ (ap (λ q. enclosed (codes "{") q (codes "}")) (entries_row here c.args.pairs.now))
    (enclosed_written took _ (one took _ _ _ (c.put.ensures))
    (ended_written took _ (all_stand (before_bytes here container.Map) f took _ c.loop-i.i c.args.pairs.now c.loop-i-test.false c.loop-i.invariant)
    c.write_behind.ensures)
    (one took _ _ _ (c.put-2.ensures)))
