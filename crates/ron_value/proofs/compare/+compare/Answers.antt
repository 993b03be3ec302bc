use Rattle.std.proofs.Common.{rules, ◌≡◌, map, refl, sym, ◌∙◌}
use Rattle.std.specs.Prelude.{string_bytes}
use Rattle.ron_value.specs.Tree.{sequence, text, bytes, items_from}
use Rattle.ron_value.specs.Order.{tree_cmp, pair_cmp}
use Rattle.ron_value.specs.OrderLaws.{mappings_cmp, sequences_cmp, texts_cmp, bytes_cmp}
use Rattle.ron_value.specs.View.{tree_of, pair_tree, map_tree}
use Rattle.ron_value.proofs.ValueTrees.{tree_of-Map, tree_of-String, tree_of-Bytes, tree_of-Seq}
use Rattle.ron_value.proofs.ListOrders.{slice_cmp-first_ended, slice_cmp-second_ended}
use Rattle.ron_value.proofs.compare.+compare.Goals as goal
use Rattle.ron_value.proofs.compare.+compare.Goals.{compare_items-then-loop-i-test+else-i-others, compare_items-else-loop-i-test}
use Rattle.ron_value.proofs.compare.+compare.Goals.{compare_pairs-then-loop-i-test+else-i-others, compare_pairs-else-loop-i-test}

pub compare_maps-returns : goal.compare_maps-returns
compare_maps-returns t c = rw (mappings_cmp, c.compare_pairs.ensures, c.deref.ensures.value, c.deref-2.ensures.value) refl

pub compare-returns-in-Map-Map : goal.compare-returns-in-Map-Map
compare-returns-in-Map-Map t c =
    let a : tree_of c.args.a.now ≡ map_tree c.in-Map-Map.x = rw c.in-Map-Map.is-0 (tree_of-Map c.in-Map-Map.x) in
    let b : tree_of c.args.b.now ≡ map_tree c.in-Map-Map.y = rw c.in-Map-Map.is-1 (tree_of-Map c.in-Map-Map.y) in
    rw (a, b, c.compare_maps.ensures) refl

pub compare-returns-in-String-String : goal.compare-returns-in-String-String
compare-returns-in-String-String t c =
    let a : tree_of c.args.a.now ≡ text (string_bytes c.in-String-String.x) = rw c.in-String-String.is-0 (tree_of-String c.in-String-String.x) in
    let b : tree_of c.args.b.now ≡ text (string_bytes c.in-String-String.y) = rw c.in-String-String.is-1 (tree_of-String c.in-String-String.y) in
    rw (a, b, texts_cmp, c.cmp-in-String-String.ensures, c.as_str.ensures.value, c.as_str-in-String-String.ensures.value) refl

pub compare-returns-in-Bytes-Bytes : goal.compare-returns-in-Bytes-Bytes
compare-returns-in-Bytes-Bytes t c =
    let a : tree_of c.args.a.now ≡ bytes c.in-Bytes-Bytes.x.items = rw c.in-Bytes-Bytes.is-0 (tree_of-Bytes c.in-Bytes-Bytes.x) in
    let b : tree_of c.args.b.now ≡ bytes c.in-Bytes-Bytes.y.items = rw c.in-Bytes-Bytes.is-1 (tree_of-Bytes c.in-Bytes-Bytes.y) in
    rw (a, b, bytes_cmp, c.cmp-in-Bytes-Bytes.ensures, c.as_slice.ensures.value, c.as_slice-in-Bytes-Bytes.ensures.value) refl

pub compare-returns-in-Seq-Seq : goal.compare-returns-in-Seq-Seq
compare-returns-in-Seq-Seq t c =
    let a : tree_of c.args.a.now ≡ sequence (items_from (map tree_of c.in-Seq-Seq.x.items)) = rw c.in-Seq-Seq.is-0 (tree_of-Seq c.in-Seq-Seq.x) in
    let b : tree_of c.args.b.now ≡ sequence (items_from (map tree_of c.in-Seq-Seq.y.items)) = rw c.in-Seq-Seq.is-1 (tree_of-Seq c.in-Seq-Seq.y) in
    rw (a, b, sequences_cmp, c.compare_items.ensures, c.deref-in-Seq-Seq.ensures.value, c.deref-in-Seq-Seq-2.ensures.value) refl

pub compare_items-returns : goal.compare_items-returns
compare_items-returns t c =
    let i = c.loop-i.invariant in
    elim c.loop-i-test.branch [
      | compare_items-then-loop-i-test+else-i-others w ↦ c.cmp.ensures
          ∙ sym (slice_cmp-second_ended tree_of tree_cmp _ _ c.loop-i.i i.in_items i.in_others (search rules)) ∙ i.rest
      | compare_items-else-loop-i-test w ↦ c.cmp.ensures ∙ sym (slice_cmp-first_ended tree_of tree_cmp _ _ c.loop-i.i i.in_items i.in_others (search rules))
          ∙ i.rest
    ]

pub compare_pairs-returns : goal.compare_pairs-returns
compare_pairs-returns t c =
    let i = c.loop-i.invariant in
    elim c.loop-i-test.branch [
      | compare_pairs-then-loop-i-test+else-i-others w ↦ c.cmp.ensures
          ∙ sym (slice_cmp-second_ended pair_tree pair_cmp _ _ c.loop-i.i i.in_pairs i.in_others (search rules)) ∙ i.rest
      | compare_pairs-else-loop-i-test w ↦ c.cmp.ensures ∙ sym (slice_cmp-first_ended pair_tree pair_cmp _ _ c.loop-i.i i.in_pairs i.in_others (search rules))
          ∙ i.rest
    ]
