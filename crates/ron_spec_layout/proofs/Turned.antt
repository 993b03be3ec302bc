-- Being the same: either way round, and in turn.
use Rattle.std.proofs.Common.{◌≡◌, Some, ap, ◌∙◌}
use Rattle.ron_spec_words.specs.Characters.{Text}
use Rattle.ron_value.specs.Tree.{Tree}
use Rattle.ron_spec_grammar.specs.Data.{Data, Datas, Pairs, Fields}
use Rattle.ron_spec_grammar.specs.Raw.{raw_value}
use Rattle.ron_spec_layout.specs.Same.{AreSame, itself, raws, in_some, in_list, in_tuple, in_tuple_struct, in_map, in_newtype, in_struct, in_newtype_variant}
use Rattle.ron_spec_layout.specs.Same.{in_tuple_variant, in_struct_variant, AreSameItems, no_items, item, AreSamePairs, no_entries, entry, AreSameFields}
use Rattle.ron_spec_layout.specs.Same.{no_members, member}

mutual
  pub turned : {d e : Data} → AreSame d e → AreSame e d
  turned (itself d) = itself d
  turned (raws s t h) = raws t s (record { value = h.value; first = h.second; second = h.first })
  turned (in_some d e h) = in_some e d (turned h)
  turned (in_list ds es h) = in_list es ds (items_turned h)
  turned (in_tuple ds es h) = in_tuple es ds (items_turned h)
  turned (in_tuple_struct n ds es h) = in_tuple_struct n es ds (items_turned h)
  turned (in_map ps qs h) = in_map qs ps (pairs_turned h)
  turned (in_newtype n d e h) = in_newtype n e d (turned h)
  turned (in_struct n ds es h) = in_struct n es ds (fields_turned h)
  turned (in_newtype_variant n v d e h) = in_newtype_variant n v e d (turned h)
  turned (in_tuple_variant n v ds es h) = in_tuple_variant n v es ds (items_turned h)
  turned (in_struct_variant n v ds es h) = in_struct_variant n v es ds (fields_turned h)

  items_turned : {ds es : Datas} → AreSameItems ds es → AreSameItems es ds
  items_turned no_items = no_items
  items_turned (item d e ds es h k) = item e d es ds (turned h) (items_turned k)

  pairs_turned : {ps qs : Pairs} → AreSamePairs ps qs → AreSamePairs qs ps
  pairs_turned no_entries = no_entries
  pairs_turned (entry k d e ps qs h r) = entry k e d qs ps (turned h) (pairs_turned r)

  fields_turned : {ds es : Fields} → AreSameFields ds es → AreSameFields es ds
  fields_turned no_members = no_members
  fields_turned (member n d e ds es h k) = member n e d es ds (turned h) (fields_turned k)

one_value : {v w : Tree} (t : Text) → raw_value t ≡ Some v → raw_value t ≡ Some w → v ≡ w
one_value t h k = cc

mutual
  pub in_turn : {d e f : Data} → AreSame d e → AreSame e f → AreSame d f
  in_turn (itself d) k = k
  in_turn (raws s t h) (itself d) = raws s t h
  in_turn (raws s t h) (raws u v k) = raws s v
      (record { value = h.value; first = h.first; second = let same : k.value ≡ h.value = one_value t k.first h.second in k.second ∙ ap (λ z. Some z) same })
  in_turn (in_some d e h) (itself x) = in_some d e h
  in_turn (in_some d e h) (in_some x y k) = in_some d y (in_turn h k)
  in_turn (in_list d e h) (itself x) = in_list d e h
  in_turn (in_list d e h) (in_list x y k) = in_list d y (items_in_turn h k)
  in_turn (in_tuple d e h) (itself x) = in_tuple d e h
  in_turn (in_tuple d e h) (in_tuple x y k) = in_tuple d y (items_in_turn h k)
  in_turn (in_tuple_struct n d e h) (itself x) = in_tuple_struct n d e h
  in_turn (in_tuple_struct n d e h) (in_tuple_struct m x y k) = in_tuple_struct n d y (items_in_turn h k)
  in_turn (in_map d e h) (itself x) = in_map d e h
  in_turn (in_map d e h) (in_map x y k) = in_map d y (pairs_in_turn h k)
  in_turn (in_newtype n d e h) (itself x) = in_newtype n d e h
  in_turn (in_newtype n d e h) (in_newtype m x y k) = in_newtype n d y (in_turn h k)
  in_turn (in_struct n d e h) (itself x) = in_struct n d e h
  in_turn (in_struct n d e h) (in_struct m x y k) = in_struct n d y (fields_in_turn h k)
  in_turn (in_newtype_variant n v d e h) (itself x) = in_newtype_variant n v d e h
  in_turn (in_newtype_variant n v d e h) (in_newtype_variant m w x y k) = in_newtype_variant n v d y (in_turn h k)
  in_turn (in_tuple_variant n v d e h) (itself x) = in_tuple_variant n v d e h
  in_turn (in_tuple_variant n v d e h) (in_tuple_variant m w x y k) = in_tuple_variant n v d y (items_in_turn h k)
  in_turn (in_struct_variant n v d e h) (itself x) = in_struct_variant n v d e h
  in_turn (in_struct_variant n v d e h) (in_struct_variant m w x y k) = in_struct_variant n v d y (fields_in_turn h k)

  items_in_turn : {d e f : Datas} → AreSameItems d e → AreSameItems e f → AreSameItems d f
  items_in_turn no_items k = k
  items_in_turn (item d e ds es h hs) (item x y xs ys k ks) = item d y ds ys (in_turn h k) (items_in_turn hs ks)

  pairs_in_turn : {d e f : Pairs} → AreSamePairs d e → AreSamePairs e f → AreSamePairs d f
  pairs_in_turn no_entries k = k
  pairs_in_turn (entry q d e ps qs h hs) (entry r x y xs ys k ks) = entry q d y ps ys (in_turn h k) (pairs_in_turn hs ks)

  fields_in_turn : {d e f : Fields} → AreSameFields d e → AreSameFields e f → AreSameFields d f
  fields_in_turn no_members k = k
  fields_in_turn (member n d e ds es h hs) (member m x y xs ys k ks) = member n d y ds ys (in_turn h k) (fields_in_turn hs ks)
