-- Trees in which each map has its keys in order, each key once, at every level.
use Rattle.std.specs.Prelude.{List, [], ◌∷◌, ⊤}
use Rattle.std.specs.List.Sorted.{IsStrictlySortedBy}
use Rattle.ron_value.specs.Tree.{Tree, boolean, character, mapping, number, none, some, text, bytes, sequence, unit, Items, no_items, item_and, Pairs, no_pairs}
use Rattle.ron_value.specs.Tree.{pair_and}
use Rattle.ron_value.specs.Order.{tree_cmp}

abbrev pub keys_in : Pairs → List Tree
keys_in no_pairs = []
keys_in (pair_and k v ps) = k ∷ keys_in ps

abbrev mutual
  pub IsOrdered : Tree → Type 0
  IsOrdered (boolean b) = ⊤
  IsOrdered (character c) = ⊤
  IsOrdered (mapping ps) = IsStrictlySortedBy tree_cmp (keys_in ps) × ArePairsOrdered ps
  IsOrdered (number w n) = ⊤
  IsOrdered none = ⊤
  IsOrdered (some t) = IsOrdered t
  IsOrdered (text bs) = ⊤
  IsOrdered (bytes bs) = ⊤
  IsOrdered (sequence ts) = AreItemsOrdered ts
  IsOrdered unit = ⊤

  pub AreItemsOrdered : Items → Type 0
  AreItemsOrdered no_items = ⊤
  AreItemsOrdered (item_and t ts) = IsOrdered t × AreItemsOrdered ts

  -- what stands in the pairs, whatever the order of the keys
  pub ArePairsOrdered : Pairs → Type 0
  ArePairsOrdered no_pairs = ⊤
  ArePairsOrdered (pair_and k v ps) = IsOrdered k × IsOrdered v × ArePairsOrdered ps
