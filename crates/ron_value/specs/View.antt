-- The tree that a value or a map stands for.
use Rattle.std.specs.Prelude.{List, map, Option, None, Some, string_bytes}
use Rattle.std.specs.declared.cmp.Ordering.{Ordering}
use Rattle.std.specs.Ordering.{on}
use Rattle.ron_value_number.specs.Number.{number_width, number_value}
use Rattle.ron_value.specs.declared.value.Value.{Value, fold-Value}
use Rattle.ron_value.specs.declared.value.Value.TheOpen.{Value-F, Map-F}
use Rattle.ron_value.specs.declared.map.Map.{Map}
use Rattle.ron_value.specs.Tree.{Tree, boolean, character, mapping, number, none, some, text, bytes, sequence, unit, Pairs, items_from, pairs_from}
use Rattle.ron_value.specs.Order.{tree_cmp}

-- one level, with each value inside already seen as its tree
abbrev pub tree_step : Value-F Tree Pairs → Tree
tree_step (Value-F.Bool b) = boolean b
tree_step (Value-F.Char c) = character c
tree_step (Value-F.Map m) = mapping m
tree_step (Value-F.Number n) = number (number_width n) (number_value n)
tree_step (Value-F.Option None) = none
tree_step (Value-F.Option (Some b)) = some b.value
tree_step (Value-F.String s) = text (string_bytes s)
tree_step (Value-F.Bytes v) = bytes v.items
tree_step (Value-F.Seq v) = sequence (items_from v.items)
tree_step Value-F.Unit = unit

abbrev pub pairs_step : Map-F Tree Pairs → Pairs
pairs_step m = pairs_from m.pairs.items

-- the tree of a value
abbrev pub tree_of : Value → Tree
tree_of = fold-Value Tree Pairs tree_step pairs_step

-- the trees of a key and its value
abbrev pub pair_tree : Value × Value → Tree × Tree
pair_tree p = (tree_of p.0, tree_of p.1)

-- the pairs of a map, in the order in which it is walked
abbrev pub entries : Map → List (Value × Value)
entries m = m.pairs.items

-- some pairs, as a map of them
abbrev pub entries_tree : List (Value × Value) → Tree
entries_tree es = mapping (pairs_from (map pair_tree es))

-- the tree of a map
abbrev pub map_tree : Map → Tree
map_tree m = entries_tree (entries m)

-- the tree of a value that may be there
abbrev pub option_tree : Option Value → Tree
option_tree None = none
option_tree (Some v) = some (tree_of v)

-- values compare as their trees do
abbrev pub value_cmp : Value → Value → Ordering
value_cmp = on tree_of tree_cmp
