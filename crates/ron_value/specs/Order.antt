-- The order of trees: by the place of the case among the nine, and then by content.
use Rattle.std.specs.Prelude.{ℤ, pos, [], ◌∷◌, map, Bool, true, false}
use Rattle.std.specs.declared.cmp.Ordering.{Ordering}
use Rattle.std.specs.Ordering.{on, then_cmp}
use Rattle.ron_value_number.specs.Width.{width_place}
use Rattle.ron_value.specs.Node.{Node, node, Nodes, no_nodes, node_and, node_cmp}
use Rattle.ron_value.specs.Tree.{Tree, boolean, character, mapping, number, none, some, text, bytes, sequence, unit, Items, no_items, item_and, Pairs, no_pairs}
use Rattle.ron_value.specs.Tree.{pair_and}

-- false before true
abbrev pub bit : Bool → ℤ
bit false = pos 0
bit true = pos 1

-- the case's place, what the tree holds, and the trees inside it, of a map each key and then its value
abbrev mutual
  pub node_of : Tree → Node
  node_of (boolean b) = node 0 (bit b ∷ []) no_nodes
  node_of (character c) = node 1 (pos c ∷ []) no_nodes
  node_of (mapping ps) = node 2 [] (pair_nodes ps)
  node_of (number w n) = node 3 (pos (width_place w) ∷ n ∷ []) no_nodes
  node_of none = node 4 [] no_nodes
  node_of (some t) = node 4 [] (node_and (node_of t) no_nodes)
  node_of (text bs) = node 5 (map pos bs) no_nodes
  node_of (bytes bs) = node 6 (map pos bs) no_nodes
  node_of (sequence ts) = node 7 [] (item_nodes ts)
  node_of unit = node 8 [] no_nodes

  pub item_nodes : Items → Nodes
  item_nodes no_items = no_nodes
  item_nodes (item_and t ts) = node_and (node_of t) (item_nodes ts)

  pub pair_nodes : Pairs → Nodes
  pair_nodes no_pairs = no_nodes
  pair_nodes (pair_and k v ps) = node_and (node_of k) (node_and (node_of v) (pair_nodes ps))

-- One form of node for the order. `tree_cmp` brings each plain tree to a node, a number with some numbers and some
-- nodes (`Node`). It compares these, so that the laws of the order need one case in place of nine times nine. What it
-- comes to, case by case, is the law `values_are_ordered`. The order of data (`ron_data/specs/Order.antt`) goes by
-- the same nodes.
abbrev pub tree_cmp : Tree → Tree → Ordering
tree_cmp = on node_of node_cmp

-- a pair's key, and then its value
abbrev pub pair_cmp : Tree × Tree → Tree × Tree → Ordering
pair_cmp = then_cmp (on (λ p. p.0) tree_cmp) (on (λ p. p.1) tree_cmp)
