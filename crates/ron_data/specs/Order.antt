-- The order of data: by the place of the case, and then by what it holds, over a tree of one form.
use Rattle.std.specs.Prelude.{ℕ, pos, [], ◌∷◌, map}
use Rattle.std.specs.declared.cmp.Ordering.{Ordering}
use Rattle.std.specs.Ordering.{on, then_cmp, nat_cmp}
use Rattle.std.specs.Cmp.Lexicographic.{slice_cmp}
use Rattle.ron_spec_words.specs.Characters.{Text}
use Rattle.ron_value_number.specs.Width.{width_place}
use Rattle.ron_value.specs.Node.{Node, node, Nodes, no_nodes, node_and, node_cmp}
use Rattle.ron_value.specs.Order.{bit}
use Rattle.ron_value.specs.Order as tree_order
use Rattle.ron_spec_grammar.specs.Data.{Data, bool_of, int_of, char_of, str_of, bytes_of, the_unit, the_none, some_of, unit_struct_of, list_of, tuple_of}
use Rattle.ron_spec_grammar.specs.Data.{tuple_struct_of, map_of, newtype_of, struct_of, unit_variant_of, newtype_variant_of, tuple_variant_of}
use Rattle.ron_spec_grammar.specs.Data.{struct_variant_of, value_of, raw_of, Datas, no_datas, data_and, Pairs, no_pairs, pair_and, Fields, no_fields, field_and}
use Rattle.ron_data.specs.Datum.{Content, no_content, one_of, items_of, named_of}

-- a name
abbrev pub name_node : Text → Node
name_node s = node 3 (map pos s) no_nodes

-- a variant: the enum's name, its own, and what it holds
abbrev pub variant_node : Text → Text → Node → Node
variant_node s v content = node 15 (map pos s) (node_and (name_node v) (node_and content no_nodes))

-- the case's place, the numbers and the name that the data holds, and the data inside it
abbrev mutual
  pub node_of : Data → Node
  node_of (bool_of b) = node 0 (bit b ∷ []) no_nodes
  node_of (int_of w n) = node 1 (pos (width_place w) ∷ n ∷ []) no_nodes
  node_of (char_of c) = node 2 (pos c ∷ []) no_nodes
  node_of (str_of s) = name_node s
  node_of (bytes_of bs) = node 4 (map pos bs) no_nodes
  node_of the_unit = node 5 [] no_nodes
  node_of the_none = node 6 [] no_nodes
  node_of (some_of d) = node 7 [] (node_and (node_of d) no_nodes)
  node_of (list_of ds) = node 8 [] (item_nodes ds)
  node_of (tuple_of ds) = node 9 [] (item_nodes ds)
  node_of (map_of ps) = node 10 [] (pair_nodes ps)
  node_of (unit_struct_of s) = node 11 (map pos s) no_nodes
  node_of (newtype_of s d) = node 12 (map pos s) (node_and (node_of d) no_nodes)
  node_of (tuple_struct_of s ds) = node 13 (map pos s) (item_nodes ds)
  node_of (struct_of s fs) = node 14 (map pos s) (field_nodes fs)
  node_of (unit_variant_of s v) = variant_node s v (node 5 [] no_nodes)
  node_of (newtype_variant_of s v d) = variant_node s v (node 7 [] (node_and (node_of d) no_nodes))
  node_of (tuple_variant_of s v ds) = variant_node s v (node 8 [] (item_nodes ds))
  node_of (struct_variant_of s v fs) = variant_node s v (node 14 [] (field_nodes fs))
  node_of (value_of t) = node 16 [] (node_and (tree_order.node_of t) no_nodes)
  node_of (raw_of s) = node 17 (map pos s) no_nodes

  pub item_nodes : Datas → Nodes
  item_nodes no_datas = no_nodes
  item_nodes (data_and d ds) = node_and (node_of d) (item_nodes ds)

  pub pair_nodes : Pairs → Nodes
  pair_nodes no_pairs = no_nodes
  pair_nodes (pair_and k d ps) = node_and (node_of k) (node_and (node_of d) (pair_nodes ps))

  pub field_nodes : Fields → Nodes
  field_nodes no_fields = no_nodes
  field_nodes (field_and s d fs) = node_and (name_node s) (node_and (node_of d) (field_nodes fs))

abbrev pub data_cmp : Data → Data → Ordering
data_cmp = on node_of node_cmp

abbrev first_number : Node → ℕ
first_number (node place ks ns) = place

-- the place of the case
abbrev pub data_place : Data → ℕ
data_place d = first_number (node_of d)

-- what a variant holds, as data of its own
abbrev pub content_data : Content → Data
content_data no_content = the_unit
content_data (one_of d) = some_of d
content_data (items_of ds) = list_of ds
content_data (named_of fs) = struct_of [] fs

-- what variants hold, as data
abbrev pub content_cmp : Content → Content → Ordering
content_cmp = on content_data data_cmp

-- by characters
abbrev pub text_cmp : Text → Text → Ordering
text_cmp = slice_cmp nat_cmp

-- a pair's key, and then its value
abbrev pub pair_cmp : Data × Data → Data × Data → Ordering
pair_cmp = then_cmp (on (λ p. p.0) data_cmp) (on (λ p. p.1) data_cmp)

-- a field's name, and then its value
abbrev pub field_cmp : Text × Data → Text × Data → Ordering
field_cmp = then_cmp (on (λ f. f.0) text_cmp) (on (λ f. f.1) data_cmp)
