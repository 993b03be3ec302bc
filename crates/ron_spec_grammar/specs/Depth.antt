-- The least depth of the texts of data that spell no range. (A text may be deeper than its data tells.)
use Rattle.std.specs.Prelude.{ℕ, ◌+◌, max}
use Rattle.ron_value.specs.Tree.{Tree}
use Rattle.ron_value.specs.Tree as tree
use Rattle.ron_spec_grammar.specs.Data.{Data, bool_of, int_of, char_of, str_of, bytes_of, the_unit, the_none, some_of, unit_struct_of, list_of, tuple_of}
use Rattle.ron_spec_grammar.specs.Data.{tuple_struct_of, map_of, newtype_of, struct_of, unit_variant_of, newtype_variant_of, tuple_variant_of}
use Rattle.ron_spec_grammar.specs.Data.{struct_variant_of, value_of, raw_of, Datas, no_datas, data_and, Pairs, no_pairs, pair_and, Fields, no_fields, field_and}

-- One level for a Some in a value, and for entering a list or a map in it, and there one for each item, key and value.
abbrev mutual
  pub tree_depth : Tree → ℕ
  tree_depth (tree.some t) = 1 + tree_depth t
  tree_depth (tree.sequence ts) = 1 + tree_items_depth ts
  tree_depth (tree.mapping ps) = 1 + tree_pairs_depth ps
  tree_depth _ = 0

  -- the depth of the deepest item, its own level counted
  pub tree_items_depth : tree.Items → ℕ
  tree_items_depth tree.no_items = 0
  tree_items_depth (tree.item_and t ts) = max (1 + tree_depth t) (tree_items_depth ts)

  -- the depth of the deepest key or value, its own level counted
  pub tree_pairs_depth : tree.Pairs → ℕ
  tree_pairs_depth tree.no_pairs = 0
  tree_pairs_depth (tree.pair_and key t ps) = max (max (1 + tree_depth key) (1 + tree_depth t)) (tree_pairs_depth ps)

-- One level for a Some, for a newtype's content and for entering a list, a tuple, a map or a struct, and in it one for each item, for each key and value, and
-- for each field's name and value. For an enum one, and in it one for a variant's name or content, or for entering its group. (Bytes take none as a byte
-- string, and two as a list. A raw text counts none here, whatever its value needs.)
abbrev mutual
  pub least_depth : Data → ℕ
  least_depth (bool_of b) = 0
  least_depth (int_of w n) = 0
  least_depth (char_of c) = 0
  least_depth (str_of t) = 0
  least_depth (bytes_of bs) = 0
  least_depth the_unit = 0
  least_depth the_none = 0
  least_depth (some_of d) = 1 + least_depth d
  least_depth (unit_struct_of name) = 0
  least_depth (list_of ds) = 1 + items_depth ds
  least_depth (tuple_of ds) = 1 + items_depth ds
  least_depth (tuple_struct_of name ds) = 1 + items_depth ds
  least_depth (map_of ps) = 1 + pairs_depth ps
  least_depth (newtype_of name d) = 1 + least_depth d
  least_depth (struct_of name fields) = 1 + fields_depth fields
  least_depth (unit_variant_of name v) = 2
  least_depth (newtype_variant_of name v d) = 2 + least_depth d
  least_depth (tuple_variant_of name v ds) = 2 + items_depth ds
  least_depth (struct_variant_of name v fields) = 2 + fields_depth fields
  least_depth (value_of t) = tree_depth t
  least_depth (raw_of t) = 0

  -- the depth of the deepest item, its own level counted
  pub items_depth : Datas → ℕ
  items_depth no_datas = 0
  items_depth (data_and d ds) = max (1 + least_depth d) (items_depth ds)

  -- the depth of the deepest key or value, its own level counted
  pub pairs_depth : Pairs → ℕ
  pairs_depth no_pairs = 0
  pairs_depth (pair_and key d ps) = max (max (1 + least_depth key) (1 + least_depth d)) (pairs_depth ps)

  -- the depth of the deepest field, its own level counted
  pub fields_depth : Fields → ℕ
  fields_depth no_fields = 0
  fields_depth (field_and name d fields) = max (1 + least_depth d) (fields_depth fields)
