-- How deep a writer goes into data under a configuration.
--
-- Depths. The law holds at some depth; how deep the text is is the text's own matter (`document_depth`). A writer
-- counts fewer levels than a reader, so a text that was written within a limit may be refused in reading within the
-- same one.
use Rattle.std.specs.Prelude.{ℕ, ◌+◌, max, is_some, if◌then◌else◌}
use Rattle.ron_value.specs.Tree.{Tree}
use Rattle.ron_value.specs.Tree as tree
use Rattle.ron_spec_grammar.specs.Data.{Data, bool_of, int_of, char_of, str_of, bytes_of, the_unit, the_none, some_of, unit_struct_of, list_of, tuple_of}
use Rattle.ron_spec_grammar.specs.Data.{tuple_struct_of, map_of, newtype_of, struct_of, unit_variant_of, newtype_variant_of, tuple_variant_of}
use Rattle.ron_spec_grammar.specs.Data.{struct_variant_of, value_of, Datas, no_datas, data_and, Pairs, no_pairs, pair_and, Fields, no_fields, field_and, raw_of}
use Rattle.ron_spec_layout.specs.Config.{Config}
use Rattle.ron_spec_layout.specs.Ranges.{compact_range}

-- One level for the content of a Some in a value, for each item, and for each key and value.
abbrev mutual
  pub value_writer_depth : Tree → ℕ
  value_writer_depth (tree.some t) = 1 + value_writer_depth t
  value_writer_depth (tree.sequence ts) = values_writer_depth ts
  value_writer_depth (tree.mapping ps) = entries_writer_depth ps
  value_writer_depth _ = 0

  -- the depth of the deepest item, its own level counted
  pub values_writer_depth : tree.Items → ℕ
  values_writer_depth tree.no_items = 0
  values_writer_depth (tree.item_and t ts) = max (1 + value_writer_depth t) (values_writer_depth ts)

  -- the depth of the deepest key or value, its own level counted
  pub entries_writer_depth : tree.Pairs → ℕ
  entries_writer_depth tree.no_pairs = 0
  entries_writer_depth (tree.pair_and key t ps) = max (max (1 + value_writer_depth key) (1 + value_writer_depth t)) (entries_writer_depth ps)

-- One level for the content of a Some, a newtype and a newtype variant, for each item, for each key and value of a map, and for each field's value. A compact
-- range takes no level.
abbrev mutual
  pub writer_depth : Config → Data → ℕ
  writer_depth c (bool_of b) = 0
  writer_depth c (int_of w n) = 0
  writer_depth c (char_of a) = 0
  writer_depth c (str_of t) = 0
  writer_depth c (bytes_of bs) = 0
  writer_depth c the_unit = 0
  writer_depth c the_none = 0
  writer_depth c (some_of d) = 1 + writer_depth c d
  writer_depth c (unit_struct_of name) = 0
  writer_depth c (list_of ds) = items_writer_depth c ds
  writer_depth c (tuple_of ds) = items_writer_depth c ds
  writer_depth c (tuple_struct_of name ds) = items_writer_depth c ds
  writer_depth c (map_of ps) = pairs_writer_depth c ps
  writer_depth c (newtype_of name d) = 1 + writer_depth c d
  writer_depth c (struct_of name fields) = if is_some (compact_range c (struct_of name fields)) then 0 else fields_writer_depth c fields
  writer_depth c (unit_variant_of name v) = 0
  writer_depth c (newtype_variant_of name v d) = 1 + writer_depth c d
  writer_depth c (tuple_variant_of name v ds) = items_writer_depth c ds
  writer_depth c (struct_variant_of name v fields) = fields_writer_depth c fields
  writer_depth c (value_of t) = value_writer_depth t
  writer_depth c (raw_of t) = 1

  -- the depth of the deepest item, its own level counted
  pub items_writer_depth : Config → Datas → ℕ
  items_writer_depth c no_datas = 0
  items_writer_depth c (data_and d ds) = max (1 + writer_depth c d) (items_writer_depth c ds)

  -- the depth of the deepest key or value, its own level counted
  pub pairs_writer_depth : Config → Pairs → ℕ
  pairs_writer_depth c no_pairs = 0
  pairs_writer_depth c (pair_and key d ps) = max (max (1 + writer_depth c key) (1 + writer_depth c d)) (pairs_writer_depth c ps)

  -- the depth of the deepest field, its own level counted
  pub fields_writer_depth : Config → Fields → ℕ
  fields_writer_depth c no_fields = 0
  fields_writer_depth c (field_and name d fields) = max (1 + writer_depth c d) (fields_writer_depth c fields)
