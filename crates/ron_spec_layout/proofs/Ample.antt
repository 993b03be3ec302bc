-- Levels that are enough to read a layout back.
use Rattle.std.specs.Prelude.{ℕ, ◌+◌, max}
use Rattle.ron_spec_grammar.specs.Data.{Data, bool_of, int_of, char_of, str_of, bytes_of, the_unit, the_none, some_of, unit_struct_of, list_of, tuple_of}
use Rattle.ron_spec_grammar.specs.Data.{tuple_struct_of, map_of, newtype_of, struct_of, unit_variant_of, newtype_variant_of, tuple_variant_of}
use Rattle.ron_spec_grammar.specs.Data.{struct_variant_of, value_of, raw_of, Datas, no_datas, data_and, Pairs, no_pairs, pair_and, Fields, no_fields, field_and}
use Rattle.ron_spec_grammar.specs.Depth.{tree_depth}
use Rattle.ron_spec_grammar.specs.Raw.{raw_limit}

-- As many levels as the depth; for a raw text as many as it is read with by itself.
abbrev mutual
  pub ample : Data → ℕ
  ample (bool_of b) = 0
  ample (int_of w n) = 0
  ample (char_of c) = 0
  ample (str_of t) = 0
  ample (bytes_of bs) = 0
  ample the_unit = 0
  ample the_none = 0
  ample (some_of d) = 1 + ample d
  ample (unit_struct_of name) = 0
  ample (list_of ds) = 1 + items_ample ds
  ample (tuple_of ds) = 1 + items_ample ds
  ample (tuple_struct_of name ds) = 1 + items_ample ds
  ample (map_of ps) = 1 + pairs_ample ps
  ample (newtype_of name d) = 1 + ample d
  ample (struct_of name fields) = 1 + fields_ample fields
  ample (unit_variant_of name v) = 2
  ample (newtype_variant_of name v d) = 2 + ample d
  ample (tuple_variant_of name v ds) = 2 + items_ample ds
  ample (struct_variant_of name v fields) = 2 + fields_ample fields
  ample (value_of t) = tree_depth t
  ample (raw_of t) = raw_limit

  -- the ample of the deepest item, its own level counted
  pub items_ample : Datas → ℕ
  items_ample no_datas = 0
  items_ample (data_and d ds) = max (1 + ample d) (items_ample ds)

  -- the ample of the deepest key or value, its own level counted
  pub pairs_ample : Pairs → ℕ
  pairs_ample no_pairs = 0
  pairs_ample (pair_and key d ps) = max (max (1 + ample key) (1 + ample d)) (pairs_ample ps)

  -- the ample of the deepest field, its own level counted
  pub fields_ample : Fields → ℕ
  fields_ample no_fields = 0
  fields_ample (field_and name d fields) = max (1 + ample d) (fields_ample fields)
