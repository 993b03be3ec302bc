-- The normal form: the data that the layout is read back as.
--
-- Raw texts in maps. Keys are compared as they are spelled, as data is: `{5: 1, 5/**/: 2}` has two. So what is
-- written and read back is promised the same as the normal form, raw texts compared by value, only where no key holds
-- one (`has_plain_keys`); without raw texts it is equal to it. Neither is a premise of what is written and read:
-- `IsReadBackWith` says both of what is read back, each where its own test holds.
--
-- The normal form of data changes maps alone: a key that comes again keeps its first place and takes the last value,
-- as in reading. That of a value without a schema changes numbers too, unless suffixes are written, and its maps stay
-- in key order.
use Rattle.std.specs.Prelude.{Bool, List, [], ◌∷◌}
use Rattle.ron_spec_grammar.specs.Data.{Data, bool_of, int_of, char_of, str_of, bytes_of, the_unit, the_none, some_of, unit_struct_of, list_of, tuple_of}
use Rattle.ron_spec_grammar.specs.Data.{tuple_struct_of, map_of, newtype_of, struct_of, unit_variant_of, newtype_variant_of, tuple_variant_of}
use Rattle.ron_spec_grammar.specs.Data.{struct_variant_of, value_of, Datas, no_datas, data_and, Pairs, no_pairs, pair_and, Fields, no_fields, field_and, raw_of}
use Rattle.ron_spec_grammar.specs.Equal.{folded}
use Rattle.ron_spec_grammar.specs.Values.Trees.{normal}

-- Numbers are written with their suffixes or without them. In a map a key that comes again keeps its first place and takes the last value, once all that stands
-- in the map is in normal form. A value without a schema takes its own normal form, its numbers in their smallest width where no suffixes are written. All else
-- stays as it is.
abbrev mutual
  pub norm_with : Bool → Data → Data
  norm_with suffixes (bool_of b) = bool_of b
  norm_with suffixes (int_of w n) = int_of w n
  norm_with suffixes (char_of c) = char_of c
  norm_with suffixes (str_of t) = str_of t
  norm_with suffixes (bytes_of bs) = bytes_of bs
  norm_with suffixes the_unit = the_unit
  norm_with suffixes the_none = the_none
  norm_with suffixes (some_of d) = some_of (norm_with suffixes d)
  norm_with suffixes (unit_struct_of name) = unit_struct_of name
  norm_with suffixes (list_of ds) = list_of (norm_items_with suffixes ds)
  norm_with suffixes (tuple_of ds) = tuple_of (norm_items_with suffixes ds)
  norm_with suffixes (tuple_struct_of name ds) = tuple_struct_of name (norm_items_with suffixes ds)
  norm_with suffixes (map_of ps) = map_of (folded (norm_pairs_with suffixes ps))
  norm_with suffixes (newtype_of name d) = newtype_of name (norm_with suffixes d)
  norm_with suffixes (struct_of name fields) = struct_of name (norm_fields_with suffixes fields)
  norm_with suffixes (unit_variant_of name v) = unit_variant_of name v
  norm_with suffixes (newtype_variant_of name v d) = newtype_variant_of name v (norm_with suffixes d)
  norm_with suffixes (tuple_variant_of name v ds) = tuple_variant_of name v (norm_items_with suffixes ds)
  norm_with suffixes (struct_variant_of name v fields) = struct_variant_of name v (norm_fields_with suffixes fields)
  norm_with suffixes (value_of t) = value_of (normal suffixes t)
  norm_with suffixes (raw_of t) = raw_of t

  -- each item by its normal form
  pub norm_items_with : Bool → Datas → Datas
  norm_items_with suffixes no_datas = no_datas
  norm_items_with suffixes (data_and d ds) = data_and (norm_with suffixes d) (norm_items_with suffixes ds)

  -- each key and each value by its normal form
  pub norm_pairs_with : Bool → Pairs → List (Data × Data)
  norm_pairs_with suffixes no_pairs = []
  norm_pairs_with suffixes (pair_and key d ps) = (norm_with suffixes key, norm_with suffixes d) ∷ norm_pairs_with suffixes ps

  -- each field by its normal form
  pub norm_fields_with : Bool → Fields → Fields
  norm_fields_with suffixes no_fields = no_fields
  norm_fields_with suffixes (field_and name d fields) = field_and name (norm_with suffixes d) (norm_fields_with suffixes fields)
