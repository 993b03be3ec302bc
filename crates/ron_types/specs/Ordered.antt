-- Data whose values without a schema have their maps in order.
use Rattle.std.specs.Prelude.{⊤}
use Rattle.ron_value.specs.Ordered.{IsOrdered}
use Rattle.ron_spec_grammar.specs.Data.{Data, some_of, list_of, tuple_of, tuple_struct_of, map_of, newtype_of, struct_of, newtype_variant_of, tuple_variant_of}
use Rattle.ron_spec_grammar.specs.Data.{struct_variant_of, value_of, Datas, no_datas, data_and, Pairs, no_pairs, pair_and, Fields, no_fields, field_and}

-- In each value without a schema that stands in the data, the keys of each map ascend. Only changes of a map that put in unordered ones can make it otherwise.
abbrev mutual
  pub HasOrderedValues : Data → Type 0
  HasOrderedValues (some_of d) = HasOrderedValues d
  HasOrderedValues (list_of ds) = HaveOrderedValues ds
  HasOrderedValues (tuple_of ds) = HaveOrderedValues ds
  HasOrderedValues (tuple_struct_of name ds) = HaveOrderedValues ds
  HasOrderedValues (map_of ps) = PairsHaveOrderedValues ps
  HasOrderedValues (newtype_of name d) = HasOrderedValues d
  HasOrderedValues (struct_of name fs) = FieldsHaveOrderedValues fs
  HasOrderedValues (newtype_variant_of name v d) = HasOrderedValues d
  HasOrderedValues (tuple_variant_of name v ds) = HaveOrderedValues ds
  HasOrderedValues (struct_variant_of name v fs) = FieldsHaveOrderedValues fs
  HasOrderedValues (value_of t) = IsOrdered t
  HasOrderedValues _ = ⊤

  pub HaveOrderedValues : Datas → Type 0
  HaveOrderedValues no_datas = ⊤
  HaveOrderedValues (data_and d ds) = HasOrderedValues d × HaveOrderedValues ds

  pub PairsHaveOrderedValues : Pairs → Type 0
  PairsHaveOrderedValues no_pairs = ⊤
  PairsHaveOrderedValues (pair_and k d ps) = HasOrderedValues k × HasOrderedValues d × PairsHaveOrderedValues ps

  pub FieldsHaveOrderedValues : Fields → Type 0
  FieldsHaveOrderedValues no_fields = ⊤
  FieldsHaveOrderedValues (field_and name d fs) = HasOrderedValues d × FieldsHaveOrderedValues fs
