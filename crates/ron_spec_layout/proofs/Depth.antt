-- How deep a writer goes under a configuration, beside how deep without one.
use Rattle.std.proofs.Common.{◌≡◌, ◌+◌, ◌≤◌, max, Bool, true, false, cond, None, refl, ap, ap₂, arith}
use Rattle.std.specs.Option.{is_some}
use Rattle.ron_spec_words.specs.Characters.{Text}
use Rattle.ron_spec_grammar.specs.Data.{Data, bool_of, int_of, char_of, str_of, bytes_of, the_unit, the_none, some_of, unit_struct_of, list_of, tuple_of}
use Rattle.ron_spec_grammar.specs.Data.{tuple_struct_of, map_of, newtype_of, struct_of, unit_variant_of, newtype_variant_of, tuple_variant_of}
use Rattle.ron_spec_grammar.specs.Data.{struct_variant_of, value_of, Datas, no_datas, data_and, Pairs, no_pairs, pair_and, Fields, no_fields, field_and, raw_of}
use Rattle.ron_spec_layout.specs.Config.{Config, no_config}
use Rattle.ron_spec_layout.specs.Ranges.{range_text, compact_range}
use Rattle.ron_spec_layout.specs.Depth.{writer_depth, items_writer_depth, pairs_writer_depth, fields_writer_depth}

module _ (c : Config) where
  mutual
    pub no_deeper : (d : Data) → writer_depth c d ≤ writer_depth no_config d
    no_deeper (some_of d) = omega (arith, no_deeper d)
    no_deeper (list_of ds) = items_no_deeper ds
    no_deeper (tuple_of ds) = items_no_deeper ds
    no_deeper (tuple_struct_of name ds) = items_no_deeper ds
    no_deeper (map_of ps) = pairs_no_deeper ps
    no_deeper (newtype_of name d) = omega (arith, no_deeper d)
    no_deeper (struct_of name fields) = perhaps (is_some (compact_range c (struct_of name fields))) (fields_no_deeper fields)
      where
        perhaps : (b : Bool) → fields_writer_depth c fields ≤ fields_writer_depth no_config fields
            → cond b 0 (fields_writer_depth c fields) ≤ fields_writer_depth no_config fields
        perhaps true h = omega arith
        perhaps false h = h
    no_deeper (newtype_variant_of name v d) = omega (arith, no_deeper d)
    no_deeper (tuple_variant_of name v ds) = items_no_deeper ds
    no_deeper (struct_variant_of name v fields) = fields_no_deeper fields
    no_deeper (bool_of b) = omega arith
    no_deeper (int_of w n) = omega arith
    no_deeper (char_of a) = omega arith
    no_deeper (str_of t) = omega arith
    no_deeper (bytes_of bs) = omega arith
    no_deeper the_unit = omega arith
    no_deeper the_none = omega arith
    no_deeper (unit_struct_of name) = omega arith
    no_deeper (unit_variant_of name v) = omega arith
    no_deeper (value_of t) = omega arith
    no_deeper (raw_of t) = omega arith

    items_no_deeper : (ds : Datas) → items_writer_depth c ds ≤ items_writer_depth no_config ds
    items_no_deeper no_datas = omega arith
    items_no_deeper (data_and d ds) = omega (arith, no_deeper d, items_no_deeper ds)

    pairs_no_deeper : (ps : Pairs) → pairs_writer_depth c ps ≤ pairs_writer_depth no_config ps
    pairs_no_deeper no_pairs = omega arith
    pairs_no_deeper (pair_and k d ps) = omega (arith, no_deeper k, no_deeper d, pairs_no_deeper ps)

    fields_no_deeper : (fields : Fields) → fields_writer_depth c fields ≤ fields_writer_depth no_config fields
    fields_no_deeper no_fields = omega arith
    fields_no_deeper (field_and name d fields) = omega (arith, no_deeper d, fields_no_deeper fields)

  module _ (plain : c.compact_ranges ≡ false) where
    no_range : (d : Data) → compact_range c d ≡ None
    no_range d = ap (λ b. cond b (range_text c.number_suffixes d) None) plain

    mutual
      pub as_deep : (d : Data) → writer_depth c d ≡ writer_depth no_config d
      as_deep (some_of d) = ap (λ n. 1 + n) (as_deep d)
      as_deep (list_of ds) = items_as_deep ds
      as_deep (tuple_of ds) = items_as_deep ds
      as_deep (tuple_struct_of name ds) = items_as_deep ds
      as_deep (map_of ps) = pairs_as_deep ps
      as_deep (newtype_of name d) = ap (λ n. 1 + n) (as_deep d)
      as_deep (struct_of name fields) = ap₂ (λ o n. cond (is_some {T = Text} o) 0 n) (no_range (struct_of name fields)) (fields_as_deep fields)
      as_deep (newtype_variant_of name v d) = ap (λ n. 1 + n) (as_deep d)
      as_deep (tuple_variant_of name v ds) = items_as_deep ds
      as_deep (struct_variant_of name v fields) = fields_as_deep fields
      as_deep (bool_of b) = refl
      as_deep (int_of w n) = refl
      as_deep (char_of a) = refl
      as_deep (str_of t) = refl
      as_deep (bytes_of bs) = refl
      as_deep the_unit = refl
      as_deep the_none = refl
      as_deep (unit_struct_of name) = refl
      as_deep (unit_variant_of name v) = refl
      as_deep (value_of t) = refl
      as_deep (raw_of t) = refl

      items_as_deep : (ds : Datas) → items_writer_depth c ds ≡ items_writer_depth no_config ds
      items_as_deep no_datas = refl
      items_as_deep (data_and d ds) = ap₂ (λ m n. max (1 + m) n) (as_deep d) (items_as_deep ds)

      pairs_as_deep : (ps : Pairs) → pairs_writer_depth c ps ≡ pairs_writer_depth no_config ps
      pairs_as_deep no_pairs = refl
      pairs_as_deep (pair_and k d ps) = ap₂ max (ap₂ (λ m n. max (1 + m) (1 + n)) (as_deep k) (as_deep d)) (pairs_as_deep ps)

      fields_as_deep : (fields : Fields) → fields_writer_depth c fields ≡ fields_writer_depth no_config fields
      fields_as_deep no_fields = refl
      fields_as_deep (field_and name d fields) = ap₂ (λ m n. max (1 + m) n) (as_deep d) (fields_as_deep fields)
