-- What the layout is read back as: the normal form, but that a raw text takes the gaps around it, also those that were written before it.
use Rattle.std.specs.Prelude.{ℕ, suc, not, List, [], ◌∷◌, ◌++◌, if◌then◌else◌}
use Rattle.ron_spec_words.specs.Characters.{Text}
use Rattle.ron_spec_grammar.specs.Data.{Data, bool_of, int_of, char_of, str_of, bytes_of, the_unit, the_none, some_of, unit_struct_of, list_of, tuple_of}
use Rattle.ron_spec_grammar.specs.Data.{tuple_struct_of, map_of, newtype_of, struct_of, unit_variant_of, newtype_variant_of, tuple_variant_of}
use Rattle.ron_spec_grammar.specs.Data.{struct_variant_of, value_of, Datas, no_datas, data_and, Pairs, no_pairs, pair_and, Fields, no_fields, field_and, raw_of}
use Rattle.ron_spec_grammar.specs.Rule.{Extensions}
use Rattle.ron_spec_grammar.specs.Equal.{folded}
use Rattle.ron_spec_grammar.specs.Values.Trees.{normal}
use Rattle.ron_spec_grammar.specs.Raw.{trimmed}
use Rattle.ron_spec_layout.specs.Config.{Config, spacing, inner_level, item_comment}

-- At a level, behind a gap that was written before it. A raw text within an option stands behind the word `Some` and a bracket.
abbrev mutual
  pub back : Config → Extensions → ℕ → Text → Data → Data
  back c x level lead (bool_of b) = bool_of b
  back c x level lead (int_of w n) = int_of w n
  back c x level lead (char_of a) = char_of a
  back c x level lead (str_of t) = str_of t
  back c x level lead (bytes_of bs) = bytes_of bs
  back c x level lead the_unit = the_unit
  back c x level lead the_none = the_none
  back c x level lead (some_of d) = some_of (back c x level [] d)
  back c x level lead (unit_struct_of name) = unit_struct_of name
  back c x level lead (list_of ds) =
      list_of (numbered_back c x (inner_level c.compact_arrays level) (spacing c c.compact_arrays level).first (spacing c c.compact_arrays level).between 0 ds)
  back c x level lead (tuple_of ds) = tuple_of (items_back c x (inner_level (not c.separate_tuple_members) level)
      (spacing c (not c.separate_tuple_members) level).first (spacing c (not c.separate_tuple_members) level).between ds)
  back c x level lead (tuple_struct_of name ds) = tuple_struct_of name (items_back c x (inner_level (not c.separate_tuple_members) level)
      (spacing c (not c.separate_tuple_members) level).first (spacing c (not c.separate_tuple_members) level).between ds)
  back c x level lead (map_of ps) =
      map_of (folded (pairs_back c x (inner_level c.compact_maps level) (spacing c c.compact_maps level).first (spacing c c.compact_maps level).between ps))
  back c x level lead (newtype_of name d) = newtype_of name (back c x level (if x.unwrap_newtypes then lead else []) d)
  back c x level lead (struct_of name fields) = struct_of name (fields_back c x (inner_level c.compact_structs level) fields)
  back c x level lead (unit_variant_of name v) = unit_variant_of name v
  back c x level lead (newtype_variant_of name v d) = newtype_variant_of name v (back c x level [] d)
  back c x level lead (tuple_variant_of name v ds) = tuple_variant_of name v (items_back c x (inner_level (not c.separate_tuple_members) level)
      (spacing c (not c.separate_tuple_members) level).first (spacing c (not c.separate_tuple_members) level).between ds)
  back c x level lead (struct_variant_of name v fields) = struct_variant_of name v (fields_back c x (inner_level c.compact_structs level) fields)
  back c x level lead (value_of t) = value_of (normal c.number_suffixes t)
  back c x level lead (raw_of t) = raw_of (trimmed (lead ++ t))

  -- items of a list, the first behind a gap of its own, each behind its comment
  pub numbered_back : Config → Extensions → ℕ → Text → Text → ℕ → Datas → Datas
  numbered_back c x level g h k no_datas = no_datas
  numbered_back c x level g h k (data_and d ds) = data_and (back c x level (g ++ item_comment c level k) d) (numbered_back c x level h h (suc k) ds)

  -- items of a tuple
  pub items_back : Config → Extensions → ℕ → Text → Text → Datas → Datas
  items_back c x level g h no_datas = no_datas
  items_back c x level g h (data_and d ds) = data_and (back c x level g d) (items_back c x level h h ds)

  -- keys and values
  pub pairs_back : Config → Extensions → ℕ → Text → Text → Pairs → List (Data × Data)
  pairs_back c x level g h no_pairs = []
  pairs_back c x level g h (pair_and key d ps) = (back c x level g key, back c x level c.separator d) ∷ pairs_back c x level h h ps

  -- fields
  pub fields_back : Config → Extensions → ℕ → Fields → Fields
  fields_back c x level no_fields = no_fields
  fields_back c x level (field_and name d fields) = field_and name (back c x level c.separator d) (fields_back c x level fields)

-- What is read back as what. At the start of a text a raw text comes back as it was, elsewhere trimmed. `back` and
-- `back_first` are functions of the data, and that they are the same as the normal form is a law beside them.
--
-- At the very start of a text: there a raw text is read back as it is, also as the content of newtypes that stands alone.
abbrev pub back_first : Config → Extensions → ℕ → Data → Data
back_first c x level (raw_of t) = raw_of t
back_first c x level (newtype_of name d) = newtype_of name (if x.unwrap_newtypes then back_first c x level d else back c x level [] d)
back_first c x level d = back c x level [] d
