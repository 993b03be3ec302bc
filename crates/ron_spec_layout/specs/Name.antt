-- Which names can be written, and how.
--
-- A name that cannot be written stands in the layout behind `r#`, so that the layout is total. `names_ok` tells such
-- data apart; it also looks at the struct's own name, which a text shows only under `struct_names` or
-- `explicit_struct_names`, since the writer refuses such a name all the same. The refusal holds the first such name
-- in the order of writing (`first_refused`).
--
-- Plain names that begin like a literal. `r`, `b` and `br` are written as they are. A plain name is taken for the
-- start of a raw identifier, string or byte literal only where `"`, `'` or `#` comes behind it, and `:` is none of
-- these. This is proved for any character that is none of them and that no name goes on with, since `(` follows a
-- variant's name and a struct's.
use Rattle.std.specs.Prelude.{Bool, true, not, ◌&&◌, if◌then◌else◌, ◌++◌, codes, Option, Some, None}
use Rattle.std.specs.List.{list_any}
use Rattle.std.specs.Option.{option_or}
use Rattle.ron_spec_words.specs.Characters.{Text}
use Rattle.ron_spec_words.specs.Name.{value_words, is_name, is_plain_identifier}
use Rattle.ron_spec_words.specs.Runs.{same_text}
use Rattle.ron_spec_grammar.specs.Data.{Data, bool_of, int_of, char_of, str_of, bytes_of, the_unit, the_none, some_of, unit_struct_of, list_of, tuple_of}
use Rattle.ron_spec_grammar.specs.Data.{tuple_struct_of, map_of, newtype_of, struct_of, unit_variant_of, newtype_variant_of, tuple_variant_of}
use Rattle.ron_spec_grammar.specs.Data.{struct_variant_of, value_of, Datas, no_datas, data_and, Pairs, no_pairs, pair_and, Fields, no_fields, field_and, raw_of}

-- each name of a struct, of whatever kind, of an enum, a variant and a field in the data can be written: some identifier spells it
abbrev mutual
  pub names_ok : Data → Bool
  names_ok (bool_of b) = true
  names_ok (int_of w n) = true
  names_ok (char_of c) = true
  names_ok (str_of t) = true
  names_ok (bytes_of bs) = true
  names_ok the_unit = true
  names_ok the_none = true
  names_ok (some_of d) = names_ok d
  names_ok (unit_struct_of name) = is_name name
  names_ok (list_of ds) = all_names_ok ds
  names_ok (tuple_of ds) = all_names_ok ds
  names_ok (tuple_struct_of name ds) = is_name name && all_names_ok ds
  names_ok (map_of ps) = pair_names_ok ps
  names_ok (newtype_of name d) = is_name name && names_ok d
  names_ok (struct_of name fields) = is_name name && field_names_ok fields
  names_ok (unit_variant_of name v) = is_name name && is_name v
  names_ok (newtype_variant_of name v d) = is_name name && (is_name v && names_ok d)
  names_ok (tuple_variant_of name v ds) = is_name name && (is_name v && all_names_ok ds)
  names_ok (struct_variant_of name v fields) = is_name name && (is_name v && field_names_ok fields)
  names_ok (value_of t) = true
  names_ok (raw_of t) = true

  -- likewise of items
  pub all_names_ok : Datas → Bool
  all_names_ok no_datas = true
  all_names_ok (data_and d ds) = names_ok d && all_names_ok ds

  -- likewise of keys and values
  pub pair_names_ok : Pairs → Bool
  pair_names_ok no_pairs = true
  pair_names_ok (pair_and key d ps) = names_ok key && (names_ok d && pair_names_ok ps)

  -- likewise of fields
  pub field_names_ok : Fields → Bool
  field_names_ok no_fields = true
  field_names_ok (field_and name d fields) = is_name name && (names_ok d && field_names_ok fields)

-- a name that cannot be written, and else what comes behind it
abbrev pub refused_of : Text → Option Text → Option Text
refused_of name more = if is_name name then more else Some name

-- the first name in the data that cannot be written: a struct's own name, and an enum's before its variant's, comes before its fields, items or content, a key
-- before its value, and a field's name before its data
abbrev mutual
  pub first_refused : Data → Option Text
  first_refused (bool_of b) = None
  first_refused (int_of w n) = None
  first_refused (char_of c) = None
  first_refused (str_of t) = None
  first_refused (bytes_of bs) = None
  first_refused the_unit = None
  first_refused the_none = None
  first_refused (some_of d) = first_refused d
  first_refused (unit_struct_of name) = if is_name name then None else Some name
  first_refused (list_of ds) = first_refused_among ds
  first_refused (tuple_of ds) = first_refused_among ds
  first_refused (tuple_struct_of name ds) = if is_name name then first_refused_among ds else Some name
  first_refused (map_of ps) = first_refused_in_pairs ps
  first_refused (newtype_of name d) = if is_name name then first_refused d else Some name
  first_refused (struct_of name fields) = if is_name name then first_refused_of fields else Some name
  first_refused (unit_variant_of name v) = refused_of name (refused_of v None)
  first_refused (newtype_variant_of name v d) = refused_of name (refused_of v (first_refused d))
  first_refused (tuple_variant_of name v ds) = refused_of name (refused_of v (first_refused_among ds))
  first_refused (struct_variant_of name v fields) = refused_of name (refused_of v (first_refused_of fields))
  first_refused (value_of t) = None
  first_refused (raw_of t) = None

  -- likewise of items
  pub first_refused_among : Datas → Option Text
  first_refused_among no_datas = None
  first_refused_among (data_and d ds) = option_or (first_refused d) (first_refused_among ds)

  -- likewise of keys and values
  pub first_refused_in_pairs : Pairs → Option Text
  first_refused_in_pairs no_pairs = None
  first_refused_in_pairs (pair_and key d ps) = option_or (first_refused key) (option_or (first_refused d) (first_refused_in_pairs ps))

  -- likewise of fields
  pub first_refused_of : Fields → Option Text
  first_refused_of no_fields = None
  first_refused_of (field_and name d fields) = if is_name name then option_or (first_refused d) (first_refused_of fields) else Some name

-- a name that is written as it is
unfoldable pub is_plain_name : Text → Bool
is_plain_name n = is_plain_identifier n && not (list_any (same_text n) value_words)

-- any other is written behind `r#`
abbrev pub written_name : Text → Text
written_name n = if is_plain_name n then n else codes "r#" ++ n
