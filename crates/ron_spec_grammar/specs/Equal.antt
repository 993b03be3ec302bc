-- Data that is equal, and pairs with keys.
use Rattle.std.specs.Prelude.{Bool, true, false, ◌&&◌, ◌==◌, bytes_eq, if◌then◌else◌, List, [], ◌∷◌}
use Rattle.std.specs.Ordering.{int_eq, eq_by_cmp}
use Rattle.ron_spec_words.specs.Runs.{same_text}
use Rattle.ron_value_number.specs.Width.{same_width}
use Rattle.ron_value.specs.Order.{tree_cmp}
use Rattle.ron_spec_grammar.specs.Data.{Data, bool_of, int_of, char_of, str_of, bytes_of, the_unit, the_none, some_of, unit_struct_of, list_of, tuple_of}
use Rattle.ron_spec_grammar.specs.Data.{tuple_struct_of, map_of, newtype_of, struct_of, unit_variant_of, newtype_variant_of, tuple_variant_of}
use Rattle.ron_spec_grammar.specs.Data.{struct_variant_of, value_of, raw_of, Datas, no_datas, data_and, Pairs, no_pairs, pair_and, Fields, no_fields, field_and}

-- two booleans are equal
abbrev pub equal_bool : Bool → Bool → Bool
equal_bool true b = b
equal_bool false true = false
equal_bool false false = true

-- two data are equal
unfoldable mutual
  pub equal_data : Data → Data → Bool
  equal_data (bool_of a) (bool_of b) = equal_bool a b
  equal_data (int_of v m) (int_of w n) = same_width v w && int_eq m n
  equal_data (char_of c) (char_of d) = c == d
  equal_data (str_of s) (str_of t) = same_text s t
  equal_data (bytes_of s) (bytes_of t) = bytes_eq s t
  equal_data the_unit the_unit = true
  equal_data the_none the_none = true
  equal_data (some_of d) (some_of e) = equal_data d e
  equal_data (unit_struct_of s) (unit_struct_of t) = same_text s t
  equal_data (list_of ds) (list_of es) = equal_items ds es
  equal_data (tuple_of ds) (tuple_of es) = equal_items ds es
  equal_data (tuple_struct_of s ds) (tuple_struct_of t es) = same_text s t && equal_items ds es
  equal_data (map_of ps) (map_of qs) = equal_pairs ps qs
  equal_data (newtype_of s d) (newtype_of t e) = same_text s t && equal_data d e
  equal_data (struct_of s ds) (struct_of t es) = same_text s t && equal_fields ds es
  equal_data (unit_variant_of s v) (unit_variant_of t w) = same_text s t && same_text v w
  equal_data (newtype_variant_of s v d) (newtype_variant_of t w e) = same_text s t && (same_text v w && equal_data d e)
  equal_data (tuple_variant_of s v ds) (tuple_variant_of t w es) = same_text s t && (same_text v w && equal_items ds es)
  equal_data (struct_variant_of s v ds) (struct_variant_of t w es) = same_text s t && (same_text v w && equal_fields ds es)
  equal_data (value_of s) (value_of t) = eq_by_cmp tree_cmp s t
  equal_data (raw_of s) (raw_of t) = same_text s t
  equal_data _ _ = false

  -- likewise items, in their order
  pub equal_items : Datas → Datas → Bool
  equal_items no_datas no_datas = true
  equal_items (data_and d ds) (data_and e es) = equal_data d e && equal_items ds es
  equal_items _ _ = false

  -- likewise pairs
  pub equal_pairs : Pairs → Pairs → Bool
  equal_pairs no_pairs no_pairs = true
  equal_pairs (pair_and k d ps) (pair_and l e qs) = equal_data k l && (equal_data d e && equal_pairs ps qs)
  equal_pairs _ _ = false

  -- likewise fields
  pub equal_fields : Fields → Fields → Bool
  equal_fields no_fields no_fields = true
  equal_fields (field_and s d ds) (field_and t e es) = same_text s t && (equal_data d e && equal_fields ds es)
  equal_fields _ _ = false

-- One more pair behind others. A key that comes again keeps its first place and takes the last value.
abbrev pub put : Data → Data → Pairs → Pairs
put k d no_pairs = pair_and k d no_pairs
put k d (pair_and l e ps) = if equal_data k l then pair_and l d ps else pair_and l e (put k d ps)

-- these pairs, one by one, behind others
abbrev pub put_all : Pairs → List (Data × Data) → Pairs
put_all ps [] = ps
put_all ps (p ∷ more) = put_all (put p.0 p.1 ps) more

-- the pairs of a map, where each comes in this order
abbrev pub folded : List (Data × Data) → Pairs
folded = put_all no_pairs
