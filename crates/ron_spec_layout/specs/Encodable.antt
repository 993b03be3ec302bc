-- Data that code can hold and whose text tells all of it: its characters are Unicode scalar values, its bytes bytes, and the texts in its values UTF-8; under
-- implicit_some no value holds a Some, which the text would leave out.
--
-- Texts must be UTF-8. A tree's text is a list of bytes, and what is laid out are its characters. Only of UTF-8 do
-- the characters give the bytes back, so the law asks it of each text, beside what it asks of data
-- (`IsEncodableValue`).
--
-- What code can hold is a premise of the layout's law. The definitions speak of texts as lists of any numbers, and of
-- bytes likewise. A character past U+10FFFF, or a byte past 255, has no escape that spells it, so the law that a
-- layout is read back asks that data is encodable (`is_encodable`). To make it a part of `OfShape` would make the law
-- false that what is spelled is of the schema.
use Rattle.std.specs.Prelude.{nat_lt, Bool, true, not, ◌&&◌}
use Rattle.std.specs.List.{list_all}
use Rattle.std.specs.Str.{is_utf8}
use lib.Utf8.{scalar}
use Rattle.ron_value.specs.Tree.{Tree}
use Rattle.ron_value.specs.Tree as tree
use Rattle.ron_spec_grammar.specs.Data.{Data, bool_of, int_of, char_of, str_of, bytes_of, the_unit, the_none, some_of, unit_struct_of, list_of, tuple_of}
use Rattle.ron_spec_grammar.specs.Data.{tuple_struct_of, map_of, newtype_of, struct_of, unit_variant_of, newtype_variant_of, tuple_variant_of}
use Rattle.ron_spec_grammar.specs.Data.{struct_variant_of, value_of, Datas, no_datas, data_and, Pairs, no_pairs, pair_and, Fields, no_fields, field_and, raw_of}

-- a value without a schema
abbrev mutual
  pub value_encodable : Bool → Tree → Bool
  value_encodable implicit (tree.character c) = scalar c
  value_encodable implicit (tree.mapping ps) = entries_encodable implicit ps
  value_encodable implicit (tree.some t) = not implicit && value_encodable implicit t
  value_encodable implicit (tree.text bs) = is_utf8 bs
  value_encodable implicit (tree.bytes bs) = list_all (λ b. nat_lt b 256) bs
  value_encodable implicit (tree.sequence ts) = values_encodable implicit ts
  value_encodable implicit _ = true

  pub values_encodable : Bool → tree.Items → Bool
  values_encodable implicit tree.no_items = true
  values_encodable implicit (tree.item_and t ts) = value_encodable implicit t && values_encodable implicit ts

  pub entries_encodable : Bool → tree.Pairs → Bool
  entries_encodable implicit tree.no_pairs = true
  entries_encodable implicit (tree.pair_and key t ps) = value_encodable implicit key && (value_encodable implicit t && entries_encodable implicit ps)

-- each character is a Unicode scalar value, and each byte is below 256
abbrev mutual
  pub is_encodable : Bool → Data → Bool
  is_encodable implicit (bool_of b) = true
  is_encodable implicit (int_of w n) = true
  is_encodable implicit (char_of c) = scalar c
  is_encodable implicit (str_of t) = list_all scalar t
  is_encodable implicit (bytes_of bs) = list_all (λ b. nat_lt b 256) bs
  is_encodable implicit the_unit = true
  is_encodable implicit the_none = true
  is_encodable implicit (some_of d) = is_encodable implicit d
  is_encodable implicit (unit_struct_of name) = true
  is_encodable implicit (list_of ds) = items_encodable implicit ds
  is_encodable implicit (tuple_of ds) = items_encodable implicit ds
  is_encodable implicit (tuple_struct_of name ds) = items_encodable implicit ds
  is_encodable implicit (map_of ps) = pairs_encodable implicit ps
  is_encodable implicit (newtype_of name d) = is_encodable implicit d
  is_encodable implicit (struct_of name fields) = are_encodable implicit fields
  is_encodable implicit (unit_variant_of name v) = true
  is_encodable implicit (newtype_variant_of name v d) = is_encodable implicit d
  is_encodable implicit (tuple_variant_of name v ds) = items_encodable implicit ds
  is_encodable implicit (struct_variant_of name v fields) = are_encodable implicit fields
  is_encodable implicit (value_of t) = value_encodable implicit t
  is_encodable implicit (raw_of t) = true

  -- likewise of items
  pub items_encodable : Bool → Datas → Bool
  items_encodable implicit no_datas = true
  items_encodable implicit (data_and d ds) = is_encodable implicit d && items_encodable implicit ds

  -- likewise of keys and values
  pub pairs_encodable : Bool → Pairs → Bool
  pairs_encodable implicit no_pairs = true
  pairs_encodable implicit (pair_and key d ps) = is_encodable implicit key && (is_encodable implicit d && pairs_encodable implicit ps)

  -- likewise of fields
  pub are_encodable : Bool → Fields → Bool
  are_encodable implicit no_fields = true
  are_encodable implicit (field_and name d fields) = is_encodable implicit d && are_encodable implicit fields
