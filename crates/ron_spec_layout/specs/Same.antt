-- Data that is the same but for how its raw texts are spelled.
use Rattle.std.specs.Prelude.{◌≡◌, Bool, true, false, ◌&&◌}
use Rattle.ron_spec_words.specs.Characters.{Text}
use Rattle.ron_spec_grammar.specs.Data.{Data, some_of, list_of, tuple_of, tuple_struct_of, map_of, newtype_of, struct_of, newtype_variant_of, tuple_variant_of}
use Rattle.ron_spec_grammar.specs.Data.{struct_variant_of, raw_of, Datas, no_datas, data_and, Pairs, no_pairs, pair_and, Fields, no_fields, field_and}
use Rattle.ron_spec_grammar.specs.Raw.{SameRaw}
use Rattle.ron_spec_layout.specs.Normal.{norm_with}

-- The two are equal, raw texts being compared by their values under no extensions. Keys are equal as they are.
mutual
  pub data AreSame : Data → Data → Type 0 where
    itself : (d : Data) → AreSame d d
    raws : (s t : Text) → SameRaw s t → AreSame (raw_of s) (raw_of t)
    in_some : (d e : Data) → AreSame d e → AreSame (some_of d) (some_of e)
    in_list : (ds es : Datas) → AreSameItems ds es → AreSame (list_of ds) (list_of es)
    in_tuple : (ds es : Datas) → AreSameItems ds es → AreSame (tuple_of ds) (tuple_of es)
    in_tuple_struct : (name : Text) (ds es : Datas) → AreSameItems ds es → AreSame (tuple_struct_of name ds) (tuple_struct_of name es)
    in_map : (ps qs : Pairs) → AreSamePairs ps qs → AreSame (map_of ps) (map_of qs)
    in_newtype : (name : Text) (d e : Data) → AreSame d e → AreSame (newtype_of name d) (newtype_of name e)
    in_struct : (name : Text) (ds es : Fields) → AreSameFields ds es → AreSame (struct_of name ds) (struct_of name es)
    in_newtype_variant : (name v : Text) (d e : Data) → AreSame d e → AreSame (newtype_variant_of name v d) (newtype_variant_of name v e)
    in_tuple_variant : (name v : Text) (ds es : Datas) → AreSameItems ds es → AreSame (tuple_variant_of name v ds) (tuple_variant_of name v es)
    in_struct_variant : (name v : Text) (ds es : Fields) → AreSameFields ds es → AreSame (struct_variant_of name v ds) (struct_variant_of name v es)

  pub data AreSameItems : Datas → Datas → Type 0 where
    no_items : AreSameItems no_datas no_datas
    item : (d e : Data) (ds es : Datas) → AreSame d e → AreSameItems ds es → AreSameItems (data_and d ds) (data_and e es)

  pub data AreSamePairs : Pairs → Pairs → Type 0 where
    no_entries : AreSamePairs no_pairs no_pairs
    entry : (k d e : Data) (ps qs : Pairs) → AreSame d e → AreSamePairs ps qs → AreSamePairs (pair_and k d ps) (pair_and k e qs)

  pub data AreSameFields : Fields → Fields → Type 0 where
    no_members : AreSameFields no_fields no_fields
    member : (name : Text) (d e : Data) (ds es : Fields) → AreSame d e → AreSameFields ds es → AreSameFields (field_and name d ds) (field_and name e es)

-- ---- where raw texts stand

-- no raw text stands in the data
abbrev mutual
  pub is_rawless : Data → Bool
  is_rawless (raw_of t) = false
  is_rawless (some_of d) = is_rawless d
  is_rawless (list_of ds) = are_rawless ds
  is_rawless (tuple_of ds) = are_rawless ds
  is_rawless (tuple_struct_of name ds) = are_rawless ds
  is_rawless (map_of ps) = pairs_rawless ps
  is_rawless (newtype_of name d) = is_rawless d
  is_rawless (struct_of name ds) = fields_rawless ds
  is_rawless (newtype_variant_of name v d) = is_rawless d
  is_rawless (tuple_variant_of name v ds) = are_rawless ds
  is_rawless (struct_variant_of name v ds) = fields_rawless ds
  is_rawless _ = true

  pub are_rawless : Datas → Bool
  are_rawless no_datas = true
  are_rawless (data_and d ds) = is_rawless d && are_rawless ds

  pub pairs_rawless : Pairs → Bool
  pairs_rawless no_pairs = true
  pairs_rawless (pair_and k d ps) = is_rawless k && (is_rawless d && pairs_rawless ps)

  pub fields_rawless : Fields → Bool
  fields_rawless no_fields = true
  fields_rawless (field_and name d ds) = is_rawless d && fields_rawless ds

-- no key of a map holds a raw text
abbrev mutual
  pub has_plain_keys : Data → Bool
  has_plain_keys (some_of d) = has_plain_keys d
  has_plain_keys (list_of ds) = have_plain_keys ds
  has_plain_keys (tuple_of ds) = have_plain_keys ds
  has_plain_keys (tuple_struct_of name ds) = have_plain_keys ds
  has_plain_keys (map_of ps) = pairs_have_plain_keys ps
  has_plain_keys (newtype_of name d) = has_plain_keys d
  has_plain_keys (struct_of name ds) = fields_have_plain_keys ds
  has_plain_keys (newtype_variant_of name v d) = has_plain_keys d
  has_plain_keys (tuple_variant_of name v ds) = have_plain_keys ds
  has_plain_keys (struct_variant_of name v ds) = fields_have_plain_keys ds
  has_plain_keys _ = true

  pub have_plain_keys : Datas → Bool
  have_plain_keys no_datas = true
  have_plain_keys (data_and d ds) = has_plain_keys d && have_plain_keys ds

  pub pairs_have_plain_keys : Pairs → Bool
  pairs_have_plain_keys no_pairs = true
  pairs_have_plain_keys (pair_and k d ps) = is_rawless k && (has_plain_keys d && pairs_have_plain_keys ps)

  pub fields_have_plain_keys : Fields → Bool
  fields_have_plain_keys no_fields = true
  fields_have_plain_keys (field_and name d ds) = has_plain_keys d && fields_have_plain_keys ds

-- ---- what a layout is read back as

-- The same as the normal form, told whether numbers are written with their suffixes, where no key of a map holds a raw text; and equal to it where no raw text
-- stands in the data.
pub record IsReadBackWith (suffixes : Bool) (d e : Data) : Type 0 where
  pub same : has_plain_keys d ≡ true → AreSame e (norm_with suffixes d)
  pub equal : is_rawless d ≡ true → e ≡ norm_with suffixes d

-- where no suffixes are written
abbrev pub IsReadBackAs : Data → Data → Type 0
IsReadBackAs = IsReadBackWith false
