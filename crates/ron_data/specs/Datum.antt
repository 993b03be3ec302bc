-- Data, as the grammar speaks of it.
use Rattle.std.specs.Prelude.{List, [], ◌∷◌, map, chars, Some, None, String, string_bytes}
use Rattle.std.specs.declared.alloc.Global.{Global}
use Rattle.ron_spec_words.specs.Characters.{Text}
use Rattle.ron_spec_grammar.specs.Data as plain
use Rattle.ron_data.specs.declared.data.Data.{Data, fold-Data}
use Rattle.ron_data.specs.declared.data.Data.TheOpen.{Data-F, VariantData-F}
use Rattle.ron_data.specs.declared.data.VariantData.{VariantData, fold-VariantData}
use Rattle.ron_lex_text.specs.Parsed.{parsed_text, parsed_bytes}
use Rattle.ron_value_number.specs.Number.{number_width, number_value}
use Rattle.ron_value.specs.View.{tree_of}
use Rattle.ron_data.specs.AnyValue.{held_value}
use Rattle.ron_de_raw.specs.Raw.{raw_text_of}

-- fields, by name and data
abbrev pub fields_of : List (Text × plain.Data) → plain.Fields
fields_of [] = plain.no_fields
fields_of (f ∷ fs) = plain.field_and f.0 f.1 (fields_of fs)

-- pairs, by key and value
abbrev pub pairs_of : List (plain.Data × plain.Data) → plain.Pairs
pairs_of [] = plain.no_pairs
pairs_of (p ∷ ps) = plain.pair_and p.0 p.1 (pairs_of ps)

-- what a variant holds
pub data Content : Type 0 where
  no_content : Content
  one_of : plain.Data → Content
  items_of : plain.Datas → Content
  named_of : plain.Fields → Content

-- a variant of an enum, by their names and what it holds
abbrev pub variant_of : Text → Text → Content → plain.Data
variant_of name v no_content = plain.unit_variant_of name v
variant_of name v (one_of d) = plain.newtype_variant_of name v d
variant_of name v (items_of ds) = plain.tuple_variant_of name v ds
variant_of name v (named_of fields) = plain.struct_variant_of name v fields

-- fields whose data is seen already
abbrev pub seen_fields : List (String Global × plain.Data) → plain.Fields
seen_fields fields = fields_of (map (λ f. (chars (string_bytes f.0), f.1)) fields)

-- data whose parts are seen already
abbrev pub view_step : Data-F plain.Data Content → plain.Data
view_step (Data-F.Bool b) = plain.bool_of b
view_step (Data-F.Int n) = plain.int_of (number_width n) (number_value n)
view_step (Data-F.Char c) = plain.char_of c
view_step (Data-F.Str t) = plain.str_of (parsed_text t)
view_step (Data-F.Bytes b) = plain.bytes_of (parsed_bytes b)
view_step Data-F.Data::Unit = plain.the_unit
view_step (Data-F.Option None) = plain.the_none
view_step (Data-F.Option (Some d)) = plain.some_of d.value
view_step (Data-F.Seq ds) = plain.list_of (plain.datas ds.items)
view_step (Data-F.Data::Tuple ds) = plain.tuple_of (plain.datas ds.items)
view_step (Data-F.Map ps) = plain.map_of (pairs_of ps.items)
view_step (Data-F.UnitStruct name) = plain.unit_struct_of (chars (string_bytes name))
view_step (Data-F.Data::Newtype name d) = plain.newtype_of (chars (string_bytes name)) d.value
view_step (Data-F.TupleStruct name ds) = plain.tuple_struct_of (chars (string_bytes name)) (plain.datas ds.items)
view_step (Data-F.Data::Struct name fields) = plain.struct_of (chars (string_bytes name)) (seen_fields fields.items)
view_step (Data-F.Variant name v content) = variant_of (chars (string_bytes name)) (chars (string_bytes v)) content
view_step (Data-F.Value v) = plain.value_of (tree_of (held_value v))
view_step (Data-F.Raw r) = plain.raw_of (raw_text_of r)

-- what a variant holds, its parts seen already
abbrev pub content_step : VariantData-F plain.Data Content → Content
content_step VariantData-F.VariantData::Unit = no_content
content_step (VariantData-F.VariantData::Newtype d) = one_of d.value
content_step (VariantData-F.VariantData::Tuple ds) = items_of (plain.datas ds.items)
content_step (VariantData-F.VariantData::Struct fields) = named_of (seen_fields fields.items)

-- the tree that data stands for
abbrev pub data_view : Data → plain.Data
data_view = fold-Data plain.Data Content view_step content_step

-- what a variant's content stands for
abbrev pub content_view : VariantData → Content
content_view = fold-VariantData plain.Data Content view_step content_step

-- a field's name and data
abbrev pub named_view : String Global × Data → Text × plain.Data
named_view f = (chars (string_bytes f.0), data_view f.1)

-- the fields of a struct
abbrev pub fields_view : List (String Global × Data) → plain.Fields
fields_view fs = fields_of (map named_view fs)

-- the items of a list or a tuple
abbrev pub items_view : List Data → plain.Datas
items_view ds = plain.datas (map data_view ds)

-- a key and its value
abbrev pub pair_view : Data × Data → plain.Data × plain.Data
pair_view p = (data_view p.0, data_view p.1)

-- the pairs of a map
abbrev pub pairs_view : List (Data × Data) → plain.Pairs
pairs_view ps = pairs_of (map pair_view ps)
