-- The view of data, case by case: for each crate that makes or takes apart `Data`.
use Rattle.std.proofs.Common.{◌≡◌, ℕ, Bool, List, [], ◌∷◌, map, chars, string_bytes, rules, Box, Some, None, String, Vec, Global, refl, ap, ◌∙◌}
use Rattle.ron_spec_words.specs.Characters.{Text}
use Rattle.ron_spec_grammar.specs.Data as plain
use Rattle.ron_value_number.specs.declared.number.Number.{Number}
use Rattle.ron_lex_text.specs.declared.parsed.ParsedStr.{ParsedStr}
use Rattle.ron_lex_text.specs.declared.parsed.ParsedByteStr.{ParsedByteStr}
use Rattle.ron_lex_text.specs.Parsed.{parsed_text, parsed_bytes}
use Rattle.ron_data.specs.declared.data.Data.{Data, the_lemmas}
use Rattle.ron_data.specs.declared.data.Data.TheVariants as data_
use Rattle.ron_value_number.specs.Number.{number_width, number_value}
use Rattle.ron_data.specs.declared.any_value.AnyValue.{AnyValue}
use Rattle.ron_data.specs.AnyValue.{held_value}
use Rattle.ron_de_raw.specs.declared.raw.RawValue.{RawValue}
use Rattle.ron_de_raw.specs.Raw.{raw_text_of}
use Rattle.ron_value.specs.View.{tree_of}
use Rattle.ron_data.specs.declared.data.VariantData.{VariantData}
use Rattle.ron_data.specs.declared.data.VariantData.TheVariants as content_
use Rattle.ron_data.specs.Datum.{data_view, content_view, variant_of, no_content, one_of, items_of, named_of, fields_of, fields_view, items_view, pairs_view}

pub view-int : (n : Number) → data_view (data_.Int n) ≡ plain.int_of (number_width n) (number_value n)
view-int n = search (rules, the_lemmas)

pub view-char : (c : ℕ) → data_view (data_.Char c) ≡ plain.char_of c
view-char c = search (rules, the_lemmas)

pub view-str : (t : ParsedStr) → data_view (data_.Str t) ≡ plain.str_of (parsed_text t)
view-str t = search (rules, the_lemmas)

pub view-bytes : (b : ParsedByteStr) → data_view (data_.Bytes b) ≡ plain.bytes_of (parsed_bytes b)
view-bytes b = search (rules, the_lemmas)

-- the fields' data is seen before their names
abbrev pub with_name : String Global × plain.Data → Text × plain.Data
with_name f = (chars (string_bytes f.0), f.1)

abbrev pub with_data : String Global × Data → String Global × plain.Data
with_data f = (f.0, data_view f.1)

abbrev pub fields_in_turn : List (String Global × Data) → plain.Fields
fields_in_turn fs = fields_of (map with_name (map with_data fs))

in_turn : (fs : List (String Global × Data)) → fields_in_turn fs ≡ fields_view fs
in_turn [] = refl
in_turn (f ∷ fs) = ap (plain.field_and (chars (string_bytes f.0)) (data_view f.1)) (in_turn fs)

step : (name : String Global) (fields : Vec (String Global × Data) Global)
    → data_view (data_.Struct name fields) ≡ plain.struct_of (chars (string_bytes name)) (fields_in_turn fields.items)
step name fields = search (rules, the_lemmas)

pub view-struct : (name : String Global) (fields : Vec (String Global × Data) Global)
    → data_view (data_.Struct name fields) ≡ plain.struct_of (chars (string_bytes name)) (fields_view fields.items)
view-struct name fields = step name fields ∙ ap (plain.struct_of (chars (string_bytes name))) (in_turn fields.items)

-- ---- what holds no others

pub view-bool : (b : Bool) → data_view (data_.Bool b) ≡ plain.bool_of b
view-bool b = search (rules, the_lemmas)

pub view-unit : data_view data_.Unit ≡ plain.the_unit
view-unit = search (rules, the_lemmas)

-- ---- items and pairs

pub view-seq : (ds : Vec Data Global) → data_view (data_.Seq ds) ≡ plain.list_of (items_view ds.items)
view-seq ds = search (rules, the_lemmas)

pub view-tuple : (ds : Vec Data Global) → data_view (data_.Tuple ds) ≡ plain.tuple_of (items_view ds.items)
view-tuple ds = search (rules, the_lemmas)

pub view-map : (ps : Vec (Data × Data) Global) → data_view (data_.Map ps) ≡ plain.map_of (pairs_view ps.items)
view-map ps = search (rules, the_lemmas)

-- ---- options, structs without names of fields, and variants

pub view-none : data_view (data_.Option None) ≡ plain.the_none
view-none = search (rules, the_lemmas)

pub view-some : (d : Box Data Global) → data_view (data_.Option (Some d)) ≡ plain.some_of (data_view d.value)
view-some d = search (rules, the_lemmas)

pub view-unit_struct : (name : String Global) → data_view (data_.UnitStruct name) ≡ plain.unit_struct_of (chars (string_bytes name))
view-unit_struct name = search (rules, the_lemmas)

pub view-newtype : (name : String Global) (d : Box Data Global)
    → data_view (data_.Newtype name d) ≡ plain.newtype_of (chars (string_bytes name)) (data_view d.value)
view-newtype name d = search (rules, the_lemmas)

pub view-tuple_struct : (name : String Global) (ds : Vec Data Global)
    → data_view (data_.TupleStruct name ds) ≡ plain.tuple_struct_of (chars (string_bytes name)) (items_view ds.items)
view-tuple_struct name ds = search (rules, the_lemmas)

pub view-variant : (name v : String Global) (content : VariantData)
    → data_view (data_.Variant name v content) ≡ variant_of (chars (string_bytes name)) (chars (string_bytes v)) (content_view content)
view-variant name v content = search (rules, the_lemmas)

pub view-no_content : content_view content_.Unit ≡ no_content
view-no_content = search (rules, the_lemmas)

pub view-one : (d : Box Data Global) → content_view (content_.Newtype d) ≡ one_of (data_view d.value)
view-one d = search (rules, the_lemmas)

pub view-items : (ds : Vec Data Global) → content_view (content_.Tuple ds) ≡ items_of (items_view ds.items)
view-items ds = search (rules, the_lemmas)

named_step : (fields : Vec (String Global × Data) Global) → content_view (content_.Struct fields) ≡ named_of (fields_in_turn fields.items)
named_step fields = search (rules, the_lemmas)

pub view-named : (fields : Vec (String Global × Data) Global) → content_view (content_.Struct fields) ≡ named_of (fields_view fields.items)
view-named fields = named_step fields ∙ ap named_of (in_turn fields.items)

-- ---- values without a schema

pub view-value : (v : AnyValue) → data_view (data_.Value v) ≡ plain.value_of (tree_of (held_value v))
view-value v = search (rules, the_lemmas)

pub view-raw : (r : RawValue) → data_view (data_.Raw r) ≡ plain.raw_of (raw_text_of r)
view-raw r = search (rules, the_lemmas)
