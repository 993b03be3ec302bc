-- Data of a shape has the shape's outline: for the types that accept data by its case alone.
use Rattle.std.proofs.Common.{◌≡◌, ℕ, List, [], Some, None, slice_get, chars, string_bytes, refl, ap, subst, ◌∙◌}
use Rattle.ron_spec_grammar.specs.Data as plain
use Rattle.ron_spec_grammar.specs.Schema.{Shape, bool, int, char, str, bytes, unit, optional, unit_struct, seq, tuple, tuple_struct, map, newtype, struct, enum}
use Rattle.ron_spec_grammar.specs.Schema.{any_value, any_raw, only, OfShape}
use Rattle.ron_value_number.specs.Number.{number_width}
use Rattle.ron_data.specs.declared.data.Data.{Data, out-Data}
use Rattle.ron_data.specs.declared.data.Data.TheOpen.{Data-F}
use Rattle.ron_data.specs.declared.data.Data.TheFolds.{map-Data, fold_out-Data}
use Rattle.ron_data.specs.declared.data.VariantData.{VariantData}
use Rattle.ron_data.specs.Datum.{Content, no_content, one_of, items_of, named_of, variant_of, view_step, content_step, data_view, content_view}
use Rattle.ron_data_schema.specs.Table.{Table}
use Rattle.ron_types.specs.OfTables.{IsOf}
use Rattle.ron_types.specs.Laws.{AcceptsAll, IsFormed}

-- a shape without what it holds
abbrev pub outline : Shape → Shape
outline (optional j) = optional 0
outline (seq j) = seq 0
outline (tuple js) = tuple []
outline (tuple_struct name js) = tuple_struct name []
outline (map k v) = map 0 0
outline (newtype name j) = newtype name 0
outline (struct name list) = struct name (only [])
outline (enum name variants) = enum name []
outline s = s

-- that of the shapes that data may be of
abbrev pub outline_of : plain.Data → Shape
outline_of (plain.bool_of b) = bool
outline_of (plain.int_of w n) = int w
outline_of (plain.char_of c) = char
outline_of (plain.str_of t) = str
outline_of (plain.bytes_of bs) = bytes
outline_of plain.the_unit = unit
outline_of plain.the_none = optional 0
outline_of (plain.some_of d) = optional 0
outline_of (plain.unit_struct_of name) = unit_struct name
outline_of (plain.list_of ds) = seq 0
outline_of (plain.tuple_of ds) = tuple []
outline_of (plain.tuple_struct_of name ds) = tuple_struct name []
outline_of (plain.map_of ps) = map 0 0
outline_of (plain.newtype_of name d) = newtype name 0
outline_of (plain.struct_of name ds) = struct name (only [])
outline_of (plain.unit_variant_of name v) = enum name []
outline_of (plain.newtype_variant_of name v d) = enum name []
outline_of (plain.tuple_variant_of name v ds) = enum name []
outline_of (plain.struct_variant_of name v ds) = enum name []
outline_of (plain.value_of t) = any_value
outline_of (plain.raw_of t) = any_raw

-- that of data of code
abbrev pub outline_in : Data-F Data VariantData → Shape
outline_in (Data-F.Bool b) = bool
outline_in (Data-F.Int n) = int (number_width n)
outline_in (Data-F.Char c) = char
outline_in (Data-F.Str t) = str
outline_in (Data-F.Bytes b) = bytes
outline_in Data-F.Data::Unit = unit
outline_in (Data-F.Option o) = optional 0
outline_in (Data-F.Seq ds) = seq 0
outline_in (Data-F.Data::Tuple ds) = tuple []
outline_in (Data-F.Map ps) = map 0 0
outline_in (Data-F.UnitStruct name) = unit_struct (chars (string_bytes name))
outline_in (Data-F.Data::Newtype name d) = newtype (chars (string_bytes name)) 0
outline_in (Data-F.TupleStruct name ds) = tuple_struct (chars (string_bytes name)) []
outline_in (Data-F.Data::Struct name fields) = struct (chars (string_bytes name)) (only [])
outline_in (Data-F.Variant name v content) = enum (chars (string_bytes name)) []
outline_in (Data-F.Value v) = any_value
outline_in (Data-F.Raw r) = any_raw

same_shape : (schema : List Shape) (i : ℕ) (s t : Shape) → slice_get schema i ≡ Some s → slice_get schema i ≡ Some t → outline s ≡ outline t
same_shape schema i s t at h = let same : s ≡ t = cc in ap outline same

-- what stands where the data is of has its outline
outlined : (schema : List Shape) (i : ℕ) (s : Shape) → slice_get schema i ≡ Some s → (d : plain.Data) → OfShape schema i d → outline s ≡ outline_of d
outlined schema i s at (plain.bool_of b) h = same_shape schema i s bool at h
outlined schema i s at (plain.int_of w n) h = same_shape schema i s (int w) at h.0
outlined schema i s at (plain.char_of c) h = same_shape schema i s char at h
outlined schema i s at (plain.str_of t) h = same_shape schema i s str at h
outlined schema i s at (plain.bytes_of bs) h = same_shape schema i s bytes at h
outlined schema i s at plain.the_unit h = same_shape schema i s unit at h
outlined schema i s at plain.the_none h = same_shape schema i s (optional h.0) at h.1
outlined schema i s at (plain.some_of d) h = same_shape schema i s (optional h.0) at h.1
outlined schema i s at (plain.unit_struct_of name) h = same_shape schema i s (unit_struct name) at h
outlined schema i s at (plain.list_of ds) h = same_shape schema i s (seq h.0) at h.1
outlined schema i s at (plain.tuple_of ds) h = same_shape schema i s (tuple h.0) at h.1
outlined schema i s at (plain.tuple_struct_of name ds) h = same_shape schema i s (tuple_struct name h.0) at h.1
outlined schema i s at (plain.map_of ps) h = same_shape schema i s (map h.0 h.1) at h.2
outlined schema i s at (plain.newtype_of name d) h = same_shape schema i s (newtype name h.0) at h.1
outlined schema i s at (plain.struct_of name ds) h = same_shape schema i s (struct name h.0) at h.1
outlined schema i s at (plain.unit_variant_of name v) h = same_shape schema i s (enum name h.0) at h.1
outlined schema i s at (plain.newtype_variant_of name v d) h = same_shape schema i s (enum name h.1.0) at h.1.1
outlined schema i s at (plain.tuple_variant_of name v ds) h = same_shape schema i s (enum name h.1.0) at h.1.1
outlined schema i s at (plain.struct_variant_of name v ds) h = same_shape schema i s (enum name h.1.0) at h.1.1
outlined schema i s at (plain.value_of t) h = same_shape schema i s any_value at h.0
outlined schema i s at (plain.raw_of t) h = same_shape schema i s any_raw at h.0

-- one level of data of code, as the grammar speaks of it
abbrev pub seen : Data-F Data VariantData → plain.Data
seen o = view_step (map-Data Data VariantData plain.Data Content data_view content_view o)

data_seen : (d : Data) → data_view d ≡ seen (out-Data d)
data_seen d = fold_out-Data plain.Data Content view_step content_step d

seen_outline : (o : Data-F Data VariantData) → outline_of (seen o) ≡ outline_in o
seen_outline (Data-F.Bool b) = refl
seen_outline (Data-F.Int n) = refl
seen_outline (Data-F.Char c) = refl
seen_outline (Data-F.Str t) = refl
seen_outline (Data-F.Bytes b) = refl
seen_outline Data-F.Data::Unit = refl
seen_outline (Data-F.Option None) = refl
seen_outline (Data-F.Option (Some d)) = refl
seen_outline (Data-F.Seq ds) = refl
seen_outline (Data-F.Data::Tuple ds) = refl
seen_outline (Data-F.Map ps) = refl
seen_outline (Data-F.UnitStruct name) = refl
seen_outline (Data-F.Data::Newtype name d) = refl
seen_outline (Data-F.TupleStruct name ds) = refl
seen_outline (Data-F.Data::Struct name fields) = refl
seen_outline (Data-F.Variant name v content) = go (content_view content)
  where
    go : (c : Content) → outline_of (variant_of (chars (string_bytes name)) (chars (string_bytes v)) c) ≡ enum (chars (string_bytes name)) []
    go no_content = refl
    go (one_of d) = refl
    go (items_of ds) = refl
    go (named_of fs) = refl
seen_outline (Data-F.Value v) = refl
seen_outline (Data-F.Raw r) = refl

-- A well-formed table, whose data is accepted, level by level, where it has the outline of the shape at its root.
pub whole_accepts : (t : Table) (s : Shape) (P : Data → Type 0) → IsFormed t → slice_get t.shapes t.root ≡ Some s
    → ((d : Data) (o : Data-F Data VariantData) → out-Data d ≡ o → outline s ≡ outline_in o → IsOf t (seen o) → P d) → AcceptsAll t P
whole_accepts t s P formed at step = record {
  formed = formed;
  accepted = λ d h.
      let seen_of : IsOf t (seen (out-Data d)) = subst (IsOf t) (data_seen d) h in
      step d (out-Data d) refl (outlined t.shapes t.root s at (seen (out-Data d)) seen_of ∙ seen_outline (out-Data d)) seen_of;
}
