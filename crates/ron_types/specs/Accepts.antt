-- Of which data values are made.
use Rattle.std.specs.Prelude.{◌≡◌, List, Some, None, String, chars, string_bytes}
use Rattle.std.specs.declared.alloc.Global.{Global}
use Rattle.ron_spec_words.specs.Characters.{Text}
use Rattle.ron_value_number.specs.declared.width.Width.{Width}
use Rattle.ron_value_number.specs.Number.{number_width}
use Rattle.ron_lex_text.specs.declared.parsed.ParsedStr.TheVariants.{Slice}
use Rattle.ron_data.specs.declared.data.Data.{Data, out-Data}
use Rattle.ron_data.specs.declared.data.Data.TheOpen.{Data-F, VariantData-F}
use Rattle.ron_data.specs.declared.data.Data.TheVariants as held
use Rattle.ron_data.specs.declared.data.VariantData.{VariantData, out-VariantData}

-- ---- data that holds no other

abbrev pub IsBool : Data → Type 0
IsBool (held.Bool b) = Unit {0}
IsBool d = ⊥

-- a number of this width
abbrev pub IsInt : Width → Data → Type 0
IsInt w (held.Int n) = number_width n ≡ w
IsInt w d = ⊥

abbrev pub IsChar : Data → Type 0
IsChar (held.Char c) = Unit {0}
IsChar d = ⊥

abbrev pub IsText : Data → Type 0
IsText (held.Str t) = Unit {0}
IsText d = ⊥

-- a slice of the text that was read
abbrev pub IsBorrowedText : Data → Type 0
IsBorrowedText (held.Str (Slice s)) = Unit {0}
IsBorrowedText d = ⊥

abbrev pub IsUnit : Data → Type 0
IsUnit held.Unit = Unit {0}
IsUnit d = ⊥

abbrev pub IsAnyValue : Data → Type 0
IsAnyValue (held.Value v) = Unit {0}
IsAnyValue d = ⊥

abbrev pub IsRaw : Data → Type 0
IsRaw (held.Raw r) = Unit {0}
IsRaw d = ⊥

-- ---- data that holds others

abbrev option_step : (Data → Type 0) → Data-F Data VariantData → Type 0
option_step P (Data-F.Option None) = Unit {0}
option_step P (Data-F.Option (Some d)) = P d.value
option_step P d = ⊥

-- an optional value, and where it is there, what it holds is accepted
abbrev pub IsOption : (Data → Type 0) → Data → Type 0
IsOption P d = option_step P (out-Data d)

abbrev list_step : (List Data → Type 0) → Data-F Data VariantData → Type 0
list_step P (Data-F.Seq ds) = P ds.items
list_step P d = ⊥

-- a list whose items are accepted
abbrev pub IsList : (List Data → Type 0) → Data → Type 0
IsList P d = list_step P (out-Data d)

abbrev tuple_step : (List Data → Type 0) → Data-F Data VariantData → Type 0
tuple_step P (Data-F.Data::Tuple ds) = P ds.items
tuple_step P d = ⊥

abbrev pub IsTuple : (List Data → Type 0) → Data → Type 0
IsTuple P d = tuple_step P (out-Data d)

abbrev map_step : (List (Data × Data) → Type 0) → Data-F Data VariantData → Type 0
map_step P (Data-F.Map ps) = P ps.items
map_step P d = ⊥

abbrev pub IsMap : (List (Data × Data) → Type 0) → Data → Type 0
IsMap P d = map_step P (out-Data d)

-- ---- structs, and variants of enums

-- a field of this name, whose data is accepted
abbrev pub IsField : Text → (Data → Type 0) → String Global × Data → Type 0
IsField name P f = (chars (string_bytes f.0) ≡ name) × P f.1

abbrev pub struct_step : Text → (List (String Global × Data) → Type 0) → Data-F Data VariantData → Type 0
struct_step name P (Data-F.Data::Struct found fields) = (chars (string_bytes found) ≡ name) × P fields.items
struct_step name P d = ⊥

-- a struct of this name, whose fields are accepted
abbrev pub IsStruct : Text → (List (String Global × Data) → Type 0) → Data → Type 0
IsStruct name P d = struct_step name P (out-Data d)

abbrev content_unit : VariantData-F Data VariantData → Type 0
content_unit VariantData-F.VariantData::Unit = Unit {0}
content_unit c = ⊥

abbrev content_newtype : (Data → Type 0) → VariantData-F Data VariantData → Type 0
content_newtype P (VariantData-F.VariantData::Newtype d) = P d.value
content_newtype P c = ⊥

abbrev content_tuple : (List Data → Type 0) → VariantData-F Data VariantData → Type 0
content_tuple P (VariantData-F.VariantData::Tuple ds) = P ds.items
content_tuple P c = ⊥

abbrev content_struct : (List (String Global × Data) → Type 0) → VariantData-F Data VariantData → Type 0
content_struct P (VariantData-F.VariantData::Struct fields) = P fields.items
content_struct P c = ⊥

-- what a variant holds: nothing, one value, items, or fields, which are accepted
abbrev pub HoldsNothing : VariantData → Type 0
HoldsNothing c = content_unit (out-VariantData c)

abbrev pub HoldsOne : (Data → Type 0) → VariantData → Type 0
HoldsOne P c = content_newtype P (out-VariantData c)

abbrev pub HoldsItems : (List Data → Type 0) → VariantData → Type 0
HoldsItems P c = content_tuple P (out-VariantData c)

abbrev pub HoldsFields : (List (String Global × Data) → Type 0) → VariantData → Type 0
HoldsFields P c = content_struct P (out-VariantData c)

abbrev variant_step : Text → (Text → VariantData → Type 0) → Data-F Data VariantData → Type 0
variant_step name P (Data-F.Variant found variant content) = (chars (string_bytes found) ≡ name) × P (chars (string_bytes variant)) content
variant_step name P d = ⊥

-- a variant of the enum of this name, which is accepted by its own name and what it holds
abbrev pub IsVariant : Text → (Text → VariantData → Type 0) → Data → Type 0
IsVariant name P d = variant_step name P (out-Data d)
