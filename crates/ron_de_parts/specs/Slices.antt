-- What of a data is a slice of the text that it was read of.
use Rattle.std.specs.Prelude.{◌≡◌, ℕ, Bool, true, false, List, [], ◌∷◌, ◌++◌, Option, Some, None, String, Vec, IfSome}
use Rattle.std.specs.List.{All, flat_map}
use Rattle.std.specs.declared.alloc.Global.{Global}
use Rattle.ron_spec_words.specs.Characters.{Text, left_bracket}
use Rattle.ron_spec_words.specs.Openings.{Leads}
use Rattle.ron_spec_words.specs.Reader.{got}
use Rattle.ron_spec_words.specs.Runs.{is_at}
use Rattle.ron_spec_grammar.specs.Data.{str_of, bytes_of}
use Rattle.ron_spec_grammar.specs.Shapes.Str.{read_str}
use Rattle.ron_spec_grammar.specs.Shapes.Bytes.{read_bytes}
use Rattle.ron_lex_text.specs.Parsed.{parsed_text, is_slice, parsed_bytes, is_byte_slice}
use Rattle.ron_lex.specs.Quoted.{IsSliceUnlessEscaped, StandsBetweenQuotes, StandAsBytes}
use Rattle.ron_lex_text.specs.declared.parsed.ParsedByteStr.{ParsedByteStr}
use Rattle.ron_de_raw.specs.Raw.{raw_text_of, is_borrowed}
use Rattle.ron_data.specs.declared.data.Data.{Data, fold-Data}
use Rattle.ron_data.specs.declared.data.Data.TheOpen.{Data-F, VariantData-F}
use Rattle.ron_data.specs.declared.data.Data.TheVariants.{Str, Bytes, Raw}
use Rattle.ron_data_schema.specs.declared.schema.FieldShape.{FieldShape}
use Rattle.ron_data.specs.declared.slots.Slots.{Slots}
use Rattle.ron_data.specs.Slots.{slots_in}
use Rattle.ron_data.specs.declared.data.VariantData.{VariantData, fold-VariantData}

-- bytes of a list are bytes of their own; those of a byte string are a slice, which stands between its quotes, unless it holds an escape or a continuation
abbrev pub AreSliced : Bool → Text → Text → ParsedByteStr → Type 0
AreSliced true text rest bytes = is_byte_slice bytes ≡ false
AreSliced false text rest bytes =
    IsSliceUnlessEscaped text rest (is_byte_slice bytes) × (is_byte_slice bytes ≡ true → StandAsBytes text rest (parsed_bytes bytes))

-- Of the text up to this rest, a string is a slice, which stands between its quotes, unless it holds an escape or a continuation; likewise a byte string. A raw
-- text is a slice.
abbrev pub IsSliced : Text → Text → Data → Type 0
IsSliced text rest (Str s) = IsSliceUnlessEscaped text rest (is_slice s) × (is_slice s ≡ true → StandsBetweenQuotes text rest (parsed_text s))
IsSliced text rest (Bytes bytes) = AreSliced (is_at left_bracket text) text rest bytes
IsSliced text rest (Raw raw) = is_borrowed raw ≡ true
IsSliced text rest _ = Unit {0}

-- ---- the strings in a data

-- the strings, byte strings and raw texts in a data, of those in its parts
abbrev pub strings_step : Data-F (List Data) (List Data) → List Data
strings_step (Data-F.Str s) = Str s ∷ []
strings_step (Data-F.Bytes bytes) = Bytes bytes ∷ []
strings_step (Data-F.Raw raw) = Raw raw ∷ []
strings_step (Data-F.Option None) = []
strings_step (Data-F.Option (Some value)) = value.value
strings_step (Data-F.Seq items) = flat_map (λ item. item) items.items
strings_step (Data-F.Data::Tuple items) = flat_map (λ item. item) items.items
strings_step (Data-F.Map pairs) = flat_map (λ pair. pair.0 ++ pair.1) pairs.items
strings_step (Data-F.Data::Newtype name value) = value.value
strings_step (Data-F.TupleStruct name items) = flat_map (λ item. item) items.items
strings_step (Data-F.Data::Struct name fields) = flat_map (λ field. field.1) fields.items
strings_step (Data-F.Variant name variant content) = content
strings_step _ = []

-- those in what a variant holds
abbrev pub content_strings_step : VariantData-F (List Data) (List Data) → List Data
content_strings_step VariantData-F.VariantData::Unit = []
content_strings_step (VariantData-F.VariantData::Newtype value) = value.value
content_strings_step (VariantData-F.VariantData::Tuple items) = flat_map (λ item. item) items.items
content_strings_step (VariantData-F.VariantData::Struct fields) = flat_map (λ field. field.1) fields.items

-- the strings and byte strings in a data, however deep, one by one
abbrev pub strings_in : Data → List Data
strings_in = fold-Data (List Data) (List Data) strings_step content_strings_step

-- At this place the grammar reads this string, or these bytes in some room, up to this rest; or this raw text stands there.
abbrev pub IsReadAt : Text → Text → Data → Type 0
IsReadAt place rest (Str s) = read_str false place ≡ got (str_of (parsed_text s)) rest
IsReadAt place rest (Bytes bytes) = (room : ℕ) × (read_bytes room false place ≡ got (bytes_of (parsed_bytes bytes)) rest)
IsReadAt place rest (Raw raw) = place ≡ raw_text_of raw ++ rest
IsReadAt place rest _ = ⊥

-- it is a raw text, which begins in the gap before its value
abbrev pub is_raw : Data → Bool
is_raw (Raw raw) = true
is_raw _ = false

-- A stretch of the text is what the grammar reads as this string or byte string, and of it the string is a slice unless it holds an escape or a continuation.
-- Whole tokens lead to it from this place on, so that it stands within no comment and no other string.
pub record IsSlicedIn (from text : Text) (string : Data) : Type 0 where
  pub front : Text
  pub stretch : Text
  pub rest : Text
  pub split : text ≡ front ++ (stretch ++ rest)
  pub reached : is_raw string ≡ false → Leads from (stretch ++ rest)
  pub is_read : IsReadAt (stretch ++ rest) rest string
  pub is_sliced : IsSliced (stretch ++ rest) rest string

-- Each string and byte string in the data, however deep, is so read in the text from this place on, and so sliced.
abbrev pub StringsAreSliced : Text → Text → Data → Type 0
StringsAreSliced from text d = All (IsSlicedIn from text) (strings_in d)

-- those in each of the items
abbrev pub ItemsAreSliced : Text → Text → Vec Data Global → Type 0
ItemsAreSliced from text items = All (StringsAreSliced from text) items.items

-- those in a slot, if it is filled
abbrev pub SlotIsSliced : Text → Text → Option Data → Type 0
SlotIsSliced from text slot = IfSome slot (StringsAreSliced from text)

-- those in each of the slots
abbrev pub SlotsAreSliced : List FieldShape → Text → Text → Slots → Type 0
SlotsAreSliced fields from text slots = All (SlotIsSliced from text) (slots_in fields slots)

-- those in the data of a field that was read, if it was not skipped
abbrev pub ItemIsSliced : Text → Text → Option (ℕ × Data) → Type 0
ItemIsSliced from text item = IfSome item (λ i. StringsAreSliced from text i.1)

-- those in a field
abbrev pub FieldIsSliced : Text → Text → String Global × Data → Type 0
FieldIsSliced from text field = StringsAreSliced from text field.1

-- those in each of the fields
abbrev pub FieldsAreSliced : Text → Text → Vec (String Global × Data) Global → Type 0
FieldsAreSliced from text fields = All (FieldIsSliced from text) fields.items

-- those in a key and in its value
abbrev pub PairIsSliced : Text → Text → Data × Data → Type 0
PairIsSliced from text pair = StringsAreSliced from text pair.0 × StringsAreSliced from text pair.1

-- those in each of the pairs
abbrev pub PairsAreSliced : Text → Text → Vec (Data × Data) Global → Type 0
PairsAreSliced from text pairs = All (PairIsSliced from text) pairs.items

-- the strings and byte strings in what a variant holds
abbrev pub strings_within : VariantData → List Data
strings_within = fold-VariantData (List Data) (List Data) strings_step content_strings_step

-- each of them is so read and so sliced
abbrev pub ContentIsSliced : Text → Text → VariantData → Type 0
ContentIsSliced from text held = All (IsSlicedIn from text) (strings_within held)
