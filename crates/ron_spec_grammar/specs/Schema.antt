-- Schemas: a table of shapes and the index of its root; which are well formed, and which data is of a shape.
use Rattle.std.specs.Prelude.{◌≡◌, ℕ, zero, suc, Bool, true, false, not, ◌&&◌, ◌||◌, codes, if◌then◌else◌, nat_lt, List, [], ◌∷◌, ◌++◌, length, Option, Some}
use Rattle.std.specs.Prelude.{None, option_map, find, slice_get}
use Rattle.std.specs.List.{list_any, list_all}
use Rattle.std.specs.Option.{option_and_then}
use Rattle.ron_spec_words.specs.Characters.{Text}
use Rattle.ron_spec_words.specs.Runs.{same_text}
use Rattle.ron_spec_grammar.specs.Data.{Data, bool_of, int_of, char_of, str_of, bytes_of, the_unit, the_none, some_of, unit_struct_of, list_of, tuple_of}
use Rattle.ron_spec_grammar.specs.Data.{tuple_struct_of, map_of, newtype_of, struct_of, unit_variant_of, newtype_variant_of, tuple_variant_of}
use Rattle.ron_spec_grammar.specs.Data.{struct_variant_of, value_of, raw_of, Datas, no_datas, data_and, Pairs, no_pairs, pair_and, Fields, no_fields, field_and}
use Rattle.ron_value_number.specs.declared.width.Width.{Width}
use Rattle.ron_value_number.specs.Width.{fits}
use Rattle.ron_spec_grammar.specs.Values.Trees.{IsValue}
use Rattle.ron_spec_grammar.specs.Raw.{raw_valid}

-- a field's name, its aliases, which a text may call it too, the index of its shape, and whether it may be missing
pub record Field : Type 0 where
  pub name : Text
  pub aliases : List Text
  pub shape : ℕ
  pub may_be_missing : Bool

-- a field without aliases, which may not be missing
abbrev pub field : Text → ℕ → Field
field name shape = record { name = name; aliases = []; shape = shape; may_be_missing = false }

-- the fields of a struct; where unknown ones are skipped, others may stand among them
pub record FieldList : Type 0 where
  pub fields : List Field
  pub skips_unknown : Bool

-- these fields and no others
abbrev pub only : List Field → FieldList
only fields = record { fields = fields; skips_unknown = false }

-- what stands behind a variant's name: nothing, one shape, shapes, or fields
pub data VariantShape : Type 0 where
  unit_variant : VariantShape
  newtype_variant : ℕ → VariantShape
  tuple_variant : List ℕ → VariantShape
  struct_variant : FieldList → VariantShape

-- a variant's name and what it holds
pub record Variant : Type 0 where
  pub name : Text
  pub content : VariantShape

-- what a place of a text may spell; a number is the index of another shape
pub data Shape : Type 0 where
  bool : Shape
  int : Width → Shape
  char : Shape
  str : Shape
  bytes : Shape
  unit : Shape
  optional : ℕ → Shape
  unit_struct : Text → Shape
  -- a list of one shape, a tuple of shapes, a tuple struct with its name, and a map from one shape to another
  seq : ℕ → Shape
  tuple : List ℕ → Shape
  tuple_struct : Text → List ℕ → Shape
  map : ℕ → ℕ → Shape
  -- a newtype with its name and its content, a struct with its name and fields, and an enum with its name and variants
  newtype : Text → ℕ → Shape
  struct : Text → FieldList → Shape
  enum : Text → List Variant → Shape
  -- a value without a schema
  any_value : Shape
  -- a value as it is spelled, with the gaps around it
  any_raw : Shape

-- the list holds this text
abbrev pub holds_text : Text → List Text → Bool
holds_text t ts = list_any (λ s. same_text s t) ts

-- the field has this name
abbrev pub is_named : Text → Field → Bool
is_named name f = same_text f.name name

-- a text may call the field so: it has this name, or this alias
abbrev pub is_called : Text → Field → Bool
is_called name f = same_text f.name name || holds_text name f.aliases

-- the variant has this name
abbrev pub is_variant : Text → Variant → Bool
is_variant name v = same_text v.name name

-- what the variant of this name holds, if there is one
abbrev pub variant_named : Text → List Variant → Option VariantShape
variant_named name variants = option_map (λ v. v.content) (find (is_variant name) variants)

-- ---- well-formed schemas

-- each index that a variant holds is below n
abbrev pub variant_below : ℕ → VariantShape → Bool
variant_below n unit_variant = true
variant_below n (newtype_variant j) = nat_lt j n
variant_below n (tuple_variant js) = list_all (λ j. nat_lt j n) js
variant_below n (struct_variant list) = list_all (λ f. nat_lt f.shape n) list.fields

-- each index that a shape holds is below n
abbrev pub holds_below : ℕ → Shape → Bool
holds_below n (optional j) = nat_lt j n
holds_below n (newtype name j) = nat_lt j n
holds_below n (seq j) = nat_lt j n
holds_below n (tuple js) = list_all (λ j. nat_lt j n) js
holds_below n (tuple_struct name js) = list_all (λ j. nat_lt j n) js
holds_below n (map k v) = nat_lt k n && nat_lt v n
holds_below n (struct name list) = list_all (λ f. nat_lt f.shape n) list.fields
holds_below n (enum name variants) = list_all (λ v. variant_below n v.content) variants
holds_below n _ = true

-- no index goes past the table
abbrev pub is_in_range : List Shape → ℕ → Bool
is_in_range schema root = nat_lt root (length schema) && list_all (holds_below (length schema)) schema

-- no text stands twice in the list
abbrev pub all_differ : List Text → Bool
all_differ [] = true
all_differ (t ∷ ts) = not (holds_text t ts) && all_differ ts

-- the names of all fields and their aliases
abbrev pub all_names : List Field → List Text
all_names [] = []
all_names (f ∷ fields) = f.name ∷ (f.aliases ++ all_names fields)

-- no name or alias stands twice in the list of fields
abbrev pub names_differ : List Field → Bool
names_differ fields = all_differ (all_names fields)

-- no two variants of the list have one name
abbrev pub variants_differ : List Variant → Bool
variants_differ [] = true
variants_differ (v ∷ variants) = not (list_any (is_variant v.name) variants) && variants_differ variants

-- no name or alias stands twice among a variant's fields
abbrev pub variant_has_distinct_names : VariantShape → Bool
variant_has_distinct_names (struct_variant list) = names_differ list.fields
variant_has_distinct_names _ = true

-- no name or alias stands twice in the shape
abbrev pub has_distinct_names : Shape → Bool
has_distinct_names (struct name list) = names_differ list.fields
has_distinct_names (enum name variants) = variants_differ variants && list_all (λ v. variant_has_distinct_names v.content) variants
has_distinct_names _ = true

-- the names of range structs with fields
abbrev pub range_names : List Text
range_names = codes "Range" ∷ codes "RangeInclusive" ∷ codes "RangeFrom" ∷ codes "RangeTo" ∷ codes "RangeToInclusive" ∷ []

-- no field of a struct with such a name may be missing
abbrev pub has_whole_range : Shape → Bool
has_whole_range (struct name list) = not (list_any (same_text name) range_names) || list_all (λ f. not f.may_be_missing) list.fields
has_whole_range _ = true

-- the shape that an option or a newtype holds: these alone may take a level and no text
abbrev pub content_of : Shape → Option ℕ
content_of (optional j) = Some j
content_of (newtype name j) = Some j
content_of _ = None

-- likewise of the shape at an index, if there is one
abbrev pub content_at : List Shape → ℕ → Option ℕ
content_at schema i = option_and_then content_of (slice_get schema i)

-- The chain of options and newtypes that goes on at an index ends within so many members.
abbrev pub ends_within : List Shape → ℕ → Option ℕ → Bool
ends_within schema n None = true
ends_within schema zero (Some j) = false
ends_within schema (suc n) (Some j) = ends_within schema n (content_at schema j)

-- options and newtypes alone form no cycle: each chain of them ends
abbrev pub has_no_cycle : List Shape → Bool
has_no_cycle schema = list_all (λ s. ends_within schema (length schema) (content_of s)) schema

-- A schema is well formed where its indices lie in its table, options and newtypes alone form no cycle, no name or alias stands twice in a list of fields or
-- variants, and no field of a range struct may be missing.
abbrev pub is_well_formed : List Shape → ℕ → Bool
is_well_formed schema root = is_in_range schema root && (has_no_cycle schema && (list_all has_distinct_names schema && list_all has_whole_range schema))

-- ---- data of a shape

-- the names of fields
abbrev pub names_of : Fields → List Text
names_of no_fields = []
names_of (field_and name d ds) = name ∷ names_of ds

-- The names are those of the fields, in their order; only fields that may be missing are.
abbrev pub in_order : List Field → List Text → Bool
in_order [] [] = true
in_order [] (name ∷ names) = false
in_order (f ∷ fields) [] = f.may_be_missing && in_order fields []
in_order (f ∷ fields) (name ∷ names) = if is_named name f then in_order fields names else f.may_be_missing && in_order fields (name ∷ names)

-- the enum at an index has a variant of this name that holds this
abbrev pub HasVariant : List Shape → ℕ → Text → Text → VariantShape → Type 0
HasVariant schema i name v content = (variants : List Variant) × (slice_get schema i ≡ Some (enum name variants)) × (variant_named v variants ≡ Some content)

-- Data is of the shape at an index: names, widths and lengths are the shape's, each part is of its shape, and a struct's fields stand in the shape's order,
-- where only those that may be missing are.
abbrev mutual
  pub OfShape : List Shape → ℕ → Data → Type 0
  OfShape schema i (bool_of b) = slice_get schema i ≡ Some bool
  OfShape schema i (int_of w n) = (slice_get schema i ≡ Some (int w)) × (fits w n ≡ true)
  OfShape schema i (char_of c) = slice_get schema i ≡ Some char
  OfShape schema i (str_of t) = slice_get schema i ≡ Some str
  OfShape schema i (bytes_of bs) = slice_get schema i ≡ Some bytes
  OfShape schema i the_unit = slice_get schema i ≡ Some unit
  OfShape schema i the_none = (j : ℕ) × (slice_get schema i ≡ Some (optional j))
  OfShape schema i (some_of d) = (j : ℕ) × (slice_get schema i ≡ Some (optional j)) × OfShape schema j d
  OfShape schema i (unit_struct_of name) = slice_get schema i ≡ Some (unit_struct name)
  OfShape schema i (list_of ds) = (j : ℕ) × (slice_get schema i ≡ Some (seq j)) × AllOfShape schema j ds
  OfShape schema i (tuple_of ds) = (js : List ℕ) × (slice_get schema i ≡ Some (tuple js)) × EachOfShape schema js ds
  OfShape schema i (tuple_struct_of name ds) = (js : List ℕ) × (slice_get schema i ≡ Some (tuple_struct name js)) × EachOfShape schema js ds
  OfShape schema i (map_of ps) = (k : ℕ) × (v : ℕ) × (slice_get schema i ≡ Some (map k v)) × PairsOfShape schema k v ps
  OfShape schema i (newtype_of name d) = (j : ℕ) × (slice_get schema i ≡ Some (newtype name j)) × OfShape schema j d
  OfShape schema i (struct_of name ds) =
      (list : FieldList) × (slice_get schema i ≡ Some (struct name list)) × (in_order list.fields (names_of ds) ≡ true) × OfFields schema list.fields ds
  OfShape schema i (unit_variant_of name v) = HasVariant schema i name v unit_variant
  OfShape schema i (newtype_variant_of name v d) = (j : ℕ) × HasVariant schema i name v (newtype_variant j) × OfShape schema j d
  OfShape schema i (tuple_variant_of name v ds) = (js : List ℕ) × HasVariant schema i name v (tuple_variant js) × EachOfShape schema js ds
  OfShape schema i (struct_variant_of name v ds) =
      (list : FieldList) × HasVariant schema i name v (struct_variant list) × (in_order list.fields (names_of ds) ≡ true) × OfFields schema list.fields ds
  OfShape schema i (value_of t) = (slice_get schema i ≡ Some any_value) × IsValue t
  OfShape schema i (raw_of t) = (slice_get schema i ≡ Some any_raw) × (raw_valid t ≡ true)

  -- each item is of the shape
  pub AllOfShape : List Shape → ℕ → Datas → Type 0
  AllOfShape schema j no_datas = Unit {0}
  AllOfShape schema j (data_and d ds) = OfShape schema j d × AllOfShape schema j ds

  -- there is an item of each of the shapes, in order
  pub EachOfShape : List Shape → List ℕ → Datas → Type 0
  EachOfShape schema [] no_datas = Unit {0}
  EachOfShape schema (j ∷ js) (data_and d ds) = OfShape schema j d × EachOfShape schema js ds
  EachOfShape schema [] (data_and d ds) = ⊥
  EachOfShape schema (j ∷ js) no_datas = ⊥

  -- each key is of the first shape, and each value of the second
  pub PairsOfShape : List Shape → ℕ → ℕ → Pairs → Type 0
  PairsOfShape schema k v no_pairs = Unit {0}
  PairsOfShape schema k v (pair_and key d ps) = OfShape schema k key × OfShape schema v d × PairsOfShape schema k v ps

  -- each field is one of the list, with data of its shape
  pub OfFields : List Shape → List Field → Fields → Type 0
  OfFields schema fields no_fields = Unit {0}
  OfFields schema fields (field_and name d ds) = (f : Field) × (find (is_named name) fields ≡ Some f) × OfShape schema f.shape d × OfFields schema fields ds
