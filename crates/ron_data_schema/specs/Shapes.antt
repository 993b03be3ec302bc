-- Shapes, as the grammar speaks of them.
use Rattle.std.specs.Prelude.{◌≡◌, ℕ, Bool, true, false, suc, ◌+◌, ◌-◌, ◌^◌, List, map, chars, string_bytes, Option, Some, None, slice_get, IfSome, MatchOption}
use Rattle.std.specs.Prelude.{String}
use Rattle.std.specs.declared.alloc.Global.{Global}
use Rattle.std.specs.Borrow.{Bor}
use Rattle.ron_spec_words.specs.Characters.{Text}
use Rattle.ron_spec_grammar.specs.Schema as plain
use Rattle.ron_spec_grammar.specs.Room.{rank}
use Rattle.ron_data_schema.specs.declared.schema.Shape.{Shape}
use Rattle.ron_data_schema.specs.declared.schema.Shape.TheVariants as shape
use Rattle.ron_data_schema.specs.declared.schema.FieldShape.{FieldShape}
use Rattle.ron_data_schema.specs.declared.schema.FieldList.{FieldList}
use Rattle.ron_data_schema.specs.declared.schema.VariantShape.{VariantShape}
use Rattle.ron_data_schema.specs.declared.schema.VariantShape.TheVariants as variant

-- the text that a name is
abbrev pub text_view : String Global → Text
text_view s = chars (string_bytes s)

-- the field that a schema means
abbrev pub field_view : FieldShape → plain.Field
field_view f = record { name = text_view f.name; aliases = map text_view f.aliases.items; shape = f.shape; may_be_missing = f.may_be_missing }

-- the fields that a schema means, and whether unknown ones are skipped
abbrev pub list_view : FieldList → plain.FieldList
list_view list = record { fields = map field_view list.fields.items; skips_unknown = list.skip_unknown }

-- the struct that a name and a list of fields mean
abbrev pub struct_view : List ℕ → FieldList → plain.Shape
struct_view name list = plain.struct (chars name) (list_view list)

-- what a variant holds, as a schema means it
abbrev pub content_view : VariantShape → plain.VariantShape
content_view variant.Unit = plain.unit_variant
content_view (variant.Newtype j) = plain.newtype_variant j
content_view (variant.Tuple js) = plain.tuple_variant js.items
content_view (variant.Struct list) = plain.struct_variant (list_view list)

-- the variant that a schema means
abbrev pub variant_view : String Global × VariantShape → plain.Variant
variant_view v = record { name = chars (string_bytes v.0); content = content_view v.1 }

-- the enum that a name and a list of variants mean
abbrev pub enum_view : List ℕ → List (String Global × VariantShape) → plain.Shape
enum_view name variants = plain.enum (chars name) (map variant_view variants)

-- the shape that a schema means
abbrev pub shape_view : Shape → plain.Shape
shape_view shape.Bool = plain.bool
shape_view (shape.Int w) = plain.int w
shape_view shape.Char = plain.char
shape_view shape.Str = plain.str
shape_view shape.Bytes = plain.bytes
shape_view shape.Unit = plain.unit
shape_view (shape.Option j) = plain.optional j
shape_view (shape.UnitStruct name) = plain.unit_struct (chars (string_bytes name))
shape_view (shape.Seq j) = plain.seq j
shape_view (shape.Tuple js) = plain.tuple js.items
shape_view (shape.Map k v) = plain.map k v
shape_view (shape.TupleStruct name js) = plain.tuple_struct (chars (string_bytes name)) js.items
shape_view (shape.Newtype name j) = plain.newtype (chars (string_bytes name)) j
shape_view (shape.Struct name list) = struct_view (string_bytes name) list
shape_view (shape.Enum name variants) = enum_view (string_bytes name) variants.items
shape_view shape.Value = plain.any_value
shape_view shape.Raw = plain.any_raw

-- the table, shape by shape
abbrev pub table_view : List Shape → List plain.Shape
table_view shapes = map shape_view shapes

-- the shape at an index of the table, or none where the table has no such index
abbrev pub IsShapeAt : List plain.Shape → ℕ → Option (Bor Shape) → Type 0
IsShapeAt table index found = MatchOption found (slice_get table index ≡ None) (λ s. slice_get table index ≡ Some (shape_view s.now))

-- A chain of options and newtypes is one member longer than that of its content, where a shape holds one.
abbrev pub IsOneLonger : List plain.Shape → ℕ → Option ℕ → Type 0
IsOneLonger table index content = IfSome content (λ j. rank table index ≡ suc (rank table j))

-- ---- shapes that are moved to another place

-- how many indices there are from n on
abbrev pub indices_from : ℕ → ℕ
indices_from n = 2 ^ 64 - n

-- the field, its shape's index moved by n
abbrev pub moved_field : ℕ → plain.Field → plain.Field
moved_field n f = record { name = f.name; aliases = f.aliases; shape = n + f.shape; may_be_missing = f.may_be_missing }

-- the list, its fields' indices moved by n
abbrev pub moved_list : ℕ → plain.FieldList → plain.FieldList
moved_list n list = record { fields = map (moved_field n) list.fields; skips_unknown = list.skips_unknown }

-- what a variant holds, its indices moved by n
abbrev pub moved_content : ℕ → plain.VariantShape → plain.VariantShape
moved_content n plain.unit_variant = plain.unit_variant
moved_content n (plain.newtype_variant j) = plain.newtype_variant (n + j)
moved_content n (plain.tuple_variant js) = plain.tuple_variant (map (λ j. n + j) js)
moved_content n (plain.struct_variant list) = plain.struct_variant (moved_list n list)

-- the variant, its indices moved by n
abbrev pub moved_variant : ℕ → plain.Variant → plain.Variant
moved_variant n v = record { name = v.name; content = moved_content n v.content }

-- the shape, its indices moved by n
abbrev pub moved : ℕ → plain.Shape → plain.Shape
moved n (plain.optional j) = plain.optional (n + j)
moved n (plain.seq j) = plain.seq (n + j)
moved n (plain.tuple js) = plain.tuple (map (λ j. n + j) js)
moved n (plain.tuple_struct name js) = plain.tuple_struct name (map (λ j. n + j) js)
moved n (plain.map k v) = plain.map (n + k) (n + v)
moved n (plain.newtype name j) = plain.newtype name (n + j)
moved n (plain.struct name list) = plain.struct name (moved_list n list)
moved n (plain.enum name variants) = plain.enum name (map (moved_variant n) variants)
moved n s = s

-- a copy of the shape takes no memory: it holds neither a name nor a list
abbrev pub takes_no_memory : plain.Shape → Bool
takes_no_memory (plain.unit_struct name) = false
takes_no_memory (plain.tuple js) = false
takes_no_memory (plain.tuple_struct name js) = false
takes_no_memory (plain.newtype name j) = false
takes_no_memory (plain.struct name list) = false
takes_no_memory (plain.enum name variants) = false
takes_no_memory _ = true
