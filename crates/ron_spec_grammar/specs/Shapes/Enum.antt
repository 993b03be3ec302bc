-- The shape of enums.
use Rattle.std.specs.Prelude.{ℕ, Bool, true, false, List, Option, Some, None, option_map}
use Rattle.ron_spec_words.specs.Characters.{Text, left_parenthesis, right_parenthesis}
use Rattle.ron_spec_words.specs.Lang.{Lang, Nothing, Then, Means, Or, Items, Group, Needs}
use Rattle.ron_spec_words.specs.Reader.{Got, got, failed, Reader, bad, fail, in_sequence, means, pick, items, group, needs}
use Rattle.ron_spec_words.specs.Name.{Name, name}
use Rattle.ron_spec_grammar.specs.Data.{Data, unit_variant_of, newtype_variant_of, tuple_variant_of, struct_variant_of}
use Rattle.ron_spec_grammar.specs.Schema.{Field, Variant, VariantShape, unit_variant, newtype_variant, tuple_variant, struct_variant, variant_named}
use Rattle.ron_spec_grammar.specs.Rule.{Extensions, Langs, Readers, Plain, plain}
use Rattle.ron_spec_grammar.specs.Values.Grammar.{AnyBelow, read_any_below}
use Rattle.ron_spec_grammar.specs.Shapes.Option.{Content, content}
use Rattle.ron_spec_grammar.specs.Shapes.Tuple.{TupleItems, tuple_items}
use Rattle.ron_spec_grammar.specs.Shapes.Struct.{Item, FieldItem, field_item, arranged}

-- ---- variants by their names

-- the variant of this name, where it holds nothing
abbrev pub unit_if : Text → Text → Option VariantShape → Option Data
unit_if enum_name v (Some unit_variant) = Some (unit_variant_of enum_name v)
unit_if enum_name v _ = None

-- the name, where the variant holds something
abbrev pub holding_if : Text → Option VariantShape → Option Text
holding_if v None = None
holding_if v (Some unit_variant) = None
holding_if v (Some content) = Some v

-- the variant holds nothing
abbrev pub is_unit : Option VariantShape → Bool
is_unit (Some unit_variant) = true
is_unit _ = false

-- the name that is read is that of a variant that holds nothing
abbrev pub names_unit : List Variant → Got Text → Bool
names_unit variants (got v rest) = is_unit (variant_named v variants)
names_unit variants (failed f) = false

-- the newtype variant around a value
abbrev pub newtype_variant_data : Text → Text → Data → Option Data
newtype_variant_data enum_name v d = Some (newtype_variant_of enum_name v d)

-- the struct variant, from items in any order
abbrev pub struct_variant_from : Text → Text → List Field → List Item → Option Data
struct_variant_from enum_name v fields xs = option_map (struct_variant_of enum_name v) (arranged fields xs)

-- ---- the text

-- What stands behind a variant's name: the content of a newtype variant, the items of a tuple variant, or the fields of a struct variant, between `(` and `)`.
-- The enum takes one level, and in it the group one and each item one more; a newtype variant's content takes one.
abbrev pub VariantText : Extensions → Text → Text → ℕ → (ℕ → Langs) → Option VariantShape → Lang Data
VariantText x enum_name v room sub None = Nothing
VariantText x enum_name v room sub (Some unit_variant) = Nothing
VariantText x enum_name v room sub (Some (newtype_variant j)) =
    Means (Group left_parenthesis right_parenthesis (Content x.unwrap_variant_newtypes (sub 1) j)) (newtype_variant_data enum_name v)
VariantText x enum_name v room sub (Some (tuple_variant js)) = Group left_parenthesis right_parenthesis (TupleItems (tuple_variant_of enum_name v) js (sub 2))
VariantText x enum_name v room sub (Some (struct_variant list)) = Group left_parenthesis right_parenthesis (λ gap.
    Means (Items (λ seen before. FieldItem list (sub 2) (AnyBelow x.unwrap_variant_newtypes room 2) seen) gap) (struct_variant_from enum_name v list.fields))

-- The name of a variant that holds nothing, or the name of another and what it holds. An enum takes one level, and in it the variant's name one.
abbrev pub EnumText : Extensions → Text → List Variant → ℕ → (ℕ → Langs) → Bool → Lang Data
EnumText x enum_name variants room sub bare =
    Plain bare (Needs 2 room
    (Or (Means Name (λ v. unit_if enum_name v (variant_named v variants)))
    (Then (Means Name (λ v. holding_if v (variant_named v variants))) (λ v _. VariantText x enum_name v room sub (variant_named v variants)))))

-- ---- its reader function

-- what stands behind a variant's name
abbrev pub read_variant : Extensions → Text → Text → ℕ → (ℕ → Readers) → Option VariantShape → Reader Data
read_variant x enum_name v room sub None = fail bad
read_variant x enum_name v room sub (Some unit_variant) = fail bad
read_variant x enum_name v room sub (Some (newtype_variant j)) =
    means (group left_parenthesis right_parenthesis (content x.unwrap_variant_newtypes (sub 1) j)) (newtype_variant_data enum_name v)
read_variant x enum_name v room sub (Some (tuple_variant js)) = group left_parenthesis right_parenthesis (tuple_items (tuple_variant_of enum_name v) js (sub 2))
read_variant x enum_name v room sub (Some (struct_variant list)) = group left_parenthesis right_parenthesis
    (λ gap. means (items (λ seen before. field_item list (sub 2) (read_any_below x.unwrap_variant_newtypes room 2) seen) right_parenthesis gap)
    (struct_variant_from enum_name v list.fields))

-- the enum
abbrev pub read_enum : Extensions → Text → List Variant → ℕ → (ℕ → Readers) → Bool → Reader Data
read_enum x enum_name variants room sub bare =
    plain bare (needs 2 room
    (pick (λ s. names_unit variants (name s)) (means name (λ v. unit_if enum_name v (variant_named v variants)))
    (in_sequence (means name (λ v. holding_if v (variant_named v variants))) (λ v _. read_variant x enum_name v room sub (variant_named v variants)))))
