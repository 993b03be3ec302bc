-- The reader functions of structs, of lists and tuples, of maps, and of lists of bytes from a place within them, and of what stands in a value, for code that
-- reads part by part.
use Rattle.std.specs.Prelude.{ℕ, Bool, true, false, List, [], length, Option, Some, slice_get, option_map, None, find}
use Rattle.ron_spec_words.specs.Characters.{Text, left_parenthesis, right_parenthesis, right_bracket, right_brace}
use Rattle.ron_spec_words.specs.Reader.{Got, got, failed, mark, means, meant, after_gap, and_then, opt_comma, items, group, needs}
use Rattle.ron_spec_words.specs.Name.{name}
use Rattle.ron_spec_words.specs.Turns.{rest_of_group}
use Rattle.ron_spec_grammar.specs.Data.{Data, Datas, Fields, unit_variant_of, tuple_variant_of, struct_variant_of}
use Rattle.ron_spec_grammar.specs.Schema.{FieldList, Shape, Variant, VariantShape, unit_variant, newtype_variant, tuple_variant, struct_variant, is_variant}
use Rattle.ron_spec_grammar.specs.Rule.{Extensions, inside, below}
use Rattle.ron_spec_grammar.specs.Reading.{rule, too_deep, read}
use Rattle.ron_spec_grammar.specs.Values.Grammar.{read_any_below}
use Rattle.ron_spec_grammar.specs.Shapes.Bytes.{byte_item, bytes_data}
use Rattle.ron_spec_grammar.specs.Shapes.Option.{content}
use Rattle.ron_spec_grammar.specs.Shapes.Tuple.{at_shape, tuple_group, as_many, bare_items}
use Rattle.ron_spec_grammar.specs.Shapes.Enum.{newtype_variant_data}
use Rattle.ron_spec_grammar.specs.Shapes.Struct.{Item, arranged, field_item}
use Rattle.ron_spec_grammar.specs.Shapes.Map.{pair_item, map_data}

-- the value of a field of a struct that `room` levels are left for
unfoldable pub read_field_value : Extensions → List Shape → ℕ → ℕ → Text → Text → Got Data
read_field_value x schema room i before s = below (rule x schema) too_deep room 1 false false i before s

-- an item of that struct, behind these
unfoldable pub read_item : Extensions → List Shape → ℕ → FieldList → List Item → Text → Got Item
read_item x schema room list seen s = field_item list (below (rule x schema) too_deep room 1 false) (read_any_below x.unwrap_variant_newtypes room 1) seen s

-- what is made of the fields, from items in any order
abbrev pub with_fields : (Fields → Data) → FieldList → List Item → Option Data
with_fields make list xs = option_map make (arranged list.fields xs)

-- what reading the fields answers, where these items stand before the place; `make` says what the fields make
unfoldable pub read_fields : Extensions → List Shape → ℕ → (Fields → Data) → FieldList → List Item → Text → Text → Got Data
read_fields x schema room make list seen before s =
    rest_of_group (λ seen _. field_item list (below (rule x schema) too_deep room 1 false) (read_any_below x.unwrap_variant_newtypes room 1) seen)
    right_parenthesis (with_fields make list) seen before s

-- the fields behind the opening parenthesis, up to and past the closing one, with the level that they take
unfoldable pub read_fields_inside : Extensions → List Shape → ℕ → (Fields → Data) → FieldList → Text → Text → Got Data
read_fields_inside x schema room make list before s = needs 1 room (read_fields x schema room make list [] before) s

-- the fields between `(` and `)`
unfoldable pub read_field_group : Extensions → List Shape → ℕ → (Fields → Data) → FieldList → Text → Got Data
read_field_group x schema room make list s =
    group left_parenthesis right_parenthesis (λ gap. needs 1 room (means (items (λ seen _. field_item list (below (rule x schema) too_deep room 1 false)
    (read_any_below x.unwrap_variant_newtypes room 1) seen) right_parenthesis gap) (with_fields make list))) s

-- what reading a list of bytes answers, where these bytes stand before the place
unfoldable pub read_bytes_from : ℕ → List ℕ → Text → Text → Got Data
read_bytes_from room seen before s = rest_of_group (λ _ _. byte_item room) right_bracket bytes_data seen before s

-- ---- items of lists and tuples

-- whose turn it is: items of one shape, or one of each of these shapes
pub data Elements : Type 0 where
  of_one : ℕ → Elements
  of_each : List ℕ → Elements

-- the shape of the item behind so many
abbrev pub shape_after : Elements → ℕ → Option ℕ
shape_after (of_one j) n = Some j
shape_after (of_each js) n = slice_get js n

-- the shape of the item behind these
abbrev pub shape_behind : Elements → List Data → Option ℕ
shape_behind es seen = shape_after es (length seen)

-- an item of a list or tuple that `room` levels are left for, behind these
unfoldable pub read_element : Extensions → List Shape → ℕ → Elements → List Data → Text → Text → Got Data
read_element x schema room es seen before s = at_shape (below (rule x schema) too_deep room 1 false) (shape_behind es seen) before s

-- what reading a list or tuple answers, where these items stand before the place; f is what all of them make
unfoldable pub read_elements : Extensions → List Shape → ℕ → Elements → ℕ → (List Data → Option Data) → List Data → Text → Text → Got Data
read_elements x schema room es close f seen before s =
    rest_of_group (λ seen. at_shape (below (rule x schema) too_deep room 1 false) (shape_behind es seen)) close f seen before s

-- a tuple's items between `(` and `)`, and what they make
unfoldable pub read_tuple_group : Extensions → List Shape → ℕ → (Datas → Data) → List ℕ → Text → Got Data
read_tuple_group x schema room make js s = tuple_group make js room (inside (below (rule x schema) too_deep room)) s

-- the items behind the opening parenthesis, up to and past the closing one, with the level that they take
unfoldable pub read_tuple_inside : Extensions → List Shape → ℕ → (Datas → Data) → List ℕ → Text → Text → Got Data
read_tuple_inside x schema room make js before s = needs 1 room (read_elements x schema room (of_each js) right_parenthesis (as_many make js) [] before) s

-- ---- pairs of maps

-- a pair of a map that `room` levels are left for, a key of the shape k and a value of the shape v
unfoldable pub read_pair : Extensions → List Shape → ℕ → ℕ → ℕ → Text → Text → Got (Data × Data)
read_pair x schema room k v before s = pair_item k v (below (rule x schema) too_deep room 1 false) before s

-- what reading the map answers, where these pairs stand before the place
unfoldable pub read_pairs : Extensions → List Shape → ℕ → ℕ → ℕ → List (Data × Data) → Text → Text → Got Data
read_pairs x schema room k v seen before s = rest_of_group (λ _. pair_item k v (below (rule x schema) too_deep room 1 false)) right_brace map_data seen before s

-- ---- what stands in a value that `room` levels are left for

-- the value of a shape, one level deeper
unfoldable pub read_below : Extensions → List Shape → ℕ → ℕ → Text → Text → Got Data
read_below x schema room i before s = below (rule x schema) too_deep room 0 false false i before s

-- What stands between `(` and `)`: bare content where it is unwrapped, else a value and perhaps one comma.
unfoldable pub read_content : Extensions → List Shape → ℕ → Bool → ℕ → Text → Got Data
read_content x schema room unwrap i s = group left_parenthesis right_parenthesis (content unwrap (below (rule x schema) too_deep room 0 false) i) s

-- ---- bare content, up to and past its closing bracket

-- a value with perhaps a comma behind it
unfoldable pub read_closed : Extensions → List Shape → ℕ → ℕ → Text → Text → Got Data
read_closed x schema room i before s = and_then (and_then (read x schema room false i before s) (λ d _. opt_comma d)) (λ d _. mark right_parenthesis d)

-- of the shape at an index
unfoldable pub read_bare : Extensions → List Shape → ℕ → ℕ → Text → Text → Got Data
read_bare x schema room i before s = and_then (read x schema room true i before s) (λ d _. mark right_parenthesis d)

-- the same, one level deeper
unfoldable pub read_bare_below : Extensions → List Shape → ℕ → ℕ → Text → Text → Got Data
read_bare_below x schema room i before s = and_then (below (rule x schema) too_deep room 0 false true i before s) (λ d _. mark right_parenthesis d)

-- a tuple's items, and what they make
unfoldable pub read_bare_items : Extensions → List Shape → ℕ → (Datas → Data) → List ℕ → Text → Text → Got Data
read_bare_items x schema room make js before s =
    and_then (needs 1 room (bare_items make js (below (rule x schema) too_deep room 1 false) before) s) (λ d _. mark right_parenthesis d)

-- ---- what a variant of an enum holds

-- the variant of this name, and what follows the name
abbrev pub variant_got : List Variant → Got Text → Option (Variant × Text)
variant_got variants (got v rest) = option_map (λ variant. (variant, rest)) (find (is_variant v) variants)
variant_got variants (failed fault) = None

-- the variant whose name stands here, and what follows the name
abbrev pub variant_at : List Variant → Text → Option (Variant × Text)
variant_at variants s = variant_got variants (name s)

-- what stands behind a variant's name, where so many levels are left in its enum: nothing, or a gap and what the variant holds
unfoldable pub read_variant_content : Extensions → List Shape → ℕ → Text → Text → VariantShape → Text → Got Data
read_variant_content x schema room enum_name v unit_variant s = got (unit_variant_of enum_name v) s
read_variant_content x schema room enum_name v (newtype_variant j) s =
    after_gap (λ _ s. meant (read_content x schema room x.unwrap_variant_newtypes j s) (newtype_variant_data enum_name v)) s
read_variant_content x schema room enum_name v (tuple_variant js) s = after_gap (λ _. read_tuple_group x schema room (tuple_variant_of enum_name v) js) s
read_variant_content x schema room enum_name v (struct_variant list) s = after_gap (λ _. read_field_group x schema room (struct_variant_of enum_name v) list) s
