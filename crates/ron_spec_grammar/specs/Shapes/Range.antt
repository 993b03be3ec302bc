-- Ranges as structs: which numbers they take, and what these make.
--
-- A range takes no level, and its data some. As a struct, data of a range has a depth of its own, which the text as a
-- range doesn't take. So no law says that what is spelled in a room is data no deeper, and depths are spoken of texts
-- alone.
use Rattle.std.specs.Prelude.{Bool, not, ◌&&◌, ◌||◌, if◌then◌else◌, List, [], ◌∷◌, codes, Option, Some, None, option_map, slice_get}
use Rattle.std.specs.Option.{option_and_then}
use Rattle.ron_spec_words.specs.Characters.{Text}
use Rattle.ron_spec_words.specs.Runs.{same_text}
use Rattle.ron_spec_words.specs.Lang.{Lang, Means}
use Rattle.ron_spec_words.specs.Reader.{Reader, means}
use Rattle.ron_spec_words.specs.Number.{Numeral, numeral_value}
use Rattle.ron_spec_words.specs.Range.{Interval, range, NumberOrRange, number_or_range}
use Rattle.ron_value_number.specs.Width.{fits}
use Rattle.ron_spec_grammar.specs.Data.{Data, int_of, value_of, struct_of, unit_struct_of, Fields, no_fields, field_and}
use Rattle.ron_spec_grammar.specs.Schema.{Shape, int, any_value, Field, is_named}
use Rattle.ron_spec_grammar.specs.Rule.{Plain, plain}
use Rattle.ron_spec_grammar.specs.Values.Grammar.{number_tree}

-- A number without a type fills an integer shape in whose width its value lies, whatever its own width, and the shape of values. It fills no other shape.
abbrev pub fill : Option Shape → Numeral → Option Data
fill (Some (int w)) n = option_and_then (λ t. if fits w (numeral_value n) then Some (int_of w (numeral_value n)) else None) (number_tree n)
fill (Some any_value) n = option_map value_of (number_tree n)
fill _ n = None

-- the same of a field's shape
abbrev pub fill_field : List Shape → Field → Numeral → Option Data
fill_field schema f n = fill (slice_get schema f.shape) n

-- the name of a range struct with both ends, with an end alone and with a start alone, by whether a `=` stands behind its range
abbrev pub spans : Bool → Text → Bool
spans closed name = same_text name (if closed then codes "RangeInclusive" else codes "Range")

abbrev pub reaches : Bool → Text → Bool
reaches closed name = same_text name (if closed then codes "RangeToInclusive" else codes "RangeTo")

abbrev pub starts : Bool → Text → Bool
starts closed name = not closed && same_text name (codes "RangeFrom")

-- the field of the start; that of the end, which behind `..=` may be `last`
abbrev pub is_start : Field → Bool
is_start f = is_named (codes "start") f

abbrev pub is_end : Bool → Field → Bool
is_end closed f = is_named (codes "end") f || (closed && is_named (codes "last") f)

-- fields with these data, where each has one
abbrev pub filled_one : Field → Option Data → Option Fields
filled_one f a = option_map (λ d. field_and f.name d no_fields) a

abbrev pub filled_two : Field → Option Data → Field → Option Data → Option Fields
filled_two f a g b = option_and_then (λ d. option_map (λ e. field_and f.name d (field_and g.name e no_fields)) b) a

-- One function from a range to a struct. `range_fields` says of a name, a list of fields and a range which fields it
-- makes, if any; text, reader function and code ask nothing else. A struct whose fields are others makes none, so its
-- only text is the struct form.
--
-- The fields of a range struct, which are its start, its end, or these two in this order, and no others.
abbrev pub range_fields : List Shape → Text → List Field → Interval → Option Fields
range_fields schema name (f ∷ g ∷ []) (range (Some a) closed (Some b)) =
    if spans closed name && (is_start f && is_end closed g) then filled_two f (fill_field schema f a) g (fill_field schema g b) else None
range_fields schema name (f ∷ []) (range (Some a) closed None) = if starts closed name && is_start f then filled_one f (fill_field schema f a) else None
range_fields schema name (f ∷ []) (range None closed (Some b)) = if reaches closed name && is_end closed f then filled_one f (fill_field schema f b) else None
range_fields schema name _ _ = None

-- the struct of this name
abbrev pub range_data : List Shape → Text → List Field → Interval → Option Data
range_data schema name fields s = option_map (struct_of name) (range_fields schema name fields s)

-- `..` alone is the unit struct `RangeFull`.
abbrev pub full_data : Text → Interval → Option Data
full_data name (range None closed None) = if same_text name (codes "RangeFull") then Some (unit_struct_of name) else None
full_data name _ = None

-- a range as text; bare perhaps with the one comma
abbrev pub RangeText : Bool → (Interval → Option Data) → Lang Data
RangeText bare make = Plain bare (Means NumberOrRange make)

-- its reader function
abbrev pub read_range : Bool → (Interval → Option Data) → Reader Data
read_range bare make = plain bare (means number_or_range make)
