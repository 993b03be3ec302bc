-- Data as a range: a struct of a range name whose fields are just its bounds, which are all numbers, and `RangeFull`.
use Rattle.std.specs.Prelude.{Bool, true, false, ◌&&◌, if◌then◌else◌, [], ◌++◌, codes, Option, Some, None, option_map}
use Rattle.std.specs.Option.{option_and_then, option_or}
use Rattle.ron_spec_words.specs.Characters.{Text}
use Rattle.ron_spec_words.specs.Runs.{same_text}
use Rattle.ron_value.specs.Tree as tree
use Rattle.ron_spec_grammar.specs.Data.{Data, int_of, unit_struct_of, struct_of, value_of, Fields, no_fields, field_and}
use Rattle.ron_spec_grammar.specs.Shapes.Range.{spans, reaches, starts}
use Rattle.ron_spec_layout.specs.Literals.{number_text}
use Rattle.ron_spec_layout.specs.Config.{Config}

-- data that a range may hold is an integer, or a value that is a number
abbrev pub bound_text : Bool → Data → Option Text
bound_text suffixes (int_of w n) = Some (number_text suffixes w n)
bound_text suffixes (value_of (tree.number w n)) = Some (number_text suffixes w n)
bound_text suffixes _ = None

-- two points, and a `=` behind them where the range is closed
abbrev pub dots_text : Bool → Text
dots_text closed = if closed then codes "..=" else codes ".."

-- a text, the points and a text, where both are there
abbrev pub around_dots : Bool → Option Text → Option Text → Option Text
around_dots closed a b = option_and_then (λ s. option_map (λ t. s ++ (dots_text closed ++ t)) b) a

-- the text of a range struct's fields, closed or not: `start` and `end`, in this order, or the one that there is
abbrev pub fields_range : Bool → Bool → Text → Fields → Option Text
fields_range suffixes closed name (field_and a d (field_and b e no_fields)) = if spans closed name && (same_text a (codes "start") && same_text b (codes "end"))
    then around_dots closed (bound_text suffixes d) (bound_text suffixes e) else None
fields_range suffixes closed name (field_and a d no_fields) =
    if starts closed name && same_text a (codes "start") then around_dots closed (bound_text suffixes d) (Some []) else
    if reaches closed name && same_text a (codes "end") then around_dots closed (Some []) (bound_text suffixes d) else None
fields_range suffixes closed name _ = None

-- the text of data as a range, if it is one
abbrev pub range_text : Bool → Data → Option Text
range_text suffixes (struct_of name fields) = option_or (fields_range suffixes false name fields) (fields_range suffixes true name fields)
range_text suffixes (unit_struct_of name) = if same_text name (codes "RangeFull") then Some (codes "..") else None
range_text suffixes _ = None

-- the text of data as a range, where a configuration asks for ranges to be compact
abbrev pub compact_range : Config → Data → Option Text
compact_range c d = if c.compact_ranges then range_text c.number_suffixes d else None
