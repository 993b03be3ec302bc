-- Ranges, and their bytes.
use Rattle.std.specs.Prelude.{Bool, true, false, if◌then◌else◌, Option, Some, None, [], ◌++◌}
use Rattle.ron_spec_words.specs.Characters.{Text}
use Rattle.ron_value_number.specs.declared.number.Number.{Number}
use Rattle.ron_value_number.specs.Number.{number_width, number_value}
use Rattle.ron_spec_layout.specs.Literals.{number_text}
use Rattle.ron_spec_layout.specs.Ranges.{dots_text}
use Rattle.ron_ser.specs.declared.ranges.Range.{Range}

-- a number as an end of a range
abbrev pub end_text : Bool → Number → Text
end_text suffixes n = number_text suffixes (number_width n) (number_value n)

-- the end of a range, which may have none
abbrev pub end_bytes : Bool → Option Number → Text
end_bytes suffixes None = []
end_bytes suffixes (Some n) = end_text suffixes n

-- its start, two points, a `=` where it is closed, and its end
abbrev pub range_bytes : Bool → Range → Text
range_bytes suffixes r = end_bytes suffixes r.start ++ (dots_text r.is_closed ++ end_bytes suffixes r.end)

-- whether ranges of the name are closed, by whether it is the name of such that are not, or of such that are
abbrev pub closed_by : (Bool → Text → Bool) → Text → Option Bool
closed_by is_called name = if is_called false name then Some false else if is_called true name then Some true else None
