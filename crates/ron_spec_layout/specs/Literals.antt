-- Characters, strings and bytes as they are written, between quotes, with escapes, and integers.
use Rattle.std.specs.Prelude.{ℕ, ℤ, Bool, ◌||◌, ◌==◌, if◌then◌else◌, List, ◌∷◌, ◌++◌, codes}
use Rattle.std.specs.Fmt.{signed_decimal}
use Rattle.ron_spec_words.specs.Characters.{Text, single_quote, backslash}
use Rattle.ron_base.specs.Escape.{escaped, escaped_bytes}
use Rattle.ron_base.specs.declared.escape.Quotes.TheVariants.{Both}
use Rattle.ron_value_number.specs.declared.width.Width.{Width}
use Rattle.ron_value_number.specs.Width.{width_word}

-- a character between `'`, with a backslash before a backslash and `'`
abbrev pub written_char : ℕ → Text
written_char c = if (c == backslash) || (c == single_quote) then codes "'\\" ++ (c ∷ codes "'") else codes "'" ++ (c ∷ codes "'")

-- a string between `"`, escaped
abbrev pub written_string : Text → Text
written_string t = codes "\"" ++ (escaped Both t ++ codes "\"")

-- bytes between `b"` and `"`, escaped
abbrev pub written_bytes : List ℕ → Text
written_bytes bs = codes "b\"" ++ (escaped_bytes bs ++ codes "\"")

-- an integer in decimal, with its suffix where numbers take theirs
abbrev pub number_text : Bool → Width → ℤ → Text
number_text suffixes w n = if suffixes then signed_decimal n ++ width_word w else signed_decimal n
