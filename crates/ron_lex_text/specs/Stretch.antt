-- Stretches of a text, and the classes of characters that runs are made of.
use Rattle.std.specs.Prelude.{◌≡◌, ℕ, Bool, not, ◌&&◌, ◌||◌, ◌==◌, nat_lt, if◌then◌else◌, [], ◌∷◌, ◌++◌, Option, Some, None}
use Rattle.std.specs.Char.{is_ascii_hexdigit, is_whitespace}
use Rattle.std.specs.List.{list_all}
use Rattle.ron_spec_words.specs.Characters.{Text, is_blank, starts_name, continues_name, in_raw_name, double_quote, hash, backslash, star, slash, colon, space}
use Rattle.ron_spec_words.specs.Name.{is_name_mark}
use Rattle.ron_spec_words.specs.Gap.{in_line}
use Rattle.ron_spec_words.specs.Escape.{in_continuation}
use Rattle.ron_spec_words.specs.Runs.{begins, begins_with}
pub use Rattle.ron_spec_words.specs.Runs.{is_ended}
use Rattle.ron_spec_words.specs.Number.{in_number}
use Rattle.ron_lex_text.specs.declared.text.Class.{Class}
use Rattle.ron_lex_text.specs.declared.text.Class.TheVariants.{Blank, White, Line, NameStart, NameContinue, NameMark, RawName, HexDigit, HexDigits, Hash}
use Rattle.ron_lex_text.specs.declared.text.Class.TheVariants.{Unquoted, Plain, Comment, Continuation}

-- the text ends with rest
pub record IsSuffix (rest text : Text) : Type 0 where
  pub front : Text
  pub is : text ≡ front ++ rest

-- the text ends with rest, and at least a character stands before it
pub record IsProperSuffix (rest text : Text) : Type 0 where
  pub first : ℕ
  pub front : Text
  pub is : text ≡ first ∷ (front ++ rest)

-- the first character, if there is one
abbrev pub first_of : Text → Option ℕ
first_of [] = None
first_of (c ∷ s) = Some c

-- the character is of the class
abbrev pub in_class : Class → ℕ → Bool
in_class Blank c = is_blank c
in_class White c = is_whitespace c
in_class Line c = in_line c
in_class NameStart c = starts_name c
in_class NameContinue c = continues_name c
in_class NameMark c = is_name_mark c
in_class RawName c = in_raw_name c
in_class HexDigit c = is_ascii_hexdigit c
in_class HexDigits c = in_number c
in_class Hash c = c == hash
in_class Unquoted c = not (c == double_quote)
in_class Plain c = not ((c == double_quote) || (c == backslash))
in_class Comment c = not ((c == star) || (c == slash))
in_class Continuation c = in_continuation c

-- the space, U+0020
abbrev pub is_space : ℕ → Bool
is_space c = c == space

-- a character of the class stands at the start of the text
abbrev pub opens_with : Class → Text → Bool
opens_with class = begins (in_class class)

-- a character of ASCII that a plain name goes on with
abbrev pub in_ascii_name : ℕ → Bool
in_ascii_name c = nat_lt c 128 && continues_name c

-- A name of such characters alone stands at the start of the text, with a colon directly behind it.
abbrev pub stands_called : Text → Text → Bool
stands_called name s = list_all in_ascii_name name && begins_with (name ++ colon ∷ []) s

-- what is left of a text behind the characters that it begins with as the name does, as long as they are such ones
abbrev pub parting : Text → Text → Text
parting [] s = s
parting (c ∷ name) [] = []
parting (c ∷ name) (d ∷ s) = if (d == c) && in_ascii_name c then parting name s else d ∷ s
