-- The message of each error.
--
-- Nine general categories decide what is escaped past ASCII, and no property of graphemes.
--
-- Messages are bytes, escapes are characters. A name is then shown as it is without being encoded anew, while the
-- layout speaks of characters.
use Rattle.std.specs.Prelude.{ℕ, List, [], ◌++◌, ◌==◌, length, if◌then◌else◌, Option, Some, None, String, string_bytes, codes}
use Rattle.std.specs.declared.alloc.Global.{Global}
use Rattle.std.specs.Fmt.{decimal, option_append}
use Rattle.ron_base.specs.Alternatives.{shown, alternatives, in_struct}
use Rattle.ron_base.specs.Escape.{quoted, quoted_char}
use Rattle.ron_base.specs.Fault.{escape_text, schema_text}
use Rattle.ron_base.specs.Place.{span_text}
use Rattle.ron_base.specs.declared.error.Error.{Error}
use Rattle.ron_base.specs.declared.error.Error.TheVariants as error
use Rattle.ron_base.specs.declared.error.SpannedError.{SpannedError}

-- an empty name is that of a struct that has none
abbrev pub named_struct : String Global → List ℕ
named_struct name =
    if length (string_bytes name) == 0 then codes "Expected only opening `(`, no name, for un-nameable struct"
    else codes "Expected opening `(` for struct " ++ shown name

-- how many elements there are
abbrev pub elements : ℕ → List ℕ
elements n = if n == 0 then codes "zero elements" else if n == 1 then codes "one element" else decimal n ++ codes " elements"

-- a variant that its enum has not, with the name of the enum where it is known
abbrev pub unknown_variant : String Global → Option (String Global) → List ℕ
unknown_variant found None = codes "Unexpected enum variant named " ++ shown found
unknown_variant found (Some outer) = codes "Unexpected variant named " ++ (shown found ++ (codes " in enum " ++ shown outer))

-- the text of an error; std says what that of its UTF-8 error is, and nothing is promised of it
abbrev pub message : Error → List ℕ
message error.Fmt = codes "Formatting RON failed"
message (error.Io text) = string_bytes text
message (error.Message text) = string_bytes text
message error.Eof = codes "Unexpected end of RON"
message error.ExpectedArray = codes "Expected opening `[`"
message error.ExpectedArrayEnd = codes "Expected closing `]`"
message error.ExpectedAttribute = codes "Expected an `#![enable(...)]` attribute"
message error.ExpectedAttributeEnd = codes "Expected closing `)]` after the enable attribute"
message error.ExpectedBoolean = codes "Expected boolean"
message error.ExpectedComma = codes "Expected comma"
message error.ExpectedChar = codes "Expected char"
message error.ExpectedByteLiteral = codes "Expected byte literal"
message error.ExpectedFloat = codes "Expected float"
message error.FloatUnderscore = codes "Unexpected underscore in float"
message error.ExpectedInteger = codes "Expected integer"
message error.ExpectedOption = codes "Expected option"
message error.ExpectedOptionEnd = codes "Expected closing `)`"
message error.ExpectedMap = codes "Expected opening `{`"
message error.ExpectedMapColon = codes "Expected colon"
message error.ExpectedMapEnd = codes "Expected closing `}`"
message (error.ExpectedDifferentStructName expected found) = codes "Expected struct " ++ (shown expected ++ (codes " but found " ++ shown found))
message error.ExpectedStructLike = codes "Expected opening `(`"
message (error.ExpectedNamedStructLike name) = named_struct name
message error.ExpectedStructLikeEnd = codes "Expected closing `)`"
message error.ExpectedUnit = codes "Expected unit"
message error.ExpectedString = codes "Expected string"
message error.ExpectedByteString = codes "Expected byte string"
message error.ExpectedStringEnd = codes "Expected end of string"
message error.ExpectedIdentifier = codes "Expected identifier"
message (error.InvalidEscape fault) = escape_text fault
message error.IntegerOutOfBounds = codes "Integer is out of bounds"
message (error.InvalidIntegerDigit digit base) = codes "Invalid digit " ++ (quoted_char digit ++ (codes " for base " ++ (decimal base ++ codes " integers")))
message (error.NoSuchExtension name) = codes "No RON extension named " ++ shown name
message error.UnclosedBlockComment = codes "Unclosed block comment"
message error.UnclosedLineComment = codes "`ron::value::RawValue` cannot end in unclosed line comment, try using a block comment or adding a newline"
message error.UnderscoreAtBeginning = codes "Unexpected leading underscore in a number"
message (error.UnexpectedChar c) = codes "Unexpected char " ++ quoted_char c
message (error.Utf8Error fault) = []
message error.TrailingCharacters = codes "Non-whitespace trailing characters"
message (error.InvalidValueForType expected found) =
    codes "Expected " ++ (string_bytes expected ++ (codes " but found " ++ (string_bytes found ++ codes " instead")))
message (error.ExpectedDifferentLength expected found) =
    codes "Expected " ++ (string_bytes expected ++ (codes " but found " ++ (elements found ++ codes " instead")))
message (error.NoSuchEnumVariant expected found outer) = unknown_variant found outer ++ (codes ", " ++ alternatives (codes "variants") expected.items)
message (error.NoSuchStructField expected found outer) =
    codes "Unexpected field named " ++ (shown found ++ (in_struct outer ++ (codes ", " ++ alternatives (codes "fields") expected.items)))
message (error.MissingStructField field outer) = codes "Unexpected missing field named " ++ (shown field ++ in_struct outer)
message (error.DuplicateStructField field outer) = codes "Unexpected duplicate field named " ++ (shown field ++ in_struct outer)
message (error.InvalidIdentifier name) = codes "Invalid identifier " ++ quoted (string_bytes name)
message (error.SuggestRawIdentifier name) =
    codes "Found invalid std identifier " ++ (quoted (string_bytes name) ++ (codes ", try the raw identifier `r#" ++ (string_bytes name ++ codes "` instead")))
message error.ExpectedRawValue = codes "Expected a `ron::value::RawValue`"
message error.ExceededRecursionLimit =
    codes "Exceeded recursion limit, try increasing `ron::Options::recursion_limit` and using `serde_stacker` to protect against a stack overflow"
message (error.ExpectedStructName name) = codes "Expected the explicit struct name " ++ (shown name ++ codes ", but none was found")
message error.ExpectedRangeSyntax = codes "Expected `..` or `..=` for range syntax"
message error.UnsupportedFloat = codes "Floating-point numbers are not supported"
message error.OutOfMemory = codes "Out of memory"
message error.Failed = codes "An earlier call has failed"
message (error.InvalidSchema fault) = codes "Invalid schema: " ++ schema_text fault

-- the text that is promised of an error
abbrev pub promised : Error → Option (List ℕ)
promised (error.Utf8Error fault) = None
promised e = Some (message e)

-- the span, `: `, the message
abbrev pub spanned_text : SpannedError → Option (List ℕ)
spanned_text e = option_append (Some (span_text e.span ++ codes ": ")) (promised e.code)
