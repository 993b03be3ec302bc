-- What the messages of errors are about, in groups.
use Rattle.std.specs.Prelude.{Bool, true, false}
use Rattle.ron_base.specs.declared.error.Error.{Error}
use Rattle.ron_base.specs.declared.error.Error.TheVariants as error

-- something was expected, and the error holds nothing more
abbrev pub is_expectation : Error → Bool
is_expectation error.ExpectedArray = true
is_expectation error.ExpectedArrayEnd = true
is_expectation error.ExpectedAttribute = true
is_expectation error.ExpectedAttributeEnd = true
is_expectation error.ExpectedBoolean = true
is_expectation error.ExpectedComma = true
is_expectation error.ExpectedChar = true
is_expectation error.ExpectedByteLiteral = true
is_expectation error.ExpectedFloat = true
is_expectation error.ExpectedInteger = true
is_expectation error.ExpectedOption = true
is_expectation error.ExpectedOptionEnd = true
is_expectation error.ExpectedMap = true
is_expectation error.ExpectedMapColon = true
is_expectation error.ExpectedMapEnd = true
is_expectation error.ExpectedStructLike = true
is_expectation error.ExpectedStructLikeEnd = true
is_expectation error.ExpectedUnit = true
is_expectation error.ExpectedString = true
is_expectation error.ExpectedByteString = true
is_expectation error.ExpectedStringEnd = true
is_expectation error.ExpectedIdentifier = true
is_expectation error.ExpectedRawValue = true
is_expectation error.ExpectedRangeSyntax = true
is_expectation _ = false

-- something else went wrong, and the error holds nothing more
abbrev pub is_fault : Error → Bool
is_fault error.Fmt = true
is_fault error.Eof = true
is_fault error.FloatUnderscore = true
is_fault error.IntegerOutOfBounds = true
is_fault error.UnclosedBlockComment = true
is_fault error.UnclosedLineComment = true
is_fault error.UnderscoreAtBeginning = true
is_fault error.TrailingCharacters = true
is_fault error.ExceededRecursionLimit = true
is_fault error.UnsupportedFloat = true
is_fault error.OutOfMemory = true
is_fault error.Failed = true
is_fault _ = false

-- a variant of an enum, or a field of a struct
abbrev pub is_member : Error → Bool
is_member (error.NoSuchEnumVariant expected found outer) = true
is_member (error.NoSuchStructField expected found outer) = true
is_member (error.MissingStructField field outer) = true
is_member (error.DuplicateStructField field outer) = true
is_member _ = false

-- any name
abbrev pub is_named : Error → Bool
is_named (error.ExpectedDifferentStructName expected found) = true
is_named (error.ExpectedNamedStructLike name) = true
is_named (error.ExpectedStructName name) = true
is_named (error.NoSuchExtension name) = true
is_named (error.InvalidIdentifier name) = true
is_named (error.SuggestRawIdentifier name) = true
is_named e = is_member e
