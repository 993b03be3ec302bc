-- What is claimed of fixed words, integers and literals: each is read exactly where it stands.
use Rattle.std.specs.Prelude.{◌≡◌, false, None, encode_utf8_all}
use Rattle.ron_spec_words.specs.Characters.{Text}
use Rattle.ron_spec_words.specs.Lang.{done}
use Rattle.ron_spec_words.specs.Exact.{IsWordReader}
use Rattle.ron_spec_words.specs.Directly.{FixedWord, fixed_word}
use Rattle.ron_spec_words.specs.Number.{Numeral, Number, number}
use Rattle.ron_spec_words.specs.Quoted.{Char, char, Byte, byte, String, string, ByteString, byte_string, holds_escape, BetweenQuotes}
use Rattle.ron_spec_words.specs.AnyInteger.{AnyInteger, any_integer, UntypedInteger, untyped_integer, NumberEnds}
use Rattle.ron_spec_words.specs.Range.{NumberOrRange, number_or_range}

-- A fixed word, such as `true`, is read exactly where it stands.
abbrev pub ReadsFixedWords : Type 0
ReadsFixedWords = (w : Text) → IsWordReader (fixed_word w done) (FixedWord w done)

-- So is an integer, of any base and with any suffix.
abbrev pub ReadsNumbers : Type 0
ReadsNumbers = IsWordReader number Number

-- So is what stands where an integer is wanted, an integer or a byte literal.
abbrev pub ReadsAnyIntegers : Type 0
ReadsAnyIntegers = IsWordReader any_integer AnyInteger

-- So is such a word where no float stands.
abbrev pub ReadsUntypedIntegers : Type 0
ReadsUntypedIntegers = IsWordReader untyped_integer UntypedInteger

-- So is a number without a type, or a range in one of its six forms.
abbrev pub ReadsRanges : Type 0
ReadsRanges = IsWordReader number_or_range NumberOrRange

-- What follows an integer without a suffix does not go on with it.
abbrev pub EndsNumbers : Type 0
EndsNumbers = (t next : Text) (n : Numeral) → Number t next n → n.suffix ≡ None → NumberEnds t next

-- A char literal is read exactly where it stands.
abbrev pub ReadsChars : Type 0
ReadsChars = IsWordReader char Char

-- So is a byte literal.
abbrev pub ReadsBytes : Type 0
ReadsBytes = IsWordReader byte Byte

-- So is a string, quoted or raw.
abbrev pub ReadsStrings : Type 0
ReadsStrings = IsWordReader string String

-- So is a byte string, quoted or raw.
abbrev pub ReadsByteStrings : Type 0
ReadsByteStrings = IsWordReader byte_string ByteString

-- A string that holds neither an escape nor a continuation is what stands between its quotes.
abbrev pub SlicesStrings : Type 0
SlicesStrings = (t next s : Text) → String t next s → holds_escape t ≡ false → BetweenQuotes t s

-- Such a byte string is the UTF-8 of what stands between its quotes.
abbrev pub SlicesByteStrings : Type 0
SlicesByteStrings = (t next bytes : Text) → ByteString t next bytes → holds_escape t ≡ false
    → (content : Text) × BetweenQuotes t content × (encode_utf8_all content ≡ bytes)
