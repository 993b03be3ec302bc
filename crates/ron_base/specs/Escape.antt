-- Escaped texts: what stands for each character between quotation marks.
use Rattle.std.specs.Prelude.{ℕ, Bool, true, false, not, ◌&&◌, ◌||◌, ◌==◌, ◌/◌, ◌%◌, nat_le, List, [], ◌∷◌, ◌++◌, Option, Some, None, if◌then◌else◌, nat_lt}
use Rattle.std.specs.Prelude.{codes, flat_map, chars, encode_utf8_all}
use Rattle.std.specs.Char.{is_ascii_control}
use Rattle.std.specs.Fmt.{digits, digit_glyph}
use Rattle.std.specs.Option.{is_none}
use Rattle.unicode.specs.GeneralCategory.{general_category}
use Rattle.unicode.specs.declared.properties.GeneralCategory.{GeneralCategory}
use Rattle.unicode.specs.declared.properties.GeneralCategory.TheVariants.{Control, Format, PrivateUse, Unassigned, LineSeparator, ParagraphSeparator}
use Rattle.unicode.specs.declared.properties.GeneralCategory.TheVariants.{SpaceSeparator, NonspacingMark, EnclosingMark}
use Rattle.ron_spec_words.specs.Characters.{Text, backslash, carriage_return, double_quote, line_feed, single_quote, small_n, small_r, small_t, tab, zero_digit}
use Rattle.ron_base.specs.declared.escape.Quotes.{Quotes}
use Rattle.ron_base.specs.declared.escape.Quotes.TheVariants.{Both, Double, Single}

-- `'` takes a backslash
abbrev pub escapes_single : Quotes → Bool
escapes_single Both = true
escapes_single Double = false
escapes_single Single = true

-- `"` takes a backslash
abbrev pub escapes_double : Quotes → Bool
escapes_double Both = true
escapes_double Double = true
escapes_double Single = false

-- the letter after the backslash, for a character that has a short escape
unfoldable pub short_escape : Quotes → ℕ → Option ℕ
short_escape quotes c =
    if c == 0 then Some zero_digit
    else if c == tab then Some small_t
    else if c == carriage_return then Some small_r
    else if c == line_feed then Some small_n
    else if c == backslash then Some backslash
    else if c == single_quote then (if escapes_single quotes then Some single_quote else None)
    else if c == double_quote then (if escapes_double quotes then Some double_quote else None)
    else None

-- the categories whose characters do not show by themselves: Cc, Cf, Co, Cn, Zl, Zp, Zs, Mn, Me
abbrev pub does_not_show : GeneralCategory → Bool
does_not_show Control = true
does_not_show Format = true
does_not_show PrivateUse = true
does_not_show Unassigned = true
does_not_show LineSeparator = true
does_not_show ParagraphSeparator = true
does_not_show SpaceSeparator = true
does_not_show NonspacingMark = true
does_not_show EnclosingMark = true
does_not_show _ = false

-- what is escaped by its number: an ASCII control or U+007F, and past ASCII what does not show
unfoldable pub is_hidden : ℕ → Bool
is_hidden c = if nat_lt c 128 then is_ascii_control c else does_not_show (general_category c)

-- `\u{h}`, h in lower case without leading zeros
abbrev pub numbered : ℕ → Text
numbered c = codes "\\u{" ++ (digits 16 false c ++ codes "}")

-- by its short escape where it has one, by its number where it is hidden, and else as it is
abbrev pub escaped_as : ℕ → Option ℕ → Text
escaped_as c (Some letter) = 92 ∷ letter ∷ []
escaped_as c None = if is_hidden c then numbered c else c ∷ []

-- a character as an escaped text shows it
unfoldable pub escaped_char : Quotes → ℕ → Text
escaped_char quotes c = escaped_as c (short_escape quotes c)

-- the character is neither escaped by a letter nor by its number
unfoldable pub stands_as_it_is : Quotes → ℕ → Bool
stands_as_it_is quotes c = is_none (short_escape quotes c) && not (is_hidden c)

-- a text, character by character
abbrev pub escaped : Quotes → Text → Text
escaped quotes text = flat_map (escaped_char quotes) text

-- ---- bytes

-- the ASCII characters that show: 0x20 to 0x7e
abbrev pub is_printed : ℕ → Bool
is_printed b = nat_le 32 b && nat_le b 126

-- what stands after the backslash, for a byte that has a short escape
unfoldable pub short_byte : ℕ → Option ℕ
short_byte b =
    if b == tab then Some small_t
    else if b == carriage_return then Some small_r
    else if b == line_feed then Some small_n
    else if b == single_quote then Some single_quote
    else if b == double_quote then Some double_quote
    else if b == backslash then Some backslash
    else None

-- the byte is printed, and takes no backslash
unfoldable pub byte_stands_as_it_is : ℕ → Bool
byte_stands_as_it_is b = is_none (short_byte b) && is_printed b

-- a byte: `\t`, `\r`, `\n`, `\'`, `\"` and `\\` where it is one of these, 0x20 to 0x7e as it is, any other as `\xhh` in lower case
unfoldable pub escaped_byte : ℕ → Text
escaped_byte b =
    if b == tab then codes "\\t" else
    if b == carriage_return then codes "\\r" else
    if b == line_feed then codes "\\n" else
    if (b == single_quote) || ((b == double_quote) || (b == backslash)) then 92 ∷ b ∷ [] else
    if is_printed b then b ∷ [] else
    codes "\\x" ++ (digit_glyph false (b / 16) ∷ digit_glyph false (b % 16) ∷ [])

-- bytes, each in turn
abbrev pub escaped_bytes : List ℕ → Text
escaped_bytes bs = flat_map escaped_byte bs

-- ---- as messages quote them

-- the bytes of a text as messages quote it: escaped between `"`, with `'` as it is
unfoldable pub quoted : List ℕ → List ℕ
quoted text = codes "\"" ++ (encode_utf8_all (escaped Double (chars text)) ++ codes "\"")

-- the bytes of a character as messages quote it: escaped between `'`, with `"` as it is
unfoldable pub quoted_char : ℕ → List ℕ
quoted_char c = codes "'" ++ (encode_utf8_all (escaped_char Single c) ++ codes "'")
