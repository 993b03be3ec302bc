-- Escapes: what a backslash and the characters behind it spell.
use Rattle.std.specs.Prelude.{◌≡◌, ℕ, zero, suc, ◌+◌, ◌*◌, nat_le, Bool, true, ◌&&◌, ◌||◌, ◌==◌, if◌then◌else◌, length, List, [], ◌∷◌, ◌++◌, codes, chars}
use Rattle.std.specs.Prelude.{encode_utf8, Option, Some, None}
use Rattle.std.specs.Char.{is_ascii_hexdigit, is_ascii, digit_value}
use Rattle.std.specs.Str.{is_utf8}
use lib.Utf8.{scalar}
use Rattle.ron_spec_words.specs.Characters.{Text, single_quote, double_quote, backslash, left_brace, right_brace, carriage_return, line_feed, small_n, small_r}
use Rattle.ron_spec_words.specs.Characters.{small_t, small_x, space, tab, zero_digit}
use Rattle.ron_spec_words.specs.Runs.{is_at, begins_with}
use Rattle.ron_spec_words.specs.Lang.{Lang, done, At, Mark, Run, Behind, Means, Or}
use Rattle.ron_spec_words.specs.Reader.{bad, got, Reader, fail, mark, run, behind, means, pick}
use Rattle.ron_spec_words.specs.Directly.{Directly, AnyOne, directly, any_one}
use Rattle.ron_spec_words.specs.Number.{place_value}

-- ---- languages

-- what a backslash and this character mean: `\'`, `\"`, `\\`, `\n`, `\r`, `\t` and `\0`
abbrev pub escape_meaning : ℕ → Option ℕ
escape_meaning c =
    if (c == single_quote) || ((c == double_quote) || (c == backslash)) then Some c else
    if c == small_n then Some line_feed else
    if c == small_r then Some carriage_return else
    if c == small_t then Some tab else
    if c == zero_digit then Some 0 else None

-- a backslash and one such character
abbrev pub PlainEscape : Lang ℕ
PlainEscape = Behind backslash (Means AnyOne escape_meaning)

-- the value of one hexadecimal digit
abbrev pub hex_digit : ℕ → Option ℕ
hex_digit c = if is_ascii_hexdigit c then Some (digit_value c) else None

-- the value of two hexadecimal digits
abbrev pub two_digits : ℕ → ℕ → Option ℕ
two_digits a b = Some (a * 16 + b)

-- `\xHH`: the byte that two hexadecimal digits spell
abbrev pub HexByte : Lang ℕ
HexByte = Behind backslash (Behind 120 (Directly (Means AnyOne hex_digit) (λ a. Means (Means AnyOne hex_digit) (two_digits a))))

-- a byte below 0x80
abbrev pub if_ascii : ℕ → Option ℕ
if_ascii b = if is_ascii b then Some b else None

-- `\xHH` where it spells an ASCII character
abbrev pub HexAscii : Lang ℕ
HexAscii = Means HexByte if_ascii

-- these bytes, each as `\xHH`
abbrev pub HexBytes : Lang (List ℕ)
HexBytes t next [] = t ≡ []
HexBytes t next (b ∷ bs) = Directly (At HexByte b) (λ _ u n _. HexBytes u n bs) t next done

-- A character, by the bytes of its UTF-8, one to four. The UTF-8 of no character begins with that of another, so the shortest run that forms a character is the
-- only one.
abbrev pub HexCharacter : Lang ℕ
HexCharacter t next c = (scalar c ≡ true) × HexBytes t next (encode_utf8 c)

-- the character that one to six hexadecimal digits name
abbrev pub named_character : Text → Option ℕ
named_character t = if nat_le (length t) 6 && scalar (place_value 16 t) then Some (place_value 16 t) else None

-- `\u{H..}`
abbrev pub UnicodeEscape : Lang ℕ
UnicodeEscape =
    Behind backslash (Behind 117 (Behind left_brace (Directly (Means (Run is_ascii_hexdigit is_ascii_hexdigit) named_character) (λ c. Mark right_brace c))))

-- an escape, of these two or a plain one
abbrev pub Escape : Lang ℕ → Lang ℕ → Lang ℕ
Escape Hex Unicode = Or Hex (Or Unicode PlainEscape)

-- LF
abbrev pub is_line_feed : ℕ → Bool
is_line_feed c = c == line_feed

-- space, tab, LF or CR
abbrev pub in_continuation : ℕ → Bool
in_continuation c = (c == space) || ((c == tab) || ((c == line_feed) || (c == carriage_return)))

-- this, whatever was read
abbrev pub always : {A B : Type 0} → B → A → Option B
always b a = Some b

-- A continuation gives nothing: a backslash, LF or CRLF, and all spaces, tabs, LFs and CRs that follow.
abbrev pub Continuation : Lang Text
Continuation = Means (Behind backslash (Or (Behind 13 (Run is_line_feed in_continuation)) (Run is_line_feed in_continuation))) (always [])

-- ---- reader functions

unfoldable pub plain_escape : Reader ℕ
plain_escape = behind backslash (means any_one escape_meaning)

unfoldable pub hex_byte : Reader ℕ
hex_byte = behind backslash (behind small_x (directly (means any_one hex_digit) (λ a. means (means any_one hex_digit) (two_digits a))))

abbrev pub hex_ascii : Reader ℕ
hex_ascii = means hex_byte if_ascii

-- the character of a text of one character
abbrev pub only_one : Text → Option ℕ
only_one [] = None
only_one (c ∷ []) = Some c
only_one (c ∷ d ∷ t) = None

-- the one character whose UTF-8 these bytes are
abbrev pub character_of : List ℕ → Option ℕ
character_of bs = if is_utf8 bs then only_one (chars bs) else None

-- this character, or else what the reader function answers
abbrev pub or_else : Option ℕ → Reader ℕ → Reader ℕ
or_else (Some c) r s = got c s
or_else None r s = r s

-- One `\xHH` after another, until they and the bytes before them are the UTF-8 of a character; so many at most.
abbrev pub hex_bytes : ℕ → List ℕ → Reader ℕ
hex_bytes zero bs = fail bad
hex_bytes (suc n) bs = directly hex_byte (λ b. or_else (character_of (bs ++ b ∷ [])) (hex_bytes n (bs ++ b ∷ [])))

unfoldable pub hex_character : Reader ℕ
hex_character = hex_bytes 4 []

unfoldable pub unicode_escape : Reader ℕ
unicode_escape =
    behind backslash (behind 117 (behind left_brace (directly (means (run is_ascii_hexdigit is_ascii_hexdigit) named_character) (λ c. mark right_brace c))))

abbrev pub escape : Reader ℕ → Reader ℕ → Reader ℕ
escape hex unicode = pick (begins_with (codes "\\x")) hex (pick (begins_with (codes "\\u")) unicode plain_escape)

unfoldable pub continuation : Reader Text
continuation = means
    (behind backslash (pick (is_at carriage_return) (behind carriage_return (run is_line_feed in_continuation)) (run is_line_feed in_continuation))) (always [])
