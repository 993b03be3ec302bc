-- What stands between quotes: characters, bytes, strings and byte strings, and raw ones.
use Rattle.std.specs.Prelude.{◌≡◌, ℕ, zero, suc, Bool, false, ◌&&◌, ◌||◌, ◌==◌, if◌then◌else◌, drop, length, [], ◌∷◌, ◌++◌, codes, encode_utf8, encode_utf8_all}
use Rattle.std.specs.Prelude.{Option, Some, None}
use Rattle.std.specs.Char.{is_ascii}
use Rattle.ron_spec_words.specs.Characters.{Text, single_quote, double_quote, hash, backslash}
use Rattle.ron_spec_words.specs.Runs.{is_at, begins_with}
use Rattle.ron_spec_words.specs.Lang.{Lang, Nothing, Mark, Behind, Means, Or}
use Rattle.ron_spec_words.specs.Reader.{bad, got, failed, Reader, fail, mark, behind, meant, means, pick}
use Rattle.ron_spec_words.specs.Directly.{Directly, AnyOne, directly, any_one}
use Rattle.ron_spec_words.specs.Escape.{HexByte, HexAscii, HexCharacter, UnicodeEscape, Escape, Continuation, hex_byte, hex_ascii, hex_character}
use Rattle.ron_spec_words.specs.Escape.{unicode_escape, escape, continuation}

-- ---- one character

-- `'`, one of these, `'`
abbrev pub SingleQuoted : Lang ℕ → Lang ℕ
SingleQuoted L = Behind single_quote (Directly L (λ c. Mark single_quote c))

-- any character but a backslash
abbrev pub if_no_backslash : ℕ → Option ℕ
if_no_backslash c = if c == backslash then None else Some c

-- any ASCII character but a backslash
abbrev pub if_ascii_no_backslash : ℕ → Option ℕ
if_ascii_no_backslash c = if is_ascii c then if_no_backslash c else None

-- A char literal: one character that is no backslash, or one escape, where `\xHH` gives an ASCII character. So `'''` is the character `'`.
abbrev pub Char : Lang ℕ
Char = SingleQuoted (Or (Escape HexAscii UnicodeEscape) (Means AnyOne if_no_backslash))

-- A byte literal: `b`, and one ASCII character that is no backslash, or one escape other than `\u`.
abbrev pub Byte : Lang ℕ
Byte = Behind 98 (SingleQuoted (Or (Escape HexByte Nothing) (Means AnyOne if_ascii_no_backslash)))

-- ---- strings

-- pieces, one directly behind the other, and a closing quote; what the pieces give is joined
pub data Pieces (P : Lang Text) : Text → Text → Text → Type 0 where
  close : {next : Text} → Pieces P (double_quote ∷ []) next []
  piece : (t u next a b : Text) → P t (u ++ next) a → Pieces P u next b → Pieces P (t ++ u) next (a ++ b)

-- what a character that is neither a quote nor a backslash gives
abbrev pub if_plain : (ℕ → Text) → ℕ → Option Text
if_plain give c = if (c == double_quote) || (c == backslash) then None else Some (give c)

-- a piece: a continuation, an escape, or a plain character
abbrev pub StringPiece : (ℕ → Text) → Lang Text → Lang Text
StringPiece give E = Or Continuation (Or E (Means AnyOne (if_plain give)))

-- the character or byte itself
abbrev pub itself : ℕ → Text
itself c = c ∷ []

-- what a character or byte gives, whichever it is
abbrev pub gives : (ℕ → Text) → ℕ → Option Text
gives give c = Some (give c)

-- An escape in a string gives a character, and one or more `\xHH` in a row give the character whose UTF-8 they are.
abbrev pub StringEscape : Lang Text
StringEscape = Means (Escape HexCharacter UnicodeEscape) (gives itself)

-- An escape in a byte string gives a byte, and `\u` a character's UTF-8.
abbrev pub ByteStringEscape : Lang Text
ByteStringEscape = Or (Means UnicodeEscape (gives encode_utf8)) (Means (Escape HexByte Nothing) (gives itself))

-- `"`, pieces, `"`
abbrev pub QuotedString : Lang Text
QuotedString = Behind double_quote (Pieces (StringPiece itself StringEscape))

-- the same of bytes: a plain character gives its UTF-8
abbrev pub QuotedBytes : Lang Text
QuotedBytes = Behind double_quote (Pieces (StringPiece encode_utf8 ByteStringEscape))

-- ---- raw strings

-- so many `#` in a row
abbrev pub hashes : ℕ → Text
hashes zero = []
hashes (suc n) = hash ∷ hashes n

-- the text, with the ending behind it, holds the ending once, at its end
abbrev pub EndsAlone : Text → Text → Type 0
EndsAlone ending [] = Unit {0}
EndsAlone ending (c ∷ t) = (begins_with ending ((c ∷ t) ++ ending) ≡ false) × EndsAlone ending t

-- hashes, a quote, the text, and the ending, which is a quote and as many hashes
pub record Raw (t next text : Text) : Type 0 where
  pub count : ℕ
  pub same : t ≡ hashes count ++ double_quote ∷ (text ++ double_quote ∷ hashes count)
  pub alone : EndsAlone (double_quote ∷ hashes count) text

-- `r`, and a text between such ends
abbrev pub RawString : Lang Text
RawString = Behind 114 Raw

-- the UTF-8 of a text
abbrev pub utf8 : Text → Option Text
utf8 t = Some (encode_utf8_all t)

-- the same of bytes: the text gives its UTF-8
abbrev pub RawBytes : Lang Text
RawBytes = Behind 114 (Means Raw utf8)

-- ---- whole

-- A string: quoted, or raw behind `r`.
abbrev pub String : Lang Text
String = Or QuotedString RawString

-- A byte string: `b`, and the same of bytes.
abbrev pub ByteString : Lang Text
ByteString = Behind 98 (Or QuotedBytes RawBytes)

-- ---- what is a slice of the text

-- a backslash stands in the text
abbrev pub holds_backslash : Text → Bool
holds_backslash [] = false
holds_backslash (c ∷ t) = (c == backslash) || holds_backslash t

-- A string or byte string holds an escape or a continuation: it is not raw, and a backslash stands in it.
abbrev pub holds_escape : Text → Bool
holds_escape t = (is_at double_quote t || begins_with (codes "b\"") t) && holds_backslash t

-- the content stands in the text between two quotes
pub record BetweenQuotes (t content : Text) : Type 0 where
  pub before : Text
  pub after : Text
  pub split : t ≡ before ++ double_quote ∷ (content ++ double_quote ∷ after)

-- ---- reader functions

abbrev pub single_quoted : Reader ℕ → Reader ℕ
single_quoted r = behind single_quote (directly r (λ c. mark single_quote c))

unfoldable pub char : Reader ℕ
char = single_quoted (pick (is_at backslash) (escape hex_ascii unicode_escape) (means any_one if_no_backslash))

unfoldable pub byte : Reader ℕ
byte = behind 98 (single_quoted (pick (is_at backslash) (escape hex_byte (fail bad)) (means any_one if_ascii_no_backslash)))

-- one text and directly behind it another
abbrev pub append : Text → Text → Option Text
append a b = Some (a ++ b)

-- Pieces up to the closing quote. No text has more pieces than characters, so `fuel` ends it and changes nothing.
abbrev pub pieces_in : Reader Text → ℕ → Reader Text
pieces_in r zero = fail bad
pieces_in r (suc fuel) = pick (is_at double_quote) (mark double_quote []) (directly r (λ a. means (pieces_in r fuel) (append a)))

-- the same with as much fuel as a text can need
abbrev pub pieces : Reader Text → Reader Text
pieces r s = pieces_in r (suc (length s)) s

-- a backslash and directly behind it LF or CR
abbrev pub opens_continuation : Text → Bool
opens_continuation s = begins_with (codes "\\\n") s || begins_with (codes "\\\r") s

abbrev pub string_piece : (ℕ → Text) → Reader Text → Reader Text
string_piece give e = pick opens_continuation continuation (pick (is_at backslash) e (means any_one (if_plain give)))

unfoldable pub string_escape : Reader Text
string_escape = means (escape hex_character unicode_escape) (gives itself)

unfoldable pub byte_string_escape : Reader Text
byte_string_escape = pick (begins_with (codes "\\u")) (means unicode_escape (gives encode_utf8)) (means (escape hex_byte (fail bad)) (gives itself))

unfoldable pub quoted_string : Reader Text
quoted_string = behind double_quote (pieces (string_piece itself string_escape))

unfoldable pub quoted_bytes : Reader Text
quoted_bytes = behind double_quote (pieces (string_piece encode_utf8 byte_string_escape))

-- one more than these
abbrev pub one_more : ℕ → Option ℕ
one_more n = Some (suc n)

-- as many hashes as there are
abbrev pub count_hashes : Reader ℕ
count_hashes [] = got 0 []
count_hashes (c ∷ s) = if c == hash then meant (count_hashes s) one_more else got 0 (c ∷ s)

-- a text with this character before it
abbrev pub with_first : ℕ → Text → Option Text
with_first c t = Some (c ∷ t)

-- the text up to the first place where the ending stands
abbrev pub upto : Text → Reader Text
upto ending [] = failed bad
upto ending (c ∷ s) = if begins_with ending (c ∷ s) then got [] (drop (length ending) (c ∷ s)) else meant (upto ending s) (with_first c)

unfoldable pub raw : Reader Text
raw = directly count_hashes (λ n. behind double_quote (upto (double_quote ∷ hashes n)))

unfoldable pub string : Reader Text
string = pick (is_at double_quote) quoted_string (behind 114 raw)

unfoldable pub byte_string : Reader Text
byte_string = behind 98 (pick (is_at double_quote) quoted_bytes (behind 114 (means raw utf8)))
