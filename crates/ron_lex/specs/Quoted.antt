-- What a call answers that splits a literal from the start of a text.
use Rattle.std.specs.Prelude.{◌≡◌, ◌⊎◌, ◌==◌, ◌&&◌, not, List, [], ◌∷◌, ◌++◌, ℕ, Bool, true, false, codes, chars, encode_utf8, encode_utf8_all, Result, Ok, Err}
use Rattle.std.specs.declared.string.String.{String}
use Rattle.std.specs.String.{string_bytes}
use denote.Ref.{Bor}
use Rattle.std.specs.Char.{is_ascii_hexdigit}
use Rattle.ron_spec_words.specs.Characters.{Text, double_quote, backslash, right_brace, small_b}
use Rattle.ron_spec_words.specs.Runs.{is_at, begins_with, after_run}
use Rattle.ron_spec_words.specs.Lang.{Lang}
use Rattle.ron_spec_words.specs.Reader.{Got, got, failed, bad, Reader, fail, mark, run, means, pick}
use Rattle.ron_spec_words.specs.Directly.{directly, any_one}
use Rattle.ron_spec_words.specs.Escape.{hex_byte, hex_ascii, unicode_escape, escape, named_character, continuation}
use Rattle.ron_spec_words.specs.Quoted.{pieces, string_piece, itself, string_escape, byte_string_escape, if_no_backslash, if_ascii_no_backslash}
use Rattle.ron_spec_words.specs.Quoted.{opens_continuation, holds_escape, BetweenQuotes}
use Rattle.ron_lex.specs.declared.fault.QuotedError.{QuotedError}
use Rattle.ron_lex.specs.declared.fault.StringRefusal.{StringRefusal}
use Rattle.ron_lex.specs.declared.fault.StringRefusal.TheVariants.{OutOfMemory, Refused}
use Rattle.ron_lex_text.specs.declared.text.Class.TheVariants.{Plain}
use Rattle.ron_lex_text.specs.Stretch.{IsSuffix, in_class}

-- Ok is the value that the answer names, seen by `view`, and what follows it; an Err stands where there is none.
abbrev pub SplitsBy : {V A : Type 0} → (V → A) → Result (V × Bor (List ℕ)) QuotedError → Got A → Type 0
SplitsBy view (Ok p) answer = answer ≡ got (view p.0) (chars p.1.now)
SplitsBy view (Err e) answer = answer ≡ failed bad

-- the same of a value that is seen as it is
abbrev pub Splits : {A : Type 0} → Result (A × Bor (List ℕ)) QuotedError → Got A → Type 0
Splits result answer = SplitsBy (λ a. a) result answer

-- the characters of a slice of the text
abbrev pub characters : Bor (List ℕ) → Text
characters slice = chars slice.now

-- one to six hexadecimal digits that name a character, and `}`
abbrev pub braced_character : Reader ℕ
braced_character = directly (means (run is_ascii_hexdigit is_ascii_hexdigit) named_character) (λ c. mark right_brace c)

-- what stands between the quotes of a char literal
abbrev pub quoted_char : Reader ℕ
quoted_char = pick (is_at backslash) (escape hex_ascii unicode_escape) (means any_one if_no_backslash)

-- what stands between the quotes of a byte literal
abbrev pub quoted_byte : Reader ℕ
quoted_byte = pick (is_at backslash) (escape hex_byte (fail bad)) (means any_one if_ascii_no_backslash)

-- ---- strings

-- the characters of a text of its own
abbrev pub string_chars : {A : Type 0} → String A → Text
string_chars s = chars (string_bytes s)

-- what stands behind a string's opening quote, up to and with the closing one
unfoldable pub string_content : Reader Text
string_content = pieces (string_piece itself string_escape)

-- the same of a byte string
unfoldable pub bytes_content : Reader Text
bytes_content = pieces (string_piece encode_utf8 byte_string_escape)

-- what a backslash begins in a string: a continuation, or an escape
abbrev pub escape_piece : Reader Text → Reader Text
escape_piece e = pick opens_continuation continuation e

-- No continuation stands there, and what opens one is no escape.
abbrev pub NoContinuation : Text → Type 0
NoContinuation s = (opens_continuation s ≡ false) ⊎ ((begins_with (codes "\\\r") s ≡ true) × (continuation s ≡ failed bad))

-- a continuation stands there, and this follows it
abbrev pub Continues : Text → Text → Type 0
Continues s rest = (opens_continuation s ≡ true) × (continuation s ≡ got [] rest)

-- plain characters and a quote behind them
abbrev pub ends_plainly : Text → Bool
ends_plainly s = is_at double_quote (after_run (in_class Plain) s)

-- plain characters and a backslash behind them
abbrev pub opens_escape : Text → Bool
opens_escape s = is_at backslash (after_run (in_class Plain) s)

-- a string begins that holds an escape or a continuation
abbrev pub opens_escaped_string : Text → Bool
opens_escaped_string [] = false
opens_escaped_string (c ∷ s) = (c == double_quote) && opens_escape s

-- such a byte string begins
abbrev pub opens_escaped_bytes : Text → Bool
opens_escaped_bytes [] = false
opens_escaped_bytes (c ∷ s) = (c == small_b) && opens_escaped_string s

-- As `SplitsBy`; want of memory says nothing of the text.
abbrev pub SplitsOrMemory : {V A : Type 0} → (V → A) → Result (V × Bor (List ℕ)) StringRefusal → Got A → Type 0
SplitsOrMemory view (Ok p) answer = answer ≡ got (view p.0) (chars p.1.now)
SplitsOrMemory view (Err OutOfMemory) answer = Unit {0}
SplitsOrMemory view (Err (Refused e)) answer = answer ≡ failed bad

-- The same of a call that goes past what it reads, to this rest.
abbrev pub GivesOrMemory : {V A : Type 0} → (V → A) → Result V StringRefusal → Got A → Text → Type 0
GivesOrMemory view (Ok v) answer rest = answer ≡ got (view v) rest
GivesOrMemory view (Err OutOfMemory) answer rest = Unit {0}
GivesOrMemory view (Err (Refused e)) answer rest = answer ≡ failed bad

-- the stretch at fault, where there is one, ends in the text
abbrev pub EndsIn : StringRefusal → Text → Type 0
EndsIn OutOfMemory text = Unit {0}
EndsIn (Refused e) text = IsSuffix (chars e.rest.now) text

-- Slices: what was read of the text before this rest is a slice exactly where its stretch holds neither an escape nor a
-- continuation.
abbrev pub IsSliceUnlessEscaped : Text → Text → Bool → Type 0
IsSliceUnlessEscaped text rest slice = (stretch : Text) → text ≡ stretch ++ rest → slice ≡ not (holds_escape stretch)

-- the content stands between two quotes in the stretch before this rest
abbrev pub StandsBetweenQuotes : Text → Text → Text → Type 0
StandsBetweenQuotes text rest content = (stretch : Text) → text ≡ stretch ++ rest → BetweenQuotes stretch content

-- what of the language stands at the start of the text holds an escape or a continuation
abbrev pub HoldsEscape : Lang Text → Text → Type 0
HoldsEscape L text = (stretch next content : Text) → text ≡ stretch ++ next → L stretch next content → holds_escape stretch ≡ true

-- the bytes are the UTF-8 of what stands between two quotes in the stretch before this rest
abbrev pub StandAsBytes : Text → Text → Text → Type 0
StandAsBytes text rest bytes = (stretch : Text) → text ≡ stretch ++ rest → (content : Text) × BetweenQuotes stretch content × (encode_utf8_all content ≡ bytes)
