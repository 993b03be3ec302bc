-- The pieces of strings and byte strings that a backslash begins, and the plain characters between them: for what both push.
use Rattle.std.specs.Prelude.{◌==◌, Result, Ok, Err, IfOk, OnOk, is_ok, if◌then◌else◌, flat_map}
use Rattle.std.proofs.Common.{◌≡◌, inl, inr, ℕ, Bool, true, false, ◌&&◌, cond, List, [], ◌∷◌, ◌++◌, codes, chars, IsUtf8, Option, Some, None, unwrap_or}
use Rattle.std.proofs.Common.{MatchOption, refl, sym, ap, ◌∙◌, append-nil, eqb-true}
use denote.Ref.{Bor}
use Rattle.std.specs.Char.{encode_utf8, IsScalar}
use Rattle.std.specs.declared.string.String.{String}
use Rattle.std.specs.String.{string_bytes}
use Rattle.std.proofs.lemmas.Str.{chars-nil, chars-append, chars_past_char, IsUtf8-encode, IsUtf8-string_bytes}
use Rattle.ron_spec_words.specs.Characters.{Text}
use Rattle.ron_spec_words.specs.Runs.{is_at, begins_with, after_run}
use Rattle.ron_spec_words.specs.Reader.{bad, got, failed, Reader, fail, run, meant}
use Rattle.ron_spec_words.specs.Escape.{is_line_feed, in_continuation, continuation, escape, hex_byte, hex_character, unicode_escape, plain_escape}
use Rattle.ron_spec_words.specs.Quoted.{opens_continuation, string_escape, byte_string_escape, itself, gives}
use Rattle.ron_lex.proofs.StringLemmas.{itself_given}
use Rattle.ron_lex.specs.Quoted.{string_chars, NoContinuation, Continues, escape_piece}

-- ---- continuations

pub no_backslash : (s : Text) → is_at 92 s ≡ false → NoContinuation s
no_backslash [] e = inl refl
no_backslash (c ∷ s) e = inl (rw e refl)

second_none : (c : ℕ) (s : Text) → is_at c s ≡ false → begins_with (c ∷ []) s ≡ false
second_none c [] e = refl
second_none c (d ∷ s) e = rw e refl

no_line_feed : (s : Text) → is_at 10 s ≡ false → run is_line_feed in_continuation s ≡ failed bad
no_line_feed [] e = refl
no_line_feed (c ∷ s) e = rw e refl

pub no_line_end : (s marked line_feed : Text) (o : Option (Bor (List ℕ))) → s ≡ 92 ∷ marked
    → MatchOption o (is_at 13 marked ≡ false) (λ rest. marked ≡ 13 ∷ chars rest.now)
    → (line_feed_is : MatchOption o (line_feed ≡ marked) (λ rest. line_feed ≡ chars rest.now)) → is_at 10 line_feed ≡ false → NoContinuation s
unfolding continuation
no_line_end s marked line_feed None e h k f =
    let g : is_at 10 marked ≡ false = ap (λ x. is_at 10 x) (sym k) ∙ f in
    inl (rw (e, second_none 10 marked g, second_none 13 marked h) refl)
no_line_end s marked line_feed (Some rest) e h k f =
    let g : is_at 10 (chars rest.now) ≡ false = ap (λ x. is_at 10 x) (sym k) ∙ f in
    inr (rw (e, h) refl, rw (e, h) (rw (no_line_feed (chars rest.now) g) refl))

pub continues : (s marked line_feed behind rest : Text) (o : Option (Bor (List ℕ))) → s ≡ 92 ∷ marked
    → MatchOption o (is_at 13 marked ≡ false) (λ rest. marked ≡ 13 ∷ chars rest.now) → MatchOption o (line_feed ≡ marked) (λ rest. line_feed ≡ chars rest.now)
    → line_feed ≡ 10 ∷ behind → rest ≡ after_run in_continuation behind → Continues s rest
unfolding continuation
continues s marked line_feed behind rest None e h k f g =
    let m : marked ≡ 10 ∷ behind = sym k ∙ f in
    (rw (e, m) refl, rw (e, m, g) refl)
continues s marked line_feed behind rest (Some r) e h k f g =
    let m : marked ≡ 13 ∷ 10 ∷ behind = h ∙ ap (λ x. 13 ∷ x) (sym k ∙ f) in
    (rw (e, m) refl, rw (e, m, g) refl)

pub unwrapped : (o : Option (Bor (List ℕ))) (d l : Bor (List ℕ)) → l ≡ unwrap_or o d
    → MatchOption o (chars l.now ≡ chars d.now) (λ rest. chars l.now ≡ chars rest.now)
unwrapped None d l e = ap (λ x. chars x.now) e
unwrapped (Some r) d l e = ap (λ x. chars x.now) e

-- ---- pieces that a backslash begins

piece_escaped : (e : Reader Text) (s : Text) → (begins_with (codes "\\\r") s ≡ true → e s ≡ failed bad) → NoContinuation s → escape_piece e s ≡ e s
piece_escaped e s k (inl h) = rw h refl
piece_escaped e s k (inr h) = go (opens_continuation s) (k h.0) h.1
  where
    go : (b : Bool) → e s ≡ failed bad → continuation s ≡ failed bad → cond b (continuation s) (e s) ≡ e s
    go true f g = g ∙ sym f
    go false f g = refl

at_two : (a b : ℕ) (s : Text) → begins_with (a ∷ b ∷ []) s ≡ true → (t : Text) × (s ≡ a ∷ b ∷ t)
at_two a b [] e = absurd (cc)
at_two a b (c ∷ []) e = go (c == a) e
  where
    go : (x : Bool) → (x && false) ≡ true → (t : Text) × (c ∷ [] ≡ a ∷ b ∷ t)
    go true h = absurd (cc)
    go false h = absurd (cc)
at_two a b (c ∷ d ∷ s) e = go (c == a) (d == b) refl refl e
  where
    go : (x y : Bool) → (c == a) ≡ x → (d == b) ≡ y → (x && (y && true)) ≡ true → (t : Text) × (c ∷ d ∷ s ≡ a ∷ b ∷ t)
    go true true h k z = (s, let x : c ≡ a = eqb-true c a h in let y : d ≡ b = eqb-true d b k in rw (x, y) refl)
    go true false h k z = absurd (cc)
    go false y h k z = absurd (cc)

pub string_piece_escaped : (s : Text) → NoContinuation s → escape_piece string_escape s ≡ string_escape s
unfolding string_escape plain_escape
string_piece_escaped s h = piece_escaped string_escape s (λ k. let t = at_two 92 13 s k in rw t.1 (none t.0)) h
  where
    none : (t : Text) → string_escape (92 ∷ 13 ∷ t) ≡ failed bad
    none t = refl

pub string_escape_got : (s rest : Text) (c : ℕ) → escape hex_character unicode_escape s ≡ got c rest → string_escape s ≡ got (c ∷ []) rest
unfolding string_escape
string_escape_got s rest c e = ap (λ o. meant o (gives itself)) e

pub string_escape_failed : (s : Text) → escape hex_character unicode_escape s ≡ failed bad → string_escape s ≡ failed bad
unfolding string_escape
string_escape_failed s e = ap (λ o. meant o (gives itself)) e

-- ---- a text of its own that grows

chars_pushed : (bs : List ℕ) (c : ℕ) → IsUtf8 bs → IsScalar c → chars (bs ++ encode_utf8 c) ≡ chars bs ++ (c ∷ [])
chars_pushed bs c u h = chars-append bs (encode_utf8 c) u
    ∙ ap (λ x. chars bs ++ x) (chars_past_char (encode_utf8 c) [] c (IsUtf8-encode c h) (sym (append-nil (encode_utf8 c))) ∙ ap (λ x. c ∷ x) chars-nil)

chars_joined : {A : Type 0} (old : String A) (bs plain : List ℕ) → bs ≡ string_bytes old ++ plain → chars bs ≡ string_chars old ++ chars plain
chars_joined old bs plain e = ap chars e ∙ chars-append (string_bytes old) plain (IsUtf8-string_bytes old)

pub none_pushed : {A F : Type 0} (o : Result (String A) F) → IfOk o (λ s. string_bytes s ≡ []) → IfOk o (λ s. string_chars s ≡ [])
none_pushed (Ok s) e = ap chars e ∙ chars-nil
none_pushed (Err f) e = tt

-- a text with plain characters more
pub plain_pushed : {A V F : Type 0} (o : Result V F) (old new : String A) (plain : List ℕ) → string_bytes new
    ≡ (if is_ok o then string_bytes old ++ plain else string_bytes old) → OnOk o (string_chars new ≡ string_chars old ++ flat_map itself (chars plain))
plain_pushed (Ok v) old new plain e = chars_joined old (string_bytes new) plain e ∙ ap (λ x. string_chars old ++ x) (itself_given (chars plain))
plain_pushed (Err f) old new plain e = tt

-- and with a character more
pub character_pushed : {A V F : Type 0} (o : Result V F) (old new : String A) (c : ℕ) → IsScalar c
    → string_bytes new ≡ (if is_ok o then string_bytes old ++ encode_utf8 c else string_bytes old) → OnOk o (string_chars new ≡ string_chars old ++ (c ∷ []))
character_pushed (Ok v) old new c h e = ap chars e ∙ chars_pushed (string_bytes old) c (IsUtf8-string_bytes old) h
character_pushed (Err f) old new c h e = tt

-- ---- escapes of a byte string

pub byte_piece_escaped : (s : Text) → NoContinuation s → escape_piece byte_string_escape s ≡ byte_string_escape s
unfolding byte_string_escape plain_escape
byte_piece_escaped s h = piece_escaped byte_string_escape s (λ k. let t = at_two 92 13 s k in rw t.1 (none t.0)) h
  where
    none : (t : Text) → byte_string_escape (92 ∷ 13 ∷ t) ≡ failed bad
    none t = refl

byte_hex : (s : Text) → begins_with (codes "\\x") s ≡ true → escape_piece byte_string_escape s ≡ meant (hex_byte s) (gives itself)
unfolding byte_string_escape
byte_hex s h = let t = at_two 92 120 s h in rw t.1 (there t.0)
  where
    there : (t : Text) → escape_piece byte_string_escape (92 ∷ 120 ∷ t) ≡ meant (hex_byte (92 ∷ 120 ∷ t)) (gives itself)
    there t = refl

pub byte_hex_got : (s rest : Text) (b : ℕ) → begins_with (codes "\\x") s ≡ true → hex_byte s ≡ got b rest
    → escape_piece byte_string_escape s ≡ got (b ∷ []) rest
byte_hex_got s rest b h e = byte_hex s h ∙ ap (λ o. meant o (gives itself)) e

pub byte_hex_failed : (s : Text) → begins_with (codes "\\x") s ≡ true → hex_byte s ≡ failed bad → escape_piece byte_string_escape s ≡ failed bad
byte_hex_failed s h e = byte_hex s h ∙ ap (λ o. meant o (gives itself)) e

pub byte_unicode_got : (s rest : Text) (c : ℕ) → begins_with (codes "\\u") s ≡ true → unicode_escape s ≡ got c rest
    → byte_string_escape s ≡ got (encode_utf8 c) rest
unfolding byte_string_escape
byte_unicode_got s rest c h e = rw h (ap (λ o. meant o (gives encode_utf8)) e)

pub byte_unicode_failed : (s : Text) → begins_with (codes "\\u") s ≡ true → unicode_escape s ≡ failed bad → byte_string_escape s ≡ failed bad
unfolding byte_string_escape
byte_unicode_failed s h e = rw h (ap (λ o. meant o (gives encode_utf8)) e)

pub byte_escape_got : (s rest : Text) (b : ℕ) → begins_with (codes "\\u") s ≡ false → escape hex_byte (fail bad) s ≡ got b rest
    → byte_string_escape s ≡ got (b ∷ []) rest
unfolding byte_string_escape
byte_escape_got s rest b h e = rw h (ap (λ o. meant o (gives itself)) (rw h at e))

pub byte_escape_failed : (s : Text) → begins_with (codes "\\u") s ≡ false → escape hex_byte (fail bad) s ≡ failed bad → byte_string_escape s ≡ failed bad
unfolding byte_string_escape
byte_escape_failed s h e = rw h (ap (λ o. meant o (gives itself)) (rw h at e))
