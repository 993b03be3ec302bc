-- The reader functions of char and byte literals, by what stands between their quotes: for `split_char` and `split_byte`.
use Rattle.std.specs.Prelude.{◌==◌}
use Rattle.std.proofs.Common.{◌≡◌, ℕ, Bool, true, false, ◌&&◌, cond, List, [], ◌∷◌, codes, Some, refl, ap, ◌∙◌}
use Rattle.std.specs.Char.{is_ascii}
use Rattle.ron_spec_words.specs.Runs.{is_at, begins_with}
use Rattle.ron_spec_words.specs.Lang.{Nothing, Means, Or}
use Rattle.ron_spec_words.specs.Reader.{bad, Got, got, failed, Reader, mark}
use Rattle.ron_spec_words.specs.Exact.{IsWordReader}
use Rattle.ron_spec_words.specs.Directly.{AnyOne, and_directly}
use Rattle.ron_spec_words.specs.Escape.{HexByte, HexAscii, UnicodeEscape, Escape}
use Rattle.ron_spec_words.specs.Quoted.{if_no_backslash, if_ascii_no_backslash, single_quoted, char, byte}
use Rattle.ron_spec_words.proofs.Words.{word_choose, word_means, word_fail}
use Rattle.ron_spec_words.proofs.Direct.{first_any, word_any}
use Rattle.ron_spec_words.proofs.Escapes.{word_escape, word_hex_byte, word_hex_ascii, word_unicode, escaped_escape, escaped_means, escaped_byte}
use Rattle.ron_spec_words.proofs.Escapes.{escaped_unicode, escaped_nothing, first_escaped}
use Rattle.ron_spec_words.proofs.Quotes.{no_meaning, with_meaning}
use Rattle.ron_lex.specs.Quoted.{quoted_char, quoted_byte}
use Rattle.ron_lex.proofs.SplitLemmas.{behind_other, behind_char}

pub word_quoted_char : IsWordReader quoted_char (Or (Escape HexAscii UnicodeEscape) (Means AnyOne if_no_backslash))
word_quoted_char = word_choose (is_at 92) (first_escaped (λ s. is_at 92 s ≡ true) (λ c s k. refl) (escaped_escape (escaped_means escaped_byte) escaped_unicode))
    (first_any (λ s. is_at 92 s ≡ false) if_no_backslash (λ c s a k. (no_meaning (c == 92) (Some c) a k).0))
    (word_escape (escaped_means escaped_byte) escaped_unicode word_hex_ascii word_unicode)
    (word_means if_no_backslash word_any)

pub word_quoted_byte : IsWordReader quoted_byte (Or (Escape HexByte Nothing) (Means AnyOne if_ascii_no_backslash))
word_quoted_byte = word_choose (is_at 92) (first_escaped (λ s. is_at 92 s ≡ true) (λ c s k. refl) (escaped_escape escaped_byte escaped_nothing))
    (first_any (λ s. is_at 92 s ≡ false) if_ascii_no_backslash
    (λ c s a k. (no_meaning (c == 92) (Some c) a (with_meaning (is_ascii c) (if_no_backslash c) a k)).0))
    (word_escape escaped_byte escaped_nothing word_hex_byte word_fail)
    (word_means if_ascii_no_backslash word_any)

-- ---- between single quotes

single_bad : (r : Reader ℕ) (s t : List ℕ) → s ≡ 39 ∷ t → r t ≡ failed bad → single_quoted r s ≡ failed bad
single_bad r s t e f = rw e (ap (λ o. and_directly o (λ c. mark 39 c)) f)

single_closed : (r : Reader ℕ) (s t u rest : List ℕ) (c : ℕ) → s ≡ 39 ∷ t → r t ≡ got c u → u ≡ 39 ∷ rest → single_quoted r s ≡ got c rest
single_closed r s t u rest c e f g = rw e (ap (λ o. and_directly o (λ c. mark 39 c)) f ∙ rw g refl)

mark_other : (c a : ℕ) (s : List ℕ) → is_at c s ≡ false → mark c a s ≡ failed bad
mark_other c a [] e = refl
mark_other c a (d ∷ s) e = rw e refl

single_open : (r : Reader ℕ) (s t u : List ℕ) (c : ℕ) → s ≡ 39 ∷ t → r t ≡ got c u → is_at 39 u ≡ false → single_quoted r s ≡ failed bad
single_open r s t u c e f g = rw e (ap (λ o. and_directly o (λ c. mark 39 c)) f ∙ mark_other 39 c u g)

-- ---- char literals

pub char_none : (s : List ℕ) → is_at 39 s ≡ false → char s ≡ failed bad
unfolding char
char_none s e = behind_other 39 _ s e

pub char_bad : (s t : List ℕ) → s ≡ 39 ∷ t → quoted_char t ≡ failed bad → char s ≡ failed bad
unfolding char
char_bad s t e f = single_bad quoted_char s t e f

pub char_closed : (s t u rest : List ℕ) (c : ℕ) → s ≡ 39 ∷ t → quoted_char t ≡ got c u → u ≡ 39 ∷ rest → char s ≡ got c rest
unfolding char
char_closed s t u rest c e f g = single_closed quoted_char s t u rest c e f g

pub char_open : (s t u : List ℕ) (c : ℕ) → s ≡ 39 ∷ t → quoted_char t ≡ got c u → is_at 39 u ≡ false → char s ≡ failed bad
unfolding char
char_open s t u c e f g = single_open quoted_char s t u c e f g

-- ---- byte literals

pub byte_none : (s : List ℕ) → begins_with (codes "b'") s ≡ false → byte s ≡ failed bad
unfolding byte
byte_none [] e = refl
byte_none (c ∷ []) e = same (c == 98)
  where
    same : (b : Bool) → cond {A = Got ℕ} b (failed bad) (failed bad) ≡ failed bad
    same true = refl
    same false = refl
byte_none (c ∷ d ∷ s) e = go (c == 98) (d == 39) (and_directly (quoted_byte s) (λ c. mark 39 c)) e
  where
    go : (a b : Bool) (o : Got ℕ) → (a && (b && true)) ≡ false → cond a (cond b o (failed bad)) (failed bad) ≡ failed bad
    go true true o h = absurd (cc)
    go true false o h = refl
    go false b o h = refl

at_byte : (s t : List ℕ) → s ≡ 98 ∷ 39 ∷ t → byte s ≡ single_quoted quoted_byte (39 ∷ t)
unfolding byte
at_byte s t e = behind_char 98 _ s (39 ∷ t) e

pub byte_bad : (s t : List ℕ) → s ≡ 98 ∷ 39 ∷ t → quoted_byte t ≡ failed bad → byte s ≡ failed bad
byte_bad s t e f = at_byte s t e ∙ single_bad quoted_byte (39 ∷ t) t refl f

pub byte_closed : (s t u rest : List ℕ) (c : ℕ) → s ≡ 98 ∷ 39 ∷ t → quoted_byte t ≡ got c u → u ≡ 39 ∷ rest → byte s ≡ got c rest
byte_closed s t u rest c e f g = at_byte s t e ∙ single_closed quoted_byte (39 ∷ t) t u rest c refl f g

pub byte_open : (s t u : List ℕ) (c : ℕ) → s ≡ 98 ∷ 39 ∷ t → quoted_byte t ≡ got c u → is_at 39 u ≡ false → byte s ≡ failed bad
byte_open s t u c e f g = at_byte s t e ∙ single_open quoted_byte (39 ∷ t) t u c refl f g
