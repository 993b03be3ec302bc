-- The reader functions of escapes, one step at a time: for the calls of `escape.rt`.
use Rattle.std.specs.Prelude.{◌==◌}
use Rattle.std.proofs.Common.{◌≡◌, ℕ, suc, ◌+◌, ◌-◌, ◌*◌, ◌^◌, ◌<◌, ◌≤◌, nat_le, Bool, true, false, ◌&&◌, cond, length, take, set, List, [], ◌∷◌, ◌++◌, chars}
use Rattle.std.proofs.Common.{IsUtf8, Option, Some, None, refl, sym, ap, ◌∙◌, arith, append_assoc, append-nil, length-append, zero}
use Rattle.std.proofs.lemmas.List.{take_more_set}
use Rattle.std.proofs.lemmas.Bool.Decides.{nat_tests}
use Rattle.std.proofs.lemmas.Grind.{pow_more}
use Rattle.std.proofs.Math.Nat.{pow-le-pow_right}
use Rattle.std.proofs.lemmas.Str.{IsUtf8-from_is_utf8, is_utf8-from_IsUtf8}
use Rattle.std.specs.Char.{is_ascii_hexdigit, digit_value}
use Rattle.std.specs.Str.{is_utf8}
use lib.Utf8.{scalar}
use Rattle.ron_spec_words.specs.Runs.{begins, is_at, begins_with, Every, run_of, after_run}
use Rattle.ron_spec_words.specs.Reader.{bad, Got, got, failed, mark, behind, given, means}
use Rattle.ron_spec_words.specs.Lang.{Means}
use Rattle.ron_spec_words.specs.Exact.{IsWordReader}
use Rattle.ron_spec_words.specs.Directly.{AnyOne, and_directly, directly, any_one}
use Rattle.ron_spec_words.specs.Escape.{escape_meaning, plain_escape, hex_digit, two_digits, hex_byte, named_character, character_of, hex_bytes, unicode_escape}
use Rattle.ron_spec_words.specs.Number.{place_value}
use Rattle.ron_spec_words.proofs.Words.{word_means}
use Rattle.ron_spec_words.proofs.Direct.{word_any}
use Rattle.ron_spec_words.proofs.NumberDigits.{place_value-digit}
use Rattle.ron_lex_text.specs.Stretch.{IsSuffix, is_ended}
use Rattle.ron_lex.specs.Quoted.{braced_character}
use Rattle.ron_lex.proofs.SplitLemmas.{behind_other}

-- ---- escapes of two characters

pub plain_none : (s : List ℕ) → is_at 92 s ≡ false → plain_escape s ≡ failed bad
unfolding plain_escape
plain_none s e = behind_other 92 (means any_one escape_meaning) s e

pub plain_ended : (s t : List ℕ) → s ≡ 92 ∷ t → t ≡ [] → plain_escape s ≡ failed bad
unfolding plain_escape
plain_ended s t e f = rw (e, f) refl

pub plain_one : (s t rest : List ℕ) (c d : ℕ) → s ≡ 92 ∷ t → t ≡ c ∷ rest → Some d ≡ escape_meaning c → plain_escape s ≡ got d rest
unfolding plain_escape
plain_one s t rest c d e f m = rw (e, f) (ap (λ o. given o rest) (sym m))

pub plain_unknown : (s t rest : List ℕ) (c : ℕ) → s ≡ 92 ∷ t → t ≡ c ∷ rest → None ≡ escape_meaning c → plain_escape s ≡ failed bad
unfolding plain_escape
plain_unknown s t rest c e f m = rw (e, f) (ap (λ o. given o rest) (sym m))

-- ---- `\xHH`

pub hex_none : (s : List ℕ) → begins_with (92 ∷ 120 ∷ []) s ≡ false → hex_byte s ≡ failed bad
unfolding hex_byte
hex_none [] e = refl
hex_none (c ∷ []) e = same (c == 92)
  where
    same : (b : Bool) → cond {A = Got ℕ} b (failed bad) (failed bad) ≡ failed bad
    same true = refl
    same false = refl
hex_none (c ∷ d ∷ s) e = go (c == 92) (d == 120) e
  where
    tail : Got ℕ
    tail = directly (means any_one hex_digit) (λ a. means (means any_one hex_digit) (two_digits a)) s

    go : (a b : Bool) → (a && (b && true)) ≡ false → cond a (cond b tail (failed bad)) (failed bad) ≡ failed bad
    go true true h = absurd (cc)
    go true false h = refl
    go false b h = refl

pub hex_first : (s t : List ℕ) → s ≡ 92 ∷ 120 ∷ t → means any_one hex_digit t ≡ failed bad → hex_byte s ≡ failed bad
unfolding hex_byte
hex_first s t e f = rw e (ap (λ o. and_directly o (λ a. means (means any_one hex_digit) (two_digits a))) f)

pub hex_second : (s t u : List ℕ) (a : ℕ) → s ≡ 92 ∷ 120 ∷ t → means any_one hex_digit t ≡ got a u → means any_one hex_digit u ≡ failed bad
    → hex_byte s ≡ failed bad
unfolding hex_byte
hex_second s t u a e f g = rw e (ap (λ o. and_directly o (λ a. means (means any_one hex_digit) (two_digits a))) f ∙ rw g refl)

pub hex_both : (s t u rest : List ℕ) (a b : ℕ) → s ≡ 92 ∷ 120 ∷ t → means any_one hex_digit t ≡ got a u → means any_one hex_digit u ≡ got b rest
    → hex_byte s ≡ got (a * 16 + b) rest
unfolding hex_byte
hex_both s t u rest a b e f g = rw e (ap (λ o. and_directly o (λ a. means (means any_one hex_digit) (two_digits a))) f ∙ rw g refl)

-- ---- the character that bytes form

pub no_character : (bs : List ℕ) → (IsUtf8 bs → ⊥) → character_of bs ≡ None
no_character bs h = go (is_utf8 bs) refl
  where
    go : (b : Bool) → is_utf8 bs ≡ b → character_of bs ≡ None
    go true k = absurd (h (IsUtf8-from_is_utf8 bs k))
    go false k = rw k refl

pub character_one : (bs rest : List ℕ) (c : ℕ) → IsUtf8 bs → chars bs ≡ c ∷ rest → is_ended rest ≡ true → character_of bs ≡ Some c
character_one bs [] c u e f = rw (is_utf8-from_IsUtf8 bs u, e) refl
character_one bs (d ∷ rest) c u e f = absurd (cc)

-- ---- the bytes of a character

pub bytes_more : (n m : ℕ) (bs s u : List ℕ) (b : ℕ) → n ≡ suc m → hex_byte s ≡ got b u → character_of (bs ++ b ∷ []) ≡ None
    → hex_bytes n bs s ≡ hex_bytes m (bs ++ b ∷ []) u
bytes_more n m bs s u b k e f = rw (k, e, f) refl

pub bytes_turn : (count : ℕ) (bytes s u : List ℕ) (b : ℕ) → count < 4 → count < length bytes → hex_byte s ≡ got b u → None ≡ character_of
    (take (count + 1) (set bytes count b)) → hex_bytes (4 - count) (take count bytes) s ≡ hex_bytes (4 - (count + 1)) (take (count + 1) (set bytes count b)) u
bytes_turn count bytes s u b m n e f =
    let k = take_more_set bytes count b n in
    rw k (bytes_more (4 - count) (4 - (count + 1)) (take count bytes) s u b (omega (arith, m)) e (sym (ap character_of k) ∙ sym f))

-- ---- digits and `}`

-- hexadecimal digits stand before the rest of the text: so many, and of this value
pub record Digits (text rest : List ℕ) (value count : ℕ) : Type 0 where
  pub front : List ℕ
  pub split : text ≡ front ++ rest
  pub every : Every is_ascii_hexdigit front
  pub value_is : place_value 16 front ≡ value
  pub count_is : length front ≡ count

every_more : (p : ℕ → Bool) (t : List ℕ) (c : ℕ) → Every p t → p c ≡ true → Every p (t ++ c ∷ [])
every_more p [] c h e = (e, tt)
every_more p (d ∷ t) c h e = (h.0, every_more p t c h.1 e)

record IsDigit (s u : List ℕ) (d : ℕ) : Type 0 where
  char : ℕ
  first : s ≡ char ∷ u
  is_hex : is_ascii_hexdigit char ≡ true
  value_is : digit_value char ≡ d

digit_is : (s u : List ℕ) (d : ℕ) → means any_one hex_digit s ≡ got d u → IsDigit s u d
digit_is [] u d e = absurd (cc)
digit_is (c ∷ s) u d e = go (is_ascii_hexdigit c) refl e
  where
    go : (b : Bool) → is_ascii_hexdigit c ≡ b → given (cond b (Some (digit_value c)) None) s ≡ got d u → IsDigit (c ∷ s) u d
    go true h k = let same : s ≡ u = cc in let value : digit_value c ≡ d = cc in record { char = c; first = ap (λ x. c ∷ x) same; is_hex = h; value_is = value }
    go false h k = absurd (cc)

pub one_digit_more : (text rest after : List ℕ) (v k d : ℕ) → Digits text rest v k → means any_one hex_digit rest ≡ got d after
    → Digits text after (v * 16 + d) (k + 1)
one_digit_more text rest after v k d h e =
    let z = digit_is rest after d e in
    record {
      front = h.front ++ z.char ∷ [];
      split = h.split ∙ ap (λ x. h.front ++ x) z.first ∙ sym (append_assoc h.front (z.char ∷ []) after);
      every = every_more is_ascii_hexdigit h.front z.char h.every z.is_hex;
      value_is = place_value-digit 16 h.front z.char ∙ rw (h.value_is, z.value_is) refl;
      count_is = length-append h.front (z.char ∷ []) ∙ rw h.count_is refl;
    }

pub no_digit_next : (s : List ℕ) → means any_one hex_digit s ≡ failed bad → begins is_ascii_hexdigit s ≡ false
no_digit_next [] e = refl
no_digit_next (c ∷ s) e = go (is_ascii_hexdigit c) e
  where
    go : (b : Bool) → given (cond b (Some (digit_value c)) None) s ≡ failed bad → b ≡ false
    go true k = absurd (cc)
    go false k = refl

run_of-front : (p : ℕ → Bool) (t s : List ℕ) → Every p t → run_of p (t ++ s) ≡ t ++ run_of p s
run_of-front p [] s h = refl
run_of-front p (c ∷ t) s h = rw h.0 (ap (λ x. c ∷ x) (run_of-front p t s h.1))

after_run-front : (p : ℕ → Bool) (t s : List ℕ) → Every p t → after_run p (t ++ s) ≡ after_run p s
after_run-front p [] s h = refl
after_run-front p (c ∷ t) s h = rw h.0 (after_run-front p t s h.1)

-- the digits in front, those that follow them, and what stands behind these
braced-front : (t s : List ℕ) → Every is_ascii_hexdigit t → 1 ≤ length t
    → braced_character (t ++ s) ≡ and_directly (given (named_character (t ++ run_of is_ascii_hexdigit s)) (after_run is_ascii_hexdigit s)) (λ c. mark 125 c)
braced-front [] s h m = absurd (omega (arith, m))
braced-front (c ∷ t) s h m = rw (h.0, run_of-front is_ascii_hexdigit t s h.1, after_run-front is_ascii_hexdigit t s h.1) refl

-- where no digit follows
braced-run : (t s : List ℕ) → Every is_ascii_hexdigit t → 1 ≤ length t → begins is_ascii_hexdigit s ≡ false
    → braced_character (t ++ s) ≡ and_directly (given (named_character t) s) (λ c. mark 125 c)
braced-run t [] h m e = braced-front t [] h m ∙ ap (λ x. and_directly (given (named_character x) []) (λ c. mark 125 c)) (append-nil t)
braced-run t (d ∷ s) h m e = braced-front t (d ∷ s) h m ∙ rw e (ap (λ x. and_directly (given (named_character x) (d ∷ s)) (λ c. mark 125 c)) (append-nil t))

some_front : (text rest : List ℕ) (v k : ℕ) (h : Digits text rest v k) → 0 < k → 1 ≤ length h.front
some_front text rest v k h m = omega (arith, m, h.count_is)

pub braced_is : (text rest after : List ℕ) (v k : ℕ) → Digits text rest v k → 0 < k → k ≤ 6 → rest ≡ 125 ∷ after → scalar v ≡ true
    → braced_character text ≡ got v after
braced_is text rest after v k h m n e f =
    let few : nat_le (length h.front) 6 ≡ true = grind (arith, nat_tests, h.count_is) in
    let g : scalar (place_value 16 h.front) ≡ true = ap scalar h.value_is ∙ f in
    ap braced_character (h.split ∙ ap (λ x. h.front ++ x) e) ∙ braced-run h.front (125 ∷ after) h.every (some_front text rest v k h m) refl
    ∙ rw (few, g, h.value_is) refl

pub braced_nameless : (text rest after : List ℕ) (v k : ℕ) → Digits text rest v k → 0 < k → rest ≡ 125 ∷ after → scalar v ≡ false
    → braced_character text ≡ failed bad
braced_nameless text rest after v k h m e f =
    let g : scalar (place_value 16 h.front) ≡ false = ap scalar h.value_is ∙ f in
    ap braced_character (h.split ∙ ap (λ x. h.front ++ x) e) ∙ braced-run h.front (125 ∷ after) h.every (some_front text rest v k h m) refl
    ∙ rw g (none (nat_le (length h.front) 6))
  where
    none : (b : Bool) → and_directly (given (cond (b && false) (Some (place_value 16 h.front)) None) (125 ∷ after)) (λ c. mark 125 c) ≡ failed bad
    none true = refl
    none false = refl

pub braced_empty : (text rest : List ℕ) (v : ℕ) → Digits text rest v 0 → begins is_ascii_hexdigit rest ≡ false → braced_character text ≡ failed bad
braced_empty text rest v h e = go h.front h.split h.count_is
  where
    run_none : (s : List ℕ) → begins is_ascii_hexdigit s ≡ false → braced_character s ≡ failed bad
    run_none [] k = refl
    run_none (c ∷ s) k = rw k refl

    go : (t : List ℕ) → text ≡ t ++ rest → length t ≡ 0 → braced_character text ≡ failed bad
    go [] k m = ap braced_character k ∙ run_none rest e
    go (c ∷ t) k m = absurd (omega (arith, m))

unclosed : (o : Option ℕ) (s : List ℕ) → is_at 125 s ≡ false → and_directly (given o s) (λ c. mark 125 c) ≡ failed bad
unclosed None s e = refl
unclosed (Some v) [] e = refl
unclosed (Some v) (d ∷ s) e = rw e refl

pub braced_stopped : (text rest : List ℕ) (v k : ℕ) → Digits text rest v k → is_at 125 rest ≡ false → begins is_ascii_hexdigit rest ≡ false
    → braced_character text ≡ failed bad
braced_stopped text rest v k h e f = go k h
  where
    go : (j : ℕ) → Digits text rest v j → braced_character text ≡ failed bad
    go zero h = braced_empty text rest v h f
    go (suc j) h = ap braced_character h.split ∙ braced-run h.front rest h.every (some_front text rest v (suc j) h (omega arith)) f
        ∙ unclosed (named_character h.front) rest e

pub braced_long : (text rest : List ℕ) (v k : ℕ) → Digits text rest v k → 6 ≤ k → is_at 125 rest ≡ false → braced_character text ≡ failed bad
braced_long text [] v k h m e = braced_stopped text [] v k h e refl
braced_long text (d ∷ s) v k h m e = at_digit (is_ascii_hexdigit d) refl
  where
    at_digit : (b : Bool) → is_ascii_hexdigit d ≡ b → braced_character text ≡ failed bad
    at_digit false g = braced_stopped text (d ∷ s) v k h e g
    at_digit true g =
        let n : 7 ≤ length (h.front ++ d ∷ run_of is_ascii_hexdigit s) = omega (arith, m, h.count_is, length-append h.front (d ∷ run_of is_ascii_hexdigit s)) in
        let z : nat_le (length (h.front ++ d ∷ run_of is_ascii_hexdigit s)) 6 ≡ false = grind (arith, nat_tests) in
        ap braced_character h.split ∙ braced-front h.front (d ∷ s) h.every (omega (arith, m, h.count_is)) ∙ rw (g, z) refl

-- ---- `\u{H..}`

pub unicode_none : (s : List ℕ) → begins_with (92 ∷ 117 ∷ []) s ≡ false → unicode_escape s ≡ failed bad
unfolding unicode_escape
unicode_none [] e = refl
unicode_none (c ∷ []) e = same (c == 92)
  where
    same : (b : Bool) → cond {A = Got ℕ} b (failed bad) (failed bad) ≡ failed bad
    same true = refl
    same false = refl
unicode_none (c ∷ d ∷ s) e = go (c == 92) (d == 117) e
  where
    go : (a b : Bool) → (a && (b && true)) ≡ false → cond a (cond b (behind 123 braced_character s) (failed bad)) (failed bad) ≡ failed bad
    go true true h = absurd (cc)
    go true false h = refl
    go false b h = refl

pub unicode_unbraced : (s t : List ℕ) → s ≡ 92 ∷ 117 ∷ t → is_at 123 t ≡ false → unicode_escape s ≡ failed bad
unfolding unicode_escape
unicode_unbraced s t e f = rw e (behind_other 123 braced_character t f)

pub unicode_braced : (s t u : List ℕ) → s ≡ 92 ∷ 117 ∷ t → t ≡ 123 ∷ u → unicode_escape s ≡ braced_character u
unfolding unicode_escape
unicode_braced s t u e f = rw (e, f) refl

pub digits_end : (text rest : List ℕ) (v k : ℕ) → Digits text rest v k → IsSuffix rest text
digits_end text rest v k h = record { front = h.front; is = h.split }

-- a number of at most five hexadecimal digits, and one digit more
pub few_digits : (v k : ℕ) → v < 16 ^ k → k < 6 → v < 2 ^ 20
few_digits v k h m = omega (arith, pow-le-pow_right {n = 16} (omega arith) {i = k} {j = 5} (omega arith))

pub digit_more : (v k d : ℕ) → v < 16 ^ k → d < 16 → v * 16 + d < 16 ^ (k + 1)
digit_more v k d h m = omega (arith, pow_more 16 k)

pub word_digit : IsWordReader (means any_one hex_digit) (Means AnyOne hex_digit)
word_digit = word_means hex_digit word_any
