-- What is told of an integer that was begun, and what may stand right behind one as most are spelled: for the calls of
-- `plain.rt`, and those that go on from there.
use Rattle.std.proofs.Common.{◌≡◌, ℕ, ◌≤◌, cond, suc, nat_lt, length, ◌==◌, Bool, ◌||◌, ◌&&◌, true, false, [], ◌∷◌, codes, chars, None, refl, sym, ap, subst}
use Rattle.std.proofs.Common.{◌∙◌, eqb-true, arith}
use Rattle.std.proofs.Math.Bool.{and-false}
use Rattle.std.proofs.lemmas.Bool.Decides.{nat_tests}
use Rattle.std.specs.Char.{is_ascii_hexdigit}
use Rattle.ron_spec_words.specs.Characters.{Text}
use Rattle.ron_spec_words.specs.Runs.{begins, begins_with, run_of, after_run}
use Rattle.ron_spec_words.specs.Reader.{got, failed, bad}
use Rattle.ron_spec_words.specs.Number.{in_number, in_base, opt_suffix, number}
use Rattle.ron_spec_words.specs.AnyInteger.{is_float, in_float, past_sign}
use Rattle.ron_spec_words.specs.Beyond.{bytes_in}
use Rattle.ron_spec_words.proofs.Sizes.{size_end}
use Rattle.ron_lex_text.specs.Stretch.{IsProperSuffix}
use Rattle.ron_lex_text.proofs.StretchLemmas.{end_whole}
use Rattle.ron_lex.specs.Numeral.{digits_on, base_at, past_base}
use Rattle.ron_lex.specs.Untyped.{passes_digits, in_both, past_both}
use Rattle.ron_lex.specs.Plain.{IsBegun, ends_plain, is_behind_plain}
use Rattle.ron_lex.specs.declared.plain.Begun.{Begun}
use Rattle.ron_lex.proofs.NumeralLemmas.{digits_on-in_base, digits_on-end, digits_end, past_digits, past_numeral, number_read}
use Rattle.ron_lex.proofs.WordLemmas.{no_suffix_begins}

-- ---- behind the digits

-- a test that none of the characters passes is passed by none that stands there
behind_plain : (test : ℕ → Bool) → test 44 ≡ false → test 41 ≡ false → test 93 ≡ false → test 125 ≡ false → test 58 ≡ false → test 32 ≡ false → test 10 ≡ false
    → test 13 ≡ false → test 9 ≡ false → (c : ℕ) → is_behind_plain c ≡ true → test c ≡ false
behind_plain test comma parenthesis bracket brace colon space feed return tab c =
    one 44 _ comma (one 41 _ parenthesis
    (one 93 _ bracket (one 125 _ brace (one 58 _ colon (one 32 _ space (one 10 _ feed (one 13 _ return (λ e. rw (eqb-true c 9 e) tab))))))))
  where
    one : (k : ℕ) (others : Bool) → test k ≡ false → (others ≡ true → test c ≡ false) → (c == k) || others ≡ true → test c ≡ false
    one k others f g e = go (c == k) refl e
      where
        go : (b : Bool) → (c == k) ≡ b → b || others ≡ true → test c ≡ false
        go true h e = rw (eqb-true c k h) f
        go false h e = g e

no_number : (c : ℕ) → is_behind_plain c ≡ true → in_number c ≡ false
no_number = behind_plain in_number refl refl refl refl refl refl refl refl refl

ends_number : (s : Text) → ends_plain s ≡ true → begins in_number s ≡ false
ends_number [] e = refl
ends_number (c ∷ s) e = no_number c e

ends_suffix : (s : Text) → ends_plain s ≡ true → opt_suffix s ≡ got None s
ends_suffix [] e = no_suffix_begins [] refl refl
ends_suffix (c ∷ s) e = no_suffix_begins (c ∷ s) (behind_plain (λ d. d == 105) refl refl refl refl refl refl refl refl refl c e)
    (behind_plain (λ d. d == 117) refl refl refl refl refl refl refl refl refl c e)

ends_float : (s : Text) → ends_plain s ≡ true → passes_digits s ≡ false
ends_float [] e = refl
ends_float (c ∷ s) e = rw (no_number c e, behind_plain in_float refl refl refl refl refl refl refl refl refl c e) refl

-- ---- the digits

-- digits up to where such an integer ends are a magnitude
magnitude_plain : (base : ℕ) (s rest : Text) (n : ℕ) → begins is_ascii_hexdigit s ≡ true → digits_on base n rest ≡ digits_on base 0 s → ends_plain rest ≡ true
    → in_base base s ≡ got n rest
magnitude_plain base s rest n e on g = digits_on-in_base base s e ∙ sym on ∙ digits_on-end base n rest (ends_number rest g)

-- ---- no float

-- in base 10 nothing stands before the digits
base_ten : (u digits : Text) → 10 ≡ base_at u → digits ≡ past_base u → digits ≡ u
base_ten u digits e f = go (begins_with (codes "0b") u) (begins_with (codes "0o") u) (begins_with (codes "0x") u) refl refl refl
  where
    go : (b o x : Bool) → begins_with (codes "0b") u ≡ b → begins_with (codes "0o") u ≡ o → begins_with (codes "0x") u ≡ x → digits ≡ u
    go true o x g h k = absurd (let z : base_at u ≡ 2 = rw g refl in cc)
    go false true x g h k = absurd (let z : base_at u ≡ 8 = rw (g, h) refl in cc)
    go false false true g h k = absurd (let z : base_at u ≡ 16 = rw (g, h, k) refl in cc)
    go false false false g h k = f ∙ rw (g, h, k) refl

-- in another base none stands
no_float_in_base : (u : Text) → (base_at u == 10) ≡ false → passes_digits u ≡ false
no_float_in_base [] h = absurd (cc)
no_float_in_base (c ∷ []) h = go (c == 48) refl
  where
    go : (z : Bool) → (c == 48) ≡ z → passes_digits (c ∷ []) ≡ false
    go true e = absurd (let k : (base_at (c ∷ []) == 10) ≡ true = rw e refl in cc)
    go false e = absurd (let k : (base_at (c ∷ []) == 10) ≡ true = rw e refl in cc)
no_float_in_base (c ∷ d ∷ t) h = go (c == 48) (d == 98) (d == 111) (d == 120) refl refl refl refl
  where
    longer : (n : ℕ) → nat_lt (suc (suc n)) 1 ≡ false
    longer n = grind (arith, nat_tests)

    go : (z b o x : Bool) → (c == 48) ≡ z → (d == 98) ≡ b → (d == 111) ≡ o → (d == 120) ≡ x → passes_digits (c ∷ d ∷ t) ≡ false
    go false b o x e f g k = absurd (let z : (base_at (c ∷ d ∷ t) == 10) ≡ true = rw e refl in cc)
    go true true o x e f g k = rw (eqb-true c 48 e, eqb-true d 98 f) (longer (length (run_of in_number t)))
    go true false true x e f g k = rw (eqb-true c 48 e, eqb-true d 111 g) refl
    go true false false true e f g k = rw (eqb-true c 48 e, eqb-true d 120 k) refl
    go true false false false e f g k = absurd (let z : (base_at (c ∷ d ∷ t) == 10) ≡ true = rw (e, f, g, k) refl in cc)

pub begun_float : (s u digits behind : Text) (base : ℕ) → u ≡ past_sign s → base ≡ base_at u → digits ≡ past_base u
    → (base ≡ 10 → passes_digits behind ≡ passes_digits digits) → is_float s ≡ (base == 10) && passes_digits behind
begun_float s u digits behind base e b d f = go (base == 10) refl
  where
    go : (ten : Bool) → (base == 10) ≡ ten → is_float s ≡ (base == 10) && passes_digits behind
    go true k = let z : base ≡ 10 = eqb-true base 10 k in rw k (sym (f z ∙ ap passes_digits (base_ten u digits (sym z ∙ b) d ∙ e)))
    go false k = rw k (subst (λ x. passes_digits x ≡ false) e (no_float_in_base u (rw (sym b) k)))

-- ---- how far the test for a float goes

-- in another base the digits begin no earlier than what both may hold ends
digits_in_base : (u : Text) → (base_at u == 10) ≡ false → bytes_in (past_base u) ≤ bytes_in (after_run in_both u)
digits_in_base [] h = absurd (cc)
digits_in_base (c ∷ []) h = go (c == 48) refl
  where
    go : (z : Bool) → (c == 48) ≡ z → bytes_in (past_base (c ∷ [])) ≤ bytes_in (after_run in_both (c ∷ []))
    go true e = absurd (let k : (base_at (c ∷ []) == 10) ≡ true = rw e refl in cc)
    go false e = absurd (let k : (base_at (c ∷ []) == 10) ≡ true = rw e refl in cc)
digits_in_base (c ∷ d ∷ t) h = go (c == 48) (d == 98) (d == 111) (d == 120) refl refl refl refl
  where
    go : (z b o x : Bool) → (c == 48) ≡ z → (d == 98) ≡ b → (d == 111) ≡ o → (d == 120) ≡ x
        → bytes_in (past_base (c ∷ d ∷ t)) ≤ bytes_in (after_run in_both (c ∷ d ∷ t))
    go false b o x e f g k = absurd (let z : (base_at (c ∷ d ∷ t) == 10) ≡ true = rw e refl in cc)
    go true true o x e f g k = rw (eqb-true c 48 e, eqb-true d 98 f) (size_end (98 ∷ []) t (98 ∷ t) refl)
    go true false true x e f g k = rw (eqb-true c 48 e, eqb-true d 111 g) (size_end (111 ∷ []) t (111 ∷ t) refl)
    go true false false true e f g k = rw (eqb-true c 48 e, eqb-true d 120 k) (size_end (120 ∷ []) t (120 ∷ t) refl)
    go true false false false e f g k = absurd (let z : (base_at (c ∷ d ∷ t) == 10) ≡ true = rw (e, f, g, k) refl in cc)

pub begun_seen : (s seen : Text) (begun : Begun) → IsBegun s begun
    → seen ≡ cond (begun.base == 10) (after_run in_both (chars begun.behind.now)) (chars begun.digits.now) → bytes_in seen ≤ bytes_in (past_both s)
begun_seen s seen begun h e = go (begun.base == 10) refl e
  where
    go : (ten : Bool) → (begun.base == 10) ≡ ten → seen ≡ cond ten (after_run in_both (chars begun.behind.now)) (chars begun.digits.now)
        → bytes_in seen ≤ bytes_in (past_both s)
    go true k f =
        let z : begun.base ≡ 10 = eqb-true begun.base 10 k in
        omega (arith, ap bytes_in (f ∙ h.both ∙ ap (after_run in_both) (base_ten (past_sign s) (chars begun.digits.now) (sym z ∙ h.base) h.digits)))
    go false k f = omega (arith, ap bytes_in (f ∙ h.digits), digits_in_base (past_sign s) (rw (sym h.base) k))

-- ---- whole

-- no byte literal is such an integer
pub no_byte : (s digits behind : Text) (base n : ℕ) → base ≡ base_at (past_sign s) → digits ≡ past_base (past_sign s) → in_base base digits ≡ got n behind
    → begins_with (codes "b'") s ≡ false
no_byte [] digits behind base n b d h = refl
no_byte (c ∷ s) digits behind base n b d h = go (c == 98) refl
  where
    read : c ≡ 98 → in_base base digits ≡ failed bad
    read x = rw (b, d, x) refl

    go : (x : Bool) → (c == 98) ≡ x → begins_with (codes "b'") (c ∷ s) ≡ false
    go false e = rw e refl
    go true e = absurd (let z : in_base base digits ≡ failed bad = read (eqb-true c 98 e) in cc)

pub begun_no_float : (s : Text) (begun : Begun) → IsBegun s begun → ends_plain (chars begun.behind.now) ≡ true → is_float s ≡ false
begun_no_float s begun h g = h.float ∙ ap (λ x. (begun.base == 10) && x) (ends_float (chars begun.behind.now) g) ∙ and-false (begun.base == 10)

pub begun_magnitude : (s : Text) (begun : Begun) → IsBegun s begun → begins is_ascii_hexdigit (chars begun.digits.now) ≡ true
    → ends_plain (chars begun.behind.now) ≡ true → in_base begun.base (chars begun.digits.now) ≡ got begun.start (chars begun.behind.now)
begun_magnitude s begun h e g = magnitude_plain begun.base (chars begun.digits.now) (chars begun.behind.now) begun.start e h.so_far g

pub begun_number : (s : Text) (begun : Begun) → IsBegun s begun → in_base begun.base (chars begun.digits.now) ≡ got begun.start (chars begun.behind.now)
    → ends_plain (chars begun.behind.now) ≡ true
    → number s ≡ got (record { minus = begun.is_negative; magnitude = begun.start; suffix = None }) (chars begun.behind.now)
begun_number s begun h value g = number_read s (past_sign s) (chars begun.digits.now) (chars begun.behind.now) (chars begun.behind.now) begun.base begun.start
    None begun.is_negative h.sign refl h.base h.digits value (ends_suffix (chars begun.behind.now) g)

pub begun_past : (s : Text) (begun : Begun) → IsBegun s begun → begins is_ascii_hexdigit (chars begun.digits.now) ≡ true
    → ends_plain (chars begun.behind.now) ≡ true → IsProperSuffix (chars begun.behind.now) s
begun_past s begun h e g =
    past_numeral s (chars begun.digits.now) (chars begun.behind.now) (chars begun.behind.now)
    (digits_end s (past_sign s) (chars begun.digits.now) refl h.digits)
    (past_digits (chars begun.digits.now) (chars begun.behind.now) e (ends_number (chars begun.behind.now) g) h.end) (end_whole (chars begun.behind.now))
