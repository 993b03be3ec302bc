-- The reader function of integers whole, by its parts: for the calls of `numeral.rt`.
use Rattle.std.proofs.Common.{◌≡◌, ℕ, ◌*◌, ◌+◌, ◌^◌, ◌≤◌, ◌<◌, nat_lt, ◌==◌, Bool, ◌||◌, true, false, cond, [], ◌∷◌, ◌++◌, drop, codes, Option, Some, None}
use Rattle.std.proofs.Common.{refl, sym, ap, ap₂, subst, ◌∙◌, eqb-true, append_assoc, MatchOption, SomeIff, arith, if◌then◌else◌}
use Rattle.std.proofs.Math.Nat.{mul-le-mul_left}
use Rattle.std.proofs.lemmas.Bool.{or_parts}
use Rattle.std.proofs.lemmas.Bool.Decides.{nat_tests}
use Rattle.std.specs.Char.{is_ascii_hexdigit, digit_value}
use Rattle.std.specs.Str.Parse.{digits_value_after}
use Rattle.ron_spec_words.specs.Characters.{Text}
use Rattle.ron_spec_words.specs.Runs.{begins, is_at, begins_with, run_of, after_run}
use Rattle.ron_spec_words.specs.Reader.{Got, got, failed, bad, given}
use Rattle.ron_spec_words.specs.AnyInteger.{past_sign}
use Rattle.ron_spec_words.specs.Number.{in_number, is_below, digits_among, number_in, in_base, opens_base, magnitude, opt_suffix, unsigned, number, Suffix}
use Rattle.ron_spec_words.specs.Number.{Numeral}
use Rattle.ron_spec_words.proofs.NumberDigits.{place_value-digits_value}
use Rattle.ron_spec_words.proofs.Classes.{apart}
use Rattle.ron_lex_text.specs.Stretch.{IsSuffix, IsProperSuffix, is_ended}
use Rattle.ron_lex.specs.Numeral.{digits_on, base_at, past_base, IsLarge, IsMagnitude, IsLargeNumeral, RefusesNumeral}
use Rattle.ron_lex.specs.declared.numeral.NumeralFault.{NumeralFault}
use Rattle.ron_lex.specs.declared.numeral.NumeralFault.TheVariants.{Eof, NoDigit, LeadingUnderscore, InvalidDigit, OutOfBounds}
use Rattle.ron_lex_text.proofs.StretchLemmas.{end_of_end}

-- ---- digits, from the left

-- what the digits from here on come to, where those so far are this number, or one that passes 128 bits
abbrev pub GoesOn : ℕ → Option ℕ → Text → Got ℕ → Type 0
GoesOn base (Some high) s answer = digits_on base high s ≡ answer
GoesOn base None s answer = (high : ℕ) × ((2 ^ 128 ≤ high) × (digits_on base high s ≡ answer))

-- the number that the digits so far and then these spell
abbrev number_on : ℕ → ℕ → Text → Option ℕ
number_on base high t = cond (is_below base t) (Some (digits_value_after base high t)) None

-- what the digits from here on come to, by the run that holds them
abbrev IsOfRun : ℕ → ℕ → Text → Type 0
IsOfRun base high s = digits_on base high s ≡ given (number_on base high (digits_among (run_of in_number s))) (after_run in_number s)

digits_on-run : (base high : ℕ) (s : Text) → IsOfRun base high s
digits_on-run base high [] = refl
digits_on-run base high (c ∷ s) = go (is_ascii_hexdigit c) (c == 95) (nat_lt (digit_value c) base) refl refl refl
    (digits_on-run base (high * base + digit_value c) s) (digits_on-run base high s)
  where
    go : (h u b : Bool) → is_ascii_hexdigit c ≡ h → (c == 95) ≡ u → nat_lt (digit_value c) base ≡ b → IsOfRun base (high * base + digit_value c) s
        → IsOfRun base high s → IsOfRun base high (c ∷ s)
    go true u true e f g with_digit without = let k : (c == 95) ≡ false = apart is_ascii_hexdigit 95 c refl e in rw (e, k, g) with_digit
    go true u false e f g with_digit without = let k : (c == 95) ≡ false = apart is_ascii_hexdigit 95 c refl e in rw (e, k, g) refl
    go false true b e f g with_digit without = rw (e, f, f) without
    go false false b e f g with_digit without = rw (e, f) refl

-- digits behind no others are the digits of a magnitude
pub digits_on-in_base : (base : ℕ) (s : Text) → begins is_ascii_hexdigit s ≡ true → in_base base s ≡ digits_on base 0 s
digits_on-in_base base [] e = absurd (cc)
digits_on-in_base base (c ∷ s) e =
    let run = c ∷ run_of in_number s in
    let run_is : run_of in_number (c ∷ s) ≡ run = rw e refl in
    let after_is : after_run in_number (c ∷ s) ≡ after_run in_number s = rw e refl in
    let read : in_base base (c ∷ s) ≡ given (number_in base run) (after_run in_number s) = rw e refl in
    let same : number_in base run ≡ number_on base 0 (digits_among run) =
    ap (λ n. cond (is_below base (digits_among run)) (Some n) None) (sym (place_value-digits_value base (digits_among run))) in
    read ∙ ap (λ o. given o (after_run in_number s)) same
    ∙ sym (digits_on-run base 0 (c ∷ s) ∙ ap₂ (λ x y. given (number_on base 0 (digits_among x)) y) run_is after_is)

-- ---- the parts of an integer

pub number_is : (s : Text) → number s ≡ unsigned (is_at 45 s) (past_sign s)
unfolding number
number_is [] = refl
number_is (c ∷ s) = go (c == 43) (c == 45) refl refl
  where
    go : (p m : Bool) → (c == 43) ≡ p → (c == 45) ≡ m → number (c ∷ s) ≡ unsigned (is_at 45 (c ∷ s)) (past_sign (c ∷ s))
    go true m e f = let k : c ≡ 43 = eqb-true c 43 e in rw k refl
    go false true e f = rw (e, f) refl
    go false false e f = rw (e, f) refl

pub magnitude_is : (s : Text) → magnitude s ≡ in_base (base_at s) (past_base s)
unfolding magnitude
magnitude_is [] = refl
magnitude_is (c ∷ []) = go (c == 48) refl
  where
    go : (b : Bool) → (c == 48) ≡ b → magnitude (c ∷ []) ≡ in_base (base_at (c ∷ [])) (past_base (c ∷ []))
    go true e = rw e refl
    go false e = rw e refl
magnitude_is (c ∷ d ∷ s) = go (c == 48) (d == 98) (d == 111) (d == 120) refl refl refl refl
  where
    go : (z b o x : Bool) → (c == 48) ≡ z → (d == 98) ≡ b → (d == 111) ≡ o → (d == 120) ≡ x
        → magnitude (c ∷ d ∷ s) ≡ in_base (base_at (c ∷ d ∷ s)) (past_base (c ∷ d ∷ s))
    go false b o x e f g h = rw e refl
    go true true o x e f g h = rw (e, f) refl
    go true false true x e f g h = rw (e, f, g) refl
    go true false false true e f g h = rw (e, f, g, h) refl
    go true false false false e f g h = rw (e, f, g, h) refl

pub base_bounds : (s : Text) → (2 ≤ base_at s) × (base_at s ≤ 16)
base_bounds s = one (begins_with (codes "0b") s) (begins_with (codes "0o") s) (begins_with (codes "0x") s)
  where
    base_of : Bool → Bool → Bool → ℕ
    base_of b o x = if b then 2 else (if o then 8 else (if x then 16 else 10))

    one : (b o x : Bool) → (2 ≤ base_of b o x) × (base_of b o x ≤ 16)
    one true o x = (omega arith, omega arith)
    one false true x = (omega arith, omega arith)
    one false false true = (omega arith, omega arith)
    one false false false = (omega arith, omega arith)

pub past_sign_end : (s : Text) → IsSuffix (past_sign s) s
past_sign_end [] = record { front = []; is = refl }
past_sign_end (c ∷ s) =
    elim ((c == 43) || (c == 45))
    as (λ b. IsSuffix (if b then s else (c ∷ s)) (c ∷ s)) [ true ↦ record { front = c ∷ []; is = refl } | false ↦ record { front = []; is = refl } ]

pub past_base_end : (s : Text) → IsSuffix (past_base s) s
past_base_end s = elim (opens_base s) as (λ b. IsSuffix (if b then drop 2 s else s) s) [ true ↦ past_two s | false ↦ record { front = []; is = refl } ]
  where
    past_two : (s : Text) → IsSuffix (drop 2 s) s
    past_two [] = record { front = []; is = refl }
    past_two (c ∷ []) = record { front = c ∷ []; is = refl }
    past_two (c ∷ d ∷ s) = record { front = c ∷ d ∷ []; is = refl }

-- ---- a digit at a time

-- where no digit and no `_` follows, the digits have ended
pub digits_on-end : (base high : ℕ) (s : Text) → begins in_number s ≡ false → digits_on base high s ≡ got high s
digits_on-end base high [] e = refl
digits_on-end base high (c ∷ s) e = let k = or_parts (is_ascii_hexdigit c) (c == 95) e in rw (k.0, k.1) refl

pub magnitude_at_end : (base : ℕ) (value : Option ℕ) (s : Text) (answer : Got ℕ) → begins in_number s ≡ false → GoesOn base value s answer
    → IsMagnitude answer value s
magnitude_at_end base (Some n) s answer e h = sym h ∙ digits_on-end base n s e
magnitude_at_end base None s answer e h = record { number = h.0; is = sym h.1.1 ∙ digits_on-end base h.0 s e; large = h.1.0 }

pub ends_number : (c : ℕ) (s after : Text) → s ≡ c ∷ after → is_ascii_hexdigit c ≡ false → (c ≡ 95 → ⊥) → begins in_number s ≡ false
ends_number c s after e f u = let k : (c == 95) ≡ false = grind (arith, nat_tests) in rw (e, f, k) refl

pub digit_refused : (base c : ℕ) (value : Option ℕ) (s after : Text) (answer : Got ℕ) → s ≡ c ∷ after → is_ascii_hexdigit c ≡ true → (digit_value c < base → ⊥)
    → GoesOn base value s answer → answer ≡ failed bad
digit_refused base c value s after answer e f g h = go value h
  where
    not_below : nat_lt (digit_value c) base ≡ false
    not_below = grind (arith, nat_tests)

    bad_digit : (high : ℕ) → digits_on base high s ≡ failed bad
    bad_digit high = rw (e, f, not_below) refl

    go : (value : Option ℕ) → GoesOn base value s answer → answer ≡ failed bad
    go (Some n) h = sym h ∙ bad_digit n
    go None h = sym h.1.1 ∙ bad_digit h.0

-- one digit on
pub digit_taken : (base c digit : ℕ) (value next : Option ℕ) (s after : Text) (answer : Got ℕ) → 2 ≤ base → s ≡ c ∷ after → is_ascii_hexdigit c ≡ true
    → (digit_value c < base) × (digit ≡ digit_value c) → MatchOption value (next ≡ None) (λ n. SomeIff next (n * base + digit < 2 ^ 128) (n * base + digit))
    → GoesOn base value s answer → GoesOn base next after answer
digit_taken base c digit value next s after answer b e f g m h = go value next m h
  where
    below : nat_lt (digit_value c) base ≡ true
    below = let k = g.0 in grind (arith, nat_tests)

    step : (high : ℕ) → digits_on base (high * base + digit) after ≡ digits_on base high s
    step high = rw (g.1, e, f, below) refl

    grows : (high : ℕ) → 2 ^ 128 ≤ high → 2 ^ 128 ≤ high * base + digit
    grows high k = omega (arith, k, mul-le-mul_left high b)

    go : (value next : Option ℕ) → MatchOption value (next ≡ None) (λ n. SomeIff next (n * base + digit < 2 ^ 128) (n * base + digit))
        → GoesOn base value s answer → GoesOn base next after answer
    go (Some n) (Some k) m h = ap (λ x. digits_on base x after) m.1 ∙ step n ∙ h
    go (Some n) None m h = (n * base + digit, (omega (arith, m), step n ∙ h))
    go None (Some k) m h = absurd (cc)
    go None None m h = (h.0 * base + digit, (grows h.0 h.1.0, step h.0 ∙ h.1.1))

pub underscore_passed : (base c : ℕ) (value : Option ℕ) (s after : Text) (answer : Got ℕ) → s ≡ c ∷ after → c ≡ 95 → GoesOn base value s answer
    → GoesOn base value after answer
underscore_passed base c value s after answer e f h = go value h
  where
    same : (high : ℕ) → digits_on base high after ≡ digits_on base high s
    same high = rw (e, f) refl

    go : (value : Option ℕ) → GoesOn base value s answer → GoesOn base value after answer
    go (Some n) h = same n ∙ h
    go None h = (h.0, (h.1.0, same h.0 ∙ h.1.1))

-- what follows digits is not the text that they begin
pub past_digits : (text rest : Text) → begins is_ascii_hexdigit text ≡ true → begins in_number rest ≡ false → IsSuffix rest text → IsProperSuffix rest text
past_digits text rest e f h = go h.front h.is
  where
    in_digits : (s : Text) → begins is_ascii_hexdigit s ≡ true → begins in_number s ≡ true
    in_digits [] k = absurd (cc)
    in_digits (c ∷ s) k = rw k refl

    go : (front : Text) → text ≡ front ++ rest → IsProperSuffix rest text
    go [] k = absurd (let t : begins in_number text ≡ true = in_digits text e in let u : begins in_number text ≡ false = ap (begins in_number) k ∙ f in cc)
    go (c ∷ front) k = record { first = c; front = front; is = k }

-- ---- whole

-- where the digits begin is an end of the text
pub digits_end : (s u digits : Text) → u ≡ past_sign s → digits ≡ past_base u → IsSuffix digits s
digits_end s u digits e f = end_of_end digits u s (subst (λ x. IsSuffix x u) (sym f) (past_base_end u)) (subst (λ x. IsSuffix x s) (sym e) (past_sign_end s))

-- what follows the suffix, behind what follows the digits
pub past_numeral : (s digits behind rest : Text) → IsSuffix digits s → IsProperSuffix behind digits → IsSuffix rest behind → IsProperSuffix rest s
past_numeral s digits behind rest e h f = go e.front e.is
  where
    tail : digits ≡ (h.first ∷ (h.front ++ f.front)) ++ rest
    tail = h.is ∙ ap (λ x. h.first ∷ x) (ap (λ x. h.front ++ x) f.is ∙ sym (append_assoc h.front f.front rest))

    go : (front : Text) → s ≡ front ++ digits → IsProperSuffix rest s
    go [] k = record { first = h.first; front = h.front ++ f.front; is = k ∙ tail }
    go (c ∷ front) k = record {
      first = c;
      front = front ++ (h.first ∷ (h.front ++ f.front));
      is = k ∙ ap (λ x. c ∷ x) (ap (λ x. front ++ x) tail ∙ sym (append_assoc front (h.first ∷ (h.front ++ f.front)) rest));
    }

-- the integer behind its sign and its base
unsigned_is : (s u digits : Text) (base : ℕ) (minus : Bool) → minus ≡ is_at 45 s → u ≡ past_sign s → base ≡ base_at u → digits ≡ past_base u
    → (magnitude u ≡ in_base base digits) × (number s ≡ unsigned minus u)
unsigned_is s u digits base minus m e b d =
    (magnitude_is u ∙ ap₂ (λ x y. in_base x y) (sym b) (sym d), number_is s ∙ ap₂ (λ x y. unsigned x y) (sym m) (sym e))

pub number_read : (s u digits behind rest : Text) (base n : ℕ) (x : Option Suffix) (minus : Bool) → minus ≡ is_at 45 s → u ≡ past_sign s → base ≡ base_at u
    → digits ≡ past_base u → in_base base digits ≡ got n behind → opt_suffix behind ≡ got x rest
    → number s ≡ got (record { minus = minus; magnitude = n; suffix = x }) rest
number_read s u digits behind rest base n x minus m e b d value suffix =
    let k = unsigned_is s u digits base minus m e b d in
    let magnitude_read : magnitude u ≡ got n behind = k.0 ∙ value in
    k.1 ∙ rw (magnitude_read, suffix) refl

pub number_refused : (s u digits : Text) (base : ℕ) (minus : Bool) → minus ≡ is_at 45 s → u ≡ past_sign s → base ≡ base_at u → digits ≡ past_base u
    → in_base base digits ≡ failed bad → number s ≡ failed bad
number_refused s u digits base minus m e b d value =
    let k = unsigned_is s u digits base minus m e b d in
    let magnitude_refused : magnitude u ≡ failed bad = k.0 ∙ value in
    k.1 ∙ rw magnitude_refused refl

pub number_large : (s u digits behind rest : Text) (base : ℕ) (x : Option Suffix) (minus : Bool) → minus ≡ is_at 45 s → u ≡ past_sign s → base ≡ base_at u
    → digits ≡ past_base u → IsLarge (in_base base digits) behind → opt_suffix behind ≡ got x rest → IsLargeNumeral (number s) rest
number_large s u digits behind rest base x minus m e b d large suffix = record {
  numeral = record { minus = minus; magnitude = large.number; suffix = x };
  is = number_read s u digits behind rest base large.number x minus m e b d large.is suffix;
  large = large.large;
}

pub number_ended : (s : Text) → is_ended s ≡ true → number s ≡ failed bad
unfolding number magnitude
number_ended [] e = refl
number_ended (c ∷ s) e = absurd (cc)

pub refused : (answer : Got Numeral) (fault : NumeralFault) (rest : Text) → (fault ≡ OutOfBounds → ⊥) → answer ≡ failed bad → RefusesNumeral answer fault rest
refused answer Eof rest h e = e
refused answer NoDigit rest h e = e
refused answer LeadingUnderscore rest h e = e
refused answer (InvalidDigit d b) rest h e = e
refused answer OutOfBounds rest h e = absurd (h refl)
