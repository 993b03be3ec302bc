-- A sign, decimal digits and a suffix spell an integer, before a text that no XID_Continue character begins.
use Rattle.std.proofs.Common.{◌≡◌, ℕ, ◌+◌, ◌/◌, ◌%◌, ◌^◌, ◌<◌, ◌≤◌, nat_lt, nat_le, ◌⊎◌, ◌==◌, Bool, true, false, ◌||◌, length, [], ◌∷◌, ◌++◌, codes, decimal}
use Rattle.std.proofs.Common.{Option, Some, None, inl, inr, refl, sym, ap, ◌∙◌, arith, length-append, eqb-true, leb-true}
use Rattle.std.proofs.lemmas.Bool.{and_parts}
use Rattle.std.proofs.lemmas.Fmt.{decimal_by_steps_wide}
use Rattle.std.proofs.Math.Bool.{and-false}
use Rattle.std.specs.Char.{is_ascii_hexdigit, digit_value}
use Rattle.std.specs.Int.{is_in_range}
use Rattle.unicode_ident.proofs.Computing.{unicode_ident}
use Rattle.ron_spec_words.specs.Characters.{Text, continues_name}
use Rattle.ron_spec_words.specs.Runs.{begins, is_at, Every, begins_with}
use Rattle.ron_spec_words.specs.Directly.{stands}
use Rattle.ron_spec_words.specs.Number.{Suffix, i8, i16, i32, i64, i128, u8, u16, u32, u64, u128, suffix_word, OptSuffix, in_number, is_below, place_value}
use Rattle.ron_spec_words.specs.Number.{digits_among, opens_base, Magnitude, Unsigned, Number}
use Rattle.ron_spec_words.proofs.Classes.{apart, AllFrom, among}
use Rattle.ron_spec_words.proofs.NumberDigits.{place_value-digit, is_below-digit}

-- ---- what may follow

-- what holds of each character of a range
pub in_range_all : (P : ℕ → Type 0) (n lo hi c : ℕ) → hi + 1 ≡ lo + n → AllFrom P n lo → is_in_range lo hi c ≡ true → P c
in_range_all P n lo hi c e h r =
    let w = and_parts (nat_le lo c) (nat_le c hi) r in
    among P n lo c (leb-true lo c w.0) (let m = leb-true c hi w.1 in omega (arith, m, e)) h

pub or_cases : (a b : Bool) → (a || b) ≡ true → (a ≡ true) ⊎ (b ≡ true)
or_cases true b e = inl refl
or_cases false b e = inr e

-- what stands among the digits of an integer is XID_Continue
pub number_continues : (c : ℕ) → in_number c ≡ true → continues_name c ≡ true
unfolding unicode_ident
number_continues c e = go (or_cases (is_ascii_hexdigit c) (c == 95) e)
  where
    P : ℕ → Type 0
    P k = continues_name k ≡ true

    hex : (is_in_range 48 57 c || is_in_range 65 70 c ≡ true) ⊎ (is_in_range 97 102 c ≡ true) → P c
    hex (inl k) = digit_or_upper (or_cases (is_in_range 48 57 c) (is_in_range 65 70 c) k)
      where
        digit_or_upper : (is_in_range 48 57 c ≡ true) ⊎ (is_in_range 65 70 c ≡ true) → P c
        digit_or_upper (inl r) = in_range_all P 10 48 57 c refl (refl, (refl, (refl, (refl, (refl, (refl, (refl, (refl, (refl, (refl, tt)))))))))) r
        digit_or_upper (inr r) = in_range_all P 6 65 70 c refl (refl, (refl, (refl, (refl, (refl, (refl, tt)))))) r
    hex (inr r) = in_range_all P 6 97 102 c refl (refl, (refl, (refl, (refl, (refl, (refl, tt)))))) r

    go : (is_ascii_hexdigit c ≡ true) ⊎ ((c == 95) ≡ true) → P c
    go (inl k) = hex (or_cases (is_in_range 48 57 c || is_in_range 65 70 c) (is_in_range 97 102 c) k)
    go (inr k) = let same : c ≡ 95 = eqb-true c 95 k in rw same refl

no_number : (c : ℕ) → continues_name c ≡ false → in_number c ≡ false
no_number c e = go (in_number c) refl
  where
    go : (b : Bool) → in_number c ≡ b → b ≡ false
    go true k = absurd (let x : true ≡ false = sym (number_continues c k) ∙ e in cc)
    go false k = refl

-- what is no XID_Continue character is none of these
other : (n c : ℕ) → continues_name n ≡ true → continues_name c ≡ false → (c == n) ≡ false
other n c k e = go (c == n) refl
  where
    go : (b : Bool) → (c == n) ≡ b → b ≡ false
    go true h = absurd (let x : true ≡ false = sym k ∙ ap continues_name (sym (eqb-true c n h)) ∙ e in cc)
    go false h = refl

no_word : (c : ℕ) (w next : Text) → continues_name c ≡ true → begins continues_name next ≡ false → stands (c ∷ w) next ≡ false
no_word c w [] k e = refl
no_word c w (d ∷ s) k e = rw (other c d k e) refl

no_suffix : (next : Text) → begins continues_name next ≡ false → (x : Suffix) → stands (suffix_word x) next ≡ false
unfolding unicode_ident
no_suffix next e i8 = no_word 105 (codes "8") next refl e
no_suffix next e i16 = no_word 105 (codes "16") next refl e
no_suffix next e i32 = no_word 105 (codes "32") next refl e
no_suffix next e i64 = no_word 105 (codes "64") next refl e
no_suffix next e i128 = no_word 105 (codes "128") next refl e
no_suffix next e u8 = no_word 117 (codes "8") next refl e
no_suffix next e u16 = no_word 117 (codes "16") next refl e
no_suffix next e u32 = no_word 117 (codes "32") next refl e
no_suffix next e u64 = no_word 117 (codes "64") next refl e
no_suffix next e u128 = no_word 117 (codes "128") next refl e

-- ---- decimal digits

pub record IsDecimal (n : ℕ) (ds : Text) : Type 0 where
  pub some : 1 ≤ length ds
  pub hex : Every is_ascii_hexdigit ds
  pub below : is_below 10 ds ≡ true
  pub value : place_value 10 ds ≡ n

abbrev IsDigitOf : ℕ → Type 0
IsDigitOf d = (is_ascii_hexdigit (48 + d) ≡ true) × (digit_value (48 + d) ≡ d) × (nat_lt (digit_value (48 + d)) 10 ≡ true)

digits_of_ten : (d : ℕ) → d < 10 → IsDigitOf d
digits_of_ten d h = among IsDigitOf 10 0 d (omega arith) (omega (arith, h)) all
  where
    all : AllFrom IsDigitOf 10 0
    all = (
      (refl, refl, refl),
      (
        (refl, refl, refl),
        (
          (refl, refl, refl),
          (
            (refl, refl, refl),
            ((refl, refl, refl), ((refl, refl, refl), ((refl, refl, refl), ((refl, refl, refl), ((refl, refl, refl), ((refl, refl, refl), tt)))))),
          ),
        ),
      ),
    )

every-append : (p : ℕ → Bool) (t : Text) (c : ℕ) → Every p t → p c ≡ true → Every p (t ++ c ∷ [])
every-append p [] c h e = (e, tt)
every-append p (d ∷ t) c h e = (h.0, every-append p t c h.1 e)

pub decimal_is : (n : ℕ) → n < 10 ^ 64 → IsDecimal n (decimal n)
decimal_is n h = decimal_by_steps_wide IsDecimal one more n h
  where
    one : (n : ℕ) → n < 10 → IsDecimal n ((48 + n) ∷ [])
    one n h = let d = digits_of_ten n h in
        record { some = omega arith; hex = (d.0, tt); below = rw d.2 refl; value = place_value-digit 10 [] (48 + n) ∙ rw d.1 (omega arith) }

    more : (n : ℕ) (ds : Text) → 10 ≤ n → IsDecimal (n / 10) ds → IsDecimal n (ds ++ ((48 + n % 10) ∷ []))
    more n ds m y =
        let d = digits_of_ten (n % 10) (omega arith) in
        record {
          some = let s = y.some in omega (arith, s, length-append ds ((48 + n % 10) ∷ []));
          hex = every-append is_ascii_hexdigit ds (48 + n % 10) y.hex d.0;
          below = is_below-digit 10 ds (48 + n % 10) ∙ rw (y.below, d.2) refl;
          value = place_value-digit 10 ds (48 + n % 10) ∙ rw (y.value, d.1) (omega arith);
        }

-- no `_` among them
hex_digits : (ds : Text) → Every is_ascii_hexdigit ds → digits_among ds ≡ ds
hex_digits [] h = refl
hex_digits (c ∷ ds) h = rw (apart is_ascii_hexdigit 95 c refl h.0) (ap (λ x. c ∷ x) (hex_digits ds h.1))

-- behind decimal digits, no digit of another base's mark stands
no_mark : (m : ℕ) → nat_lt (digit_value m) 10 ≡ false → (ds u : Text) → is_below 10 ds ≡ true → is_at m u ≡ false → begins_with (m ∷ []) (ds ++ u) ≡ false
no_mark m e [] [] b h = refl
no_mark m e [] (c ∷ u) b h = rw h refl
no_mark m e (c ∷ ds) u b h = rw (apart (λ d. nat_lt (digit_value d) 10) m c e (and_parts (nat_lt (digit_value c) 10) (is_below 10 ds) b).0) refl

-- what follows the digits: no hexadecimal digit, no `_`, no `o` and no `x`
record AfterDigits (u : Text) : Type 0 where
  no_digit : begins in_number u ≡ false
  no_b : is_at 98 u ≡ false
  no_o : is_at 111 u ≡ false
  no_x : is_at 120 u ≡ false

pub hex_goes_on : (c : ℕ) → is_ascii_hexdigit c ≡ true → in_number c ≡ true
hex_goes_on c e = rw e refl

pub every-weaker : (p q : ℕ → Bool) → ((c : ℕ) → p c ≡ true → q c ≡ true) → (t : Text) → Every p t → Every q t
every-weaker p q k [] h = tt
every-weaker p q k (c ∷ t) h = (k c h.0, every-weaker p q k t h.1)

magnitude_written : (n : ℕ) (ds u : Text) → IsDecimal n ds → AfterDigits u → Magnitude ds u n
magnitude_written n [] u y a = absurd (let s = y.some in omega (arith, s))
magnitude_written n (c ∷ ds) u y a =
    let b = (and_parts (nat_lt (digit_value c) 10) (is_below 10 ds) y.below).1 in
    let e = hex_digits (c ∷ ds) y.hex in
    let no_base : opens_base ((c ∷ ds) ++ u) ≡ false =
    rw (no_mark 98 refl ds u b a.no_b, no_mark 111 refl ds u b a.no_o, no_mark 120 refl ds u b a.no_x, and-false (c == 48)) refl in
    inr (inr (inr (
      rw no_base refl,
      record {
        value = c ∷ ds;
        spelled = record { same = refl; every = (y.hex.0, every-weaker is_ascii_hexdigit in_number hex_goes_on ds y.hex.1); longest = a.no_digit };
        meant = rw (e, y.below, y.value) refl;
      },
    )))

-- ---- whole

-- a suffix or nothing
abbrev pub suffix_text : Option Suffix → Text
suffix_text None = []
suffix_text (Some x) = suffix_word x

suffix_follows : (x : Suffix) (next : Text) → AfterDigits (suffix_word x ++ next)
suffix_follows i8 next = record { no_digit = refl; no_b = refl; no_o = refl; no_x = refl }
suffix_follows i16 next = record { no_digit = refl; no_b = refl; no_o = refl; no_x = refl }
suffix_follows i32 next = record { no_digit = refl; no_b = refl; no_o = refl; no_x = refl }
suffix_follows i64 next = record { no_digit = refl; no_b = refl; no_o = refl; no_x = refl }
suffix_follows i128 next = record { no_digit = refl; no_b = refl; no_o = refl; no_x = refl }
suffix_follows u8 next = record { no_digit = refl; no_b = refl; no_o = refl; no_x = refl }
suffix_follows u16 next = record { no_digit = refl; no_b = refl; no_o = refl; no_x = refl }
suffix_follows u32 next = record { no_digit = refl; no_b = refl; no_o = refl; no_x = refl }
suffix_follows u64 next = record { no_digit = refl; no_b = refl; no_o = refl; no_x = refl }
suffix_follows u128 next = record { no_digit = refl; no_b = refl; no_o = refl; no_x = refl }

after_digits : (x : Option Suffix) (next : Text) → begins continues_name next ≡ false → AfterDigits (suffix_text x ++ next)
unfolding unicode_ident
after_digits (Some x) next e = suffix_follows x next
after_digits None [] e = record { no_digit = refl; no_b = refl; no_o = refl; no_x = refl }
after_digits None (c ∷ s) e = record { no_digit = no_number c e; no_b = other 98 c refl e; no_o = other 111 c refl e; no_x = other 120 c refl e }

suffix_written : (x : Option Suffix) (next : Text) → begins continues_name next ≡ false → OptSuffix (suffix_text x) next x
suffix_written (Some x) next e = record { same = refl; ends = e; value = refl }
suffix_written None next e = (refl, no_suffix next e)

unsigned_written : (minus : Bool) (n : ℕ) (x : Option Suffix) (next : Text) → n < 10 ^ 64 → begins continues_name next ≡ false
    → Unsigned minus (decimal n ++ suffix_text x) next (record { minus = minus; magnitude = n; suffix = x })
unsigned_written minus n x next h e = record {
  value = n;
  left = decimal n;
  right = suffix_text x;
  split = refl;
  first = magnitude_written n (decimal n) (suffix_text x ++ next) (decimal_is n h) (after_digits x next e);
  second = record { value = x; spelled = suffix_written x next e; meant = refl };
}

-- `-` or nothing
abbrev pub sign_text : Bool → Text
sign_text true = 45 ∷ []
sign_text false = []

pub number_written : (minus : Bool) (n : ℕ) (x : Option Suffix) (next : Text) → n < 10 ^ 64 → begins continues_name next ≡ false
    → Number (sign_text minus ++ (decimal n ++ suffix_text x)) next (record { minus = minus; magnitude = n; suffix = x })
number_written true n x next h e = inr (inl (record { rest = decimal n ++ suffix_text x; split = refl; spelled = unsigned_written true n x next h e }))
number_written false n x next h e = inr (inr (unsigned_written false n x next h e))
