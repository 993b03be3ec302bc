-- An integer in decimal spells the integer, begins no option and is no float: for each layout that writes a number.
use Rattle.std.proofs.Common.{◌≡◌, ℕ, zero, suc, ◌^◌, ◌/◌, ◌%◌, ◌<◌, ◌≤◌, ◌==◌, nat_lt, Bool, true, false, cond, ℤ, pos, negsuc, [], ◌∷◌, ◌++◌, length, codes}
use Rattle.std.proofs.Common.{None, append-nil, refl, sym, ◌∙◌, arith, int_le}
use Rattle.std.specs.Fmt.{digits, digits_onto, digit_glyph, decimal, signed_decimal}
use Rattle.std.proofs.lemmas.Bool.{leb-true, and_parts}
use Rattle.std.proofs.lemmas.Bool.Decides.{nat_tests}
use Rattle.ron_spec_words.specs.Characters.{Text, continues_name, continues_word}
use Rattle.ron_spec_words.specs.Runs.{begins, Every, run_of, begins_with}
use Rattle.ron_spec_words.specs.Number.{in_number, Numeral, numeral_value, Number}
use Rattle.ron_spec_words.specs.AnyInteger.{in_float, past_sign, before_dots, is_float}
use Rattle.ron_spec_words.proofs.NumbersWritten.{number_written, every-weaker}
use Rattle.ron_spec_words.proofs.Words.{run-append}
use Rattle.ron_value_number.specs.declared.width.Width.{Width}
use Rattle.ron_value_number.specs.declared.width.Width.TheVariants.{I8, I16, I32, I64, I128}
use Rattle.ron_value_number.specs.Width.{least, greatest, fits}
use Rattle.ron_spec_grammar.specs.Shapes.Int.{suits}
use Rattle.std.specs.Char.{is_ascii_digit, is_ascii_hexdigit}
use Rattle.ron_spec_words.proofs.Gaps.{skip-other}
use Rattle.ron_spec_words.proofs.Classes.{apart, solid_hexdigit}
use Rattle.ron_spec_layout.specs.Brackets.{opens_as_option}
use Rattle.ron_spec_layout.proofs.Guard.{other_mark}
use Rattle.ron_spec_layout.specs.Stand.{Ends}
use Rattle.ron_spec_grammar.proofs.Raw.Quiet.{quiet_class, number_goes_on, float_goes_on}

-- ---- integers of a width

-- no width has more than 39 digits
abbrev IsShort : ℤ → Type 0
IsShort (pos n) = n < 10 ^ 64
IsShort (negsuc n) = suc n < 10 ^ 64

pub fits_short : (w : Width) (n : ℤ) → fits w n ≡ true → IsShort n
fits_short w (pos n) h = at_most w (and_parts (int_le (least w) (pos n)) (int_le (pos n) (greatest w)) h).1
  where
    at_most : (w : Width) → int_le (pos n) (greatest w) ≡ true → n < 10 ^ 64
    at_most I8 h = omega (arith, leb-true n _ h)
    at_most _ h = omega (arith, leb-true n _ h)
fits_short w (negsuc n) h = at_least w (and_parts (int_le (least w) (negsuc n)) (int_le (negsuc n) (greatest w)) h).0
  where
    at_least : (w : Width) → int_le (least w) (negsuc n) ≡ true → suc n < 10 ^ 64
    at_least I8 h = omega (arith, leb-true n _ h)
    at_least I16 h = omega (arith, leb-true n _ h)
    at_least I32 h = omega (arith, leb-true n _ h)
    at_least I64 h = omega (arith, leb-true n _ h)
    at_least I128 h = omega (arith, leb-true n _ h)
    at_least _ h = absurd (cc)

-- what an integer without a suffix spells
abbrev pub plain_numeral : ℤ → Numeral
plain_numeral (pos n) = record { minus = false; magnitude = n; suffix = None }
plain_numeral (negsuc n) = record { minus = true; magnitude = suc n; suffix = None }

pub number_spelled : (w : Width) (n : ℤ) (next : Text) → fits w n ≡ true → begins continues_name next ≡ false → Number (signed_decimal n) next (plain_numeral n)
number_spelled w (pos n) next h e = let k = number_written false n None next (fits_short w (pos n) h) e in rw append-nil at k
number_spelled w (negsuc n) next h e = let k = number_written true (suc n) None next (fits_short w (negsuc n) h) e in rw append-nil at k

-- what goes on with a name goes on with a word
pub ends_name : (next : Text) → Ends next → begins continues_name next ≡ false
ends_name [] e = refl
ends_name (c ∷ next) e = go (continues_name c) refl
  where
    go : (b : Bool) → continues_name c ≡ b → b ≡ false
    go true k = absurd (let word : continues_word c ≡ true = grind arith in let no : true ≡ false = sym word ∙ e.0 in cc)
    go false k = refl

-- its value is the integer
pub plain_value : (n : ℤ) → numeral_value (plain_numeral n) ≡ n
plain_value (pos n) = refl
plain_value (negsuc n) = refl

pub plain_suits : (w : Width) (n : ℤ) → suits w (plain_numeral n).suffix ≡ true
plain_suits w (pos n) = refl
plain_suits w (negsuc n) = refl

-- ---- an integer begins with no word

digit_first : (n : ℕ) → is_ascii_hexdigit (digit_glyph false (n % 10)) ≡ true
digit_first n = grind (arith, nat_tests)

first_step : (k n : ℕ) (ds : Text) → begins is_ascii_hexdigit (digits_onto k 10 false (n / 10) (digit_glyph false (n % 10) ∷ ds)) ≡ true
    → begins is_ascii_hexdigit (digits_onto (suc k) 10 false n ds) ≡ true
first_step k n ds = go (n / 10 == 0)
  where
    more : Text
    more = digits_onto k 10 false (n / 10) (digit_glyph false (n % 10) ∷ ds)

    go : (b : Bool) → begins is_ascii_hexdigit more ≡ true → begins is_ascii_hexdigit (cond b (digit_glyph false (n % 10) ∷ ds) more) ≡ true
    go true h = digit_first n
    go false h = h

digits_no_option : (ds next : Text) → begins is_ascii_hexdigit ds ≡ true → opens_as_option (ds ++ next) ≡ false
digits_no_option [] next h = absurd (cc)
digits_no_option (c ∷ ds) next h =
    other_mark c (ds ++ next) (solid_hexdigit c (ds ++ next) h).1 (apart is_ascii_hexdigit 78 c refl h) (apart is_ascii_hexdigit 83 c refl h)

digits_first : (k n : ℕ) (ds : Text) → begins is_ascii_hexdigit ds ≡ true → begins is_ascii_hexdigit (digits_onto k 10 false n ds) ≡ true
digits_first zero n ds h = h
digits_first (suc k) n ds h = first_step k n ds (digits_first k (n / 10) (digit_glyph false (n % 10) ∷ ds) (digit_first n))

pub integer_no_option : (n : ℤ) (next : Text) → opens_as_option (signed_decimal n ++ next) ≡ false
unfolding digits
integer_no_option (pos n) next =
    digits_no_option (decimal n) next (first_step 63 n [] (digits_first 63 (n / 10) (digit_glyph false (n % 10) ∷ []) (digit_first n)))
integer_no_option (negsuc n) next = other_mark 45 (decimal (suc n) ++ next) (skip-other 45 (decimal (suc n) ++ next) refl refl) refl refl

-- ---- no float stands where an integer in decimal does

digit_last : (n : ℕ) → is_ascii_digit (digit_glyph false (n % 10)) ≡ true
digit_last n = grind (arith, nat_tests)

digits_every : (k n : ℕ) (ds : Text) → Every is_ascii_digit ds → Every is_ascii_digit (digits_onto k 10 false n ds)
digits_every zero n ds h = h
digits_every (suc k) n ds h = go (n / 10 == 0) (digits_every k (n / 10) (digit_glyph false (n % 10) ∷ ds) (digit_last n, h))
  where
    more : Text
    more = digits_onto k 10 false (n / 10) (digit_glyph false (n % 10) ∷ ds)

    go : (b : Bool) → Every is_ascii_digit more → Every is_ascii_digit (cond b (digit_glyph false (n % 10) ∷ ds) more)
    go true k = (digit_last n, h)
    go false k = k

pub decimal_every : (n : ℕ) → Every is_ascii_digit (decimal n)
unfolding digits
decimal_every n = digits_every 64 n [] tt

pub decimal_first : (n : ℕ) → begins is_ascii_hexdigit (decimal n) ≡ true
unfolding digits
decimal_first n = first_step 63 n [] (digits_first 63 (n / 10) (digit_glyph false (n % 10) ∷ []) (digit_first n))

pub before_dots-shorter : (t : Text) → length (before_dots t) ≤ length t
before_dots-shorter [] = omega arith
before_dots-shorter (c ∷ t) = go (begins_with (codes "..") (c ∷ t)) (before_dots-shorter t)
  where
    go : (b : Bool) → length (before_dots t) ≤ length t → length (cond b [] (c ∷ before_dots t)) ≤ suc (length t)
    go true le = omega arith
    go false le = omega (arith, le)

-- digits that nothing goes on with are as many in either run
digits_no_float : (ds next : Text) → Every is_ascii_digit ds → Ends next
    → nat_lt (length (run_of in_number (ds ++ next))) (length (before_dots (run_of in_float (ds ++ next)))) ≡ false
digits_no_float ds next h e =
    let as_number : run_of in_number (ds ++ next) ≡ ds =
    run-append in_number ds next (every-weaker is_ascii_digit in_number (λ c k. rw k refl) ds h) (quiet_class in_number number_goes_on next e.0) in
    let as_float : run_of in_float (ds ++ next) ≡ ds =
    run-append in_float ds next (every-weaker is_ascii_digit in_float (λ c k. rw k refl) ds h) (quiet_class in_float float_goes_on next e.0) in
    rw (as_number, as_float) (go (nat_lt (length ds) (length (before_dots ds))) refl)
  where
    go : (b : Bool) → nat_lt (length ds) (length (before_dots ds)) ≡ b → b ≡ false
    go true k = absurd (let le = before_dots-shorter ds in let lt = leb-true (suc (length ds)) (length (before_dots ds)) k in omega (arith, le, lt))
    go false k = refl

-- digits have no sign
pub past_digits : (ds next : Text) → begins is_ascii_hexdigit ds ≡ true → past_sign (ds ++ next) ≡ ds ++ next
past_digits [] next h = absurd (cc)
past_digits (c ∷ ds) next h = rw (apart is_ascii_hexdigit 43 c refl h, apart is_ascii_hexdigit 45 c refl h) refl

pub no_float : (n : ℤ) (next : Text) → Ends next → is_float (signed_decimal n ++ next) ≡ false
no_float (pos n) next e = rw (past_digits (decimal n) next (decimal_first n)) (digits_no_float (decimal n) next (decimal_every n) e)
no_float (negsuc n) next e = digits_no_float (decimal (suc n)) next (decimal_every (suc n)) e
