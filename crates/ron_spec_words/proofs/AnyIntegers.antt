-- Integers and byte literals are read exactly, and what may not follow an integer: for the shapes of integers and for values.
use Rattle.std.proofs.Common.{◌≡◌, ℕ, nat_lt, ◌==◌, Bool, true, false, not, ◌&&◌, ◌||◌, cond, [], ◌∷◌, ◌++◌, codes, Option, Some, None, inl, inr, refl, sym, ap}
use Rattle.std.proofs.Common.{◌∙◌, append-nil}
use Rattle.std.proofs.lemmas.Bool.{and_parts, or_parts, not-true}
use Rattle.std.specs.Char.{is_ascii_hexdigit, digit_value}
use Rattle.ron_spec_words.specs.Characters.{Text}
use Rattle.ron_spec_words.specs.Runs.{begins, is_at, begins_with}
use Rattle.ron_spec_words.specs.Lang.{Run, Behind, When}
use Rattle.ron_spec_words.specs.Exact.{IsWordReader}
use Rattle.ron_spec_words.specs.Directly.{stands}
use Rattle.ron_spec_words.specs.Number.{Suffix, suffix_word, OptSuffix, in_number, is_below, place_value, digits_among, number_in, InBase, opens_base}
use Rattle.ron_spec_words.specs.Number.{Magnitude, Numeral, numeral, Unsigned, Number}
use Rattle.ron_spec_words.specs.AnyInteger.{byte_numeral, AnyInteger, any_integer, is_float, UntypedInteger, untyped_integer, IsLoneZero, NumberEnds}
use Rattle.ron_spec_words.proofs.Words.{First, word_choose, word_means, word_when, first_behind, first_or, first_means}
use Rattle.ron_spec_words.proofs.Classes.{apart, Solid, solid_mark, solid_hexdigit}
use Rattle.ron_spec_words.proofs.Direct.{first_directly}
use Rattle.ron_spec_words.proofs.Numbers.{word_number, first_based, no_sign}
use Rattle.ron_spec_words.proofs.Quotes.{word_byte}
use Rattle.ron_spec_words.proofs.LiteralStarts.{first_byte, first_number}

-- ---- a byte literal is no integer

meant_below : (b : Bool) (o : Option ℕ) (n : ℕ) → cond b o None ≡ Some n → b ≡ true
meant_below true o n e = refl
meant_below false o n e = absurd (cc)

-- the first decimal digit is below ten
pub digit_below : (c : ℕ) (t next run : Text) (n : ℕ) → Run is_ascii_hexdigit in_number (c ∷ t) next run → number_in 10 run ≡ Some n
    → nat_lt (digit_value c) 10 ≡ true
digit_below c t next run n z e =
    let k : is_below 10 (digits_among run) ≡ true = meant_below (is_below 10 (digits_among run)) (Some (place_value 10 (digits_among run))) n e in
    let l : is_below 10 (digits_among (c ∷ t)) ≡ true = ap (λ u. is_below 10 (digits_among u)) z.same ∙ k in
    let m : is_below 10 (c ∷ digits_among t) ≡ true = rw (apart is_ascii_hexdigit 95 c refl z.every.0) at l in
    (and_parts (nat_lt (digit_value c) 10) (is_below 10 (digits_among t)) m).0

-- decimal digits do not begin with `b`
pub digits_no_b : (c : ℕ) (t next run : Text) (n : ℕ) → Run is_ascii_hexdigit in_number (c ∷ t) next run → number_in 10 run ≡ Some n → (c == 98) ≡ false
digits_no_b c t next run n z e = apart (λ d. nat_lt (digit_value d) 10) 98 c refl (digit_below c t next run n z e)

no_b : (t next run : Text) (n : ℕ) → Run is_ascii_hexdigit in_number t next run → number_in 10 run ≡ Some n → begins_with (codes "b'") (t ++ next) ≡ false
no_b [] next run n z e = absurd z.every
no_b (c ∷ t) next run n z e = rw (digits_no_b c t next run n z e) refl

abbrev NoByte : Text → Type 0
NoByte s = begins_with (codes "b'") s ≡ false

decimal_no_byte : First NoByte (When (λ s. not (opens_base s)) (InBase 10))
decimal_no_byte = record { holds = λ t next n z. no_b t next z.1.value n z.1.spelled z.1.meant }

number_no_byte : First NoByte Number
number_no_byte = first_or (first_behind NoByte 43 _ (λ s. refl)) (first_or (first_behind NoByte 45 _ (λ s. refl)) (first_directly
    (first_or (first_based NoByte 98 2 (λ s. refl))
    (first_or (first_based NoByte 111 8 (λ s. refl)) (first_or (first_based NoByte 120 16 (λ s. refl)) decimal_no_byte)))))

pub word_any_integer : IsWordReader any_integer AnyInteger
unfolding any_integer
word_any_integer = word_choose (begins_with (codes "b'")) (first_means (first_byte (λ s. begins_with (codes "b'") s ≡ true) (λ s. refl))) number_no_byte
    (word_means byte_numeral word_byte) word_number

pub any_integer_solid : First Solid AnyInteger
any_integer_solid = first_or (first_means (first_byte Solid (λ s. solid_mark 98 (39 ∷ s) refl refl refl)))
    (first_number Solid (λ s. solid_mark 43 s refl refl refl) (λ s. solid_mark 45 s refl refl refl) solid_hexdigit)

pub word_untyped_integer : IsWordReader untyped_integer UntypedInteger
unfolding untyped_integer
word_untyped_integer = word_when (λ s. not (is_float s)) word_any_integer

-- ---- what may not follow

pub begins_one : (c : ℕ) (s : Text) → begins_with (c ∷ []) s ≡ false → is_at c s ≡ false
begins_one c [] e = refl
begins_one c (d ∷ s) e = sym (and_true (d == c)) ∙ e
  where
    and_true : (b : Bool) → (b && true) ≡ b
    and_true true = refl
    and_true false = refl

-- what may not follow a magnitude
record MagnitudeEnds (t next : Text) : Type 0 where
  no_digit : begins in_number next ≡ false
  no_base : t ≡ codes "0" → (is_at 111 next ≡ false) × (is_at 120 next ≡ false)

based_ends : (d base : ℕ) (t next : Text) (n : ℕ) → Behind 48 (Behind d (InBase base)) t next n → MagnitudeEnds t next
based_ends d base t next n z = record {
  no_digit = z.spelled.spelled.spelled.longest;
  no_base = λ e. absurd (let k : 48 ∷ d ∷ z.spelled.rest ≡ codes "0" = sym (z.split ∙ ap (λ u. 48 ∷ u) z.spelled.split) ∙ e in cc);
}

magnitude_ends : (t next : Text) (n : ℕ) → Magnitude t next n → MagnitudeEnds t next
magnitude_ends t next n (inl z) = based_ends 98 2 t next n z
magnitude_ends t next n (inr (inl z)) = based_ends 111 8 t next n z
magnitude_ends t next n (inr (inr (inl z))) = based_ends 120 16 t next n z
magnitude_ends t next n (inr (inr (inr z))) = record { no_digit = z.1.spelled.longest; no_base = lone }
  where
    lone : t ≡ codes "0" → (is_at 111 next ≡ false) × (is_at 120 next ≡ false)
    lone e =
        let f : opens_base (48 ∷ next) ≡ false = ap (λ u. opens_base (u ++ next)) (sym e) ∙ not-true (opens_base (t ++ next)) z.0 in
        let k = or_parts (begins_with (98 ∷ []) next) (begins_with (111 ∷ []) next || begins_with (120 ∷ []) next) f in
        let l = or_parts (begins_with (111 ∷ []) next) (begins_with (120 ∷ []) next) k.1 in
        (begins_one 111 next l.0, begins_one 120 next l.1)

-- without a suffix, a magnitude stands before the text that follows
record UnsignedEnds (t next : Text) : Type 0 where
  ends : MagnitudeEnds t next
  no_suffix : (x : Suffix) → stands (suffix_word x) next ≡ false

no_suffix_there : (t next : Text) (o : Option Suffix) → OptSuffix t next o → o ≡ None → (t ≡ []) × ((x : Suffix) → stands (suffix_word x) next ≡ false)
no_suffix_there t next (Some x) l e = absurd (cc)
no_suffix_there t next None l e = l

suffix_of : (minus : Bool) (n : ℕ) (o : Option Suffix) (m : Numeral) → numeral minus n o ≡ Some m → o ≡ m.suffix
suffix_of minus n o m e = let k : ◌≡◌ {A = Numeral} (record { minus = minus; magnitude = n; suffix = o }) m = cc in ap (λ (z : Numeral). z.suffix) k

unsigned_ends : (minus : Bool) (t next : Text) (n : Numeral) → Unsigned minus t next n → n.suffix ≡ None → UnsignedEnds t next
unsigned_ends minus t next n z e =
    let x = z.second in
    let k = no_suffix_there z.right next x.value x.spelled (suffix_of minus z.value x.value n x.meant ∙ e) in
    let m = magnitude_ends z.left (z.right ++ next) z.value z.first in
    let same : t ≡ z.left = z.split ∙ ap (λ u. z.left ++ u) k.0 ∙ append-nil z.left in
    record { ends = rw same (rw k.0 at m); no_suffix = k.1 }

number_of : (t next : Text) → UnsignedEnds t next → (IsLoneZero t → t ≡ codes "0") → NumberEnds t next
number_of t next h k = record { no_digit = h.ends.no_digit; no_suffix = h.no_suffix; no_base = λ z. h.ends.no_base (k z) }

signed_ends : (c : ℕ) (t rest next : Text) → t ≡ c ∷ rest → (c == 48) ≡ false → UnsignedEnds rest next → NumberEnds t next
signed_ends c t rest next e f h = record { no_digit = h.ends.no_digit; no_suffix = h.no_suffix; no_base = lone }
  where
    tail : (d : ℕ) → t ≡ d ∷ codes "0" → rest ≡ codes "0"
    tail d k = let l : c ∷ rest ≡ d ∷ codes "0" = sym e ∙ k in cc

    lone : IsLoneZero t → (is_at 111 next ≡ false) × (is_at 120 next ≡ false)
    lone (inl k) = absurd (let l : c ∷ rest ≡ codes "0" = sym e ∙ k in let m : c ≡ 48 = cc in let n : (48 == 48) ≡ false = ap (λ x. x == 48) (sym m) ∙ f in cc)
    lone (inr (inl k)) = h.ends.no_base (tail 43 k)
    lone (inr (inr k)) = h.ends.no_base (tail 45 k)

-- an integer without a sign begins with none
unsigned_zero : (t next : Text) (n : Numeral) → Unsigned false t next n → IsLoneZero t → t ≡ codes "0"
unsigned_zero t next n z (inl e) = e
unsigned_zero t next n z (inr (inl e)) =
    absurd (let k = (no_sign false 43 refl).holds t next n z in let l : (43 == 43) ≡ false = ap (λ u. is_at 43 (u ++ next)) (sym e) ∙ k in cc)
unsigned_zero t next n z (inr (inr e)) =
    absurd (let k = (no_sign false 45 refl).holds t next n z in let l : (45 == 45) ≡ false = ap (λ u. is_at 45 (u ++ next)) (sym e) ∙ k in cc)

pub number_ends : (t next : Text) (n : Numeral) → Number t next n → n.suffix ≡ None → NumberEnds t next
number_ends t next n (inl z) e = signed_ends 43 t z.rest next z.split refl (unsigned_ends false z.rest next n z.spelled e)
number_ends t next n (inr (inl z)) e = signed_ends 45 t z.rest next z.split refl (unsigned_ends true z.rest next n z.spelled e)
number_ends t next n (inr (inr z)) e = number_of t next (unsigned_ends false t next n z e) (unsigned_zero t next n z)
