-- The digits of an integer, of any base, one at a time: for the readers of numbers and for what is written of them.
use Rattle.std.proofs.Common.{◌≡◌, ℕ, ◌+◌, ◌*◌, ◌^◌, nat_lt, suc, Bool, true, false, ◌&&◌, length, [], ◌∷◌, ◌++◌, refl, sym, ap, ◌∙◌, arith, length-append}
use Rattle.std.proofs.Common.{add_assoc, mul_assoc, mul_comm}
use Rattle.std.proofs.Math.Nat.{add-mul, pow-suc, pow-zero}
use Rattle.std.specs.Char.{digit_value}
use Rattle.std.specs.Str.Parse.{digits_value, digits_value_after}
use Rattle.ron_spec_words.specs.Characters.{Text}
use Rattle.ron_spec_words.specs.Number.{is_below, place_value}

length-one : (t : Text) (c : ℕ) → length (t ++ c ∷ []) ≡ suc (length t)
length-one t c = length-append t (c ∷ []) ∙ omega arith

-- one more digit: the base times as much, and the digit
pub place_value-digit : (base : ℕ) (t : Text) (c : ℕ) → place_value base (t ++ c ∷ []) ≡ place_value base t * base + digit_value c
place_value-digit base [] c = let p : base ^ 0 ≡ 1 = pow-zero base in rw p (omega arith)
place_value-digit base (d ∷ t) c =
    let v = digit_value d in
    let shifted : v * base ^ length (t ++ c ∷ []) ≡ (v * base ^ length t) * base =
    ap (λ k. v * base ^ k) (length-one t c) ∙ ap (λ p. v * p) (pow-suc base (length t)) ∙ sym (mul_assoc v (base ^ length t) base) in
    rw (place_value-digit base t c, add-mul (v * base ^ length t) (place_value base t) base, shifted)
    (sym (add_assoc ((v * base ^ length t) * base) (place_value base t * base) (digit_value c)))

pub is_below-digit : (base : ℕ) (t : Text) (c : ℕ) → is_below base (t ++ c ∷ []) ≡ (is_below base t && nat_lt (digit_value c) base)
is_below-digit base [] c = and_true (nat_lt (digit_value c) base)
  where
    and_true : (b : Bool) → (b && true) ≡ b
    and_true true = refl
    and_true false = refl
is_below-digit base (d ∷ t) c = ap (λ b. nat_lt (digit_value d) base && b) (is_below-digit base t c)
    ∙ and-assoc (nat_lt (digit_value d) base) (is_below base t) (nat_lt (digit_value c) base)
  where
    and-assoc : (a b c : Bool) → (a && (b && c)) ≡ ((a && b) && c)
    and-assoc true b c = refl
    and-assoc false b c = refl

-- the sum of each digit times its power is what std's digits from the left come to
pub place_value-after : (base n : ℕ) (t : Text) → digits_value_after base n t ≡ n * base ^ length t + place_value base t
place_value-after base n [] = let p : base ^ 0 ≡ 1 = pow-zero base in rw p (omega arith)
place_value-after base n (c ∷ t) =
    let e : (n * base + digit_value c) * base ^ length t ≡ n * base ^ length (c ∷ t) + digit_value c * base ^ length t =
    add-mul (n * base) (digit_value c) (base ^ length t) ∙ ap (λ x. x + digit_value c * base ^ length t)
    (mul_assoc n base (base ^ length t) ∙ ap (λ x. n * x) (mul_comm base (base ^ length t) ∙ sym (pow-suc base (length t)))) in
    place_value-after base (n * base + digit_value c) t ∙ rw e (add_assoc (n * base ^ length (c ∷ t)) (digit_value c * base ^ length t) (place_value base t))

pub place_value-digits_value : (base : ℕ) (t : Text) → digits_value base t ≡ place_value base t
place_value-digits_value base t = place_value-after base 0 t ∙ omega arith
