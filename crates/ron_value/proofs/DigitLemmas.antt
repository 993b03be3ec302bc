-- Binary digits of a number and of what is left when it is halved: for the count of probes.
use Rattle.std.proofs.Common.{◌≡◌, ℕ, ◌+◌, ◌/◌, ◌^◌, ◌<◌, ◌≤◌, subst, arith}
use Rattle.std.specs.Int.Digits.{digits_of}
use Rattle.std.proofs.lemmas.Int.Digits.{number_digits_of, number_lt, all_below_base_digits_of, length-digits_of-le, length-digits_of_step}
use Rattle.ron_value.specs.Probes.{binary_digits}

binary_digits-lt : (n : ℕ) → n < 2 ^ binary_digits n
binary_digits-lt n =
    subst (λ m. m < 2 ^ binary_digits n) (number_digits_of 2 n (omega arith)) (number_lt 2 (digits_of 2 n) (all_below_base_digits_of 2 n (omega arith)))

binary_digits-le : (m n : ℕ) → m ≤ n → binary_digits m ≤ binary_digits n
binary_digits-le m n le = let below = binary_digits-lt n in length-digits_of-le 2 (binary_digits n) m (omega arith) (omega arith)

-- any number but 0 has a digit more than its half
binary_digits-half : (n : ℕ) → 0 < n → binary_digits n ≡ binary_digits (n / 2) + 1
binary_digits-half n some = length-digits_of_step 2 n (omega arith) some

-- what is no more than half of n has a digit less
pub binary_digits-halved : (m n : ℕ) → 0 < n → m ≤ n / 2 → binary_digits m + 1 ≤ binary_digits n
binary_digits-halved m n some half = omega (arith, binary_digits-le m (n / 2) half, binary_digits-half n some)

pub binary_digits-fit : (n : ℕ) → n < 2 ^ 64 → binary_digits n ≤ 64
binary_digits-fit n fits = length-digits_of-le 2 64 n (omega arith) fits
