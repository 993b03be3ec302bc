-- Two lists compared from the left, where one of them has ended: for the order of values and of data.
use Rattle.std.proofs.Common.{◌≡◌, ◌∙◌, refl, ℕ, zero, suc, ◌≤◌, List, [], ◌∷◌, length, drop, map, arith}
use Rattle.std.proofs.lemmas.Bool.Decides.{nat_tests}
use Rattle.std.specs.declared.cmp.Ordering.{Ordering}
use Rattle.std.specs.Ordering.{nat_cmp}
use Rattle.std.specs.Cmp.Lexicographic.{slice_cmp}

nat_cmp-suc : (m n : ℕ) → nat_cmp m n ≡ nat_cmp (suc m) (suc n)
nat_cmp-suc m n = grind (arith, nat_tests)

module _ {A K : Type 0} (view : A → K) (cmp : K → K → Ordering) where
  -- the lengths decide behind the end of the first list
  pub slice_cmp-first_ended : (xs ys : List A) (i : ℕ) → i ≤ length xs → i ≤ length ys → length xs ≤ i
      → slice_cmp cmp (map view (drop i xs)) (map view (drop i ys)) ≡ nat_cmp (length xs) (length ys)
  slice_cmp-first_ended [] [] zero in_xs in_ys ended = refl
  slice_cmp-first_ended [] (y ∷ ys) zero in_xs in_ys ended = grind (arith, nat_tests)
  slice_cmp-first_ended (x ∷ xs) ys zero in_xs in_ys ended = absurd (omega arith)
  slice_cmp-first_ended [] ys (suc i) in_xs in_ys ended = absurd (omega arith)
  slice_cmp-first_ended (x ∷ xs) [] (suc i) in_xs in_ys ended = absurd (omega arith)
  slice_cmp-first_ended (x ∷ xs) (y ∷ ys) (suc i) in_xs in_ys ended =
      slice_cmp-first_ended xs ys i (omega arith) (omega arith) (omega arith) ∙ nat_cmp-suc (length xs) (length ys)

  -- and behind the end of the second
  pub slice_cmp-second_ended : (xs ys : List A) (i : ℕ) → i ≤ length xs → i ≤ length ys → length ys ≤ i
      → slice_cmp cmp (map view (drop i xs)) (map view (drop i ys)) ≡ nat_cmp (length xs) (length ys)
  slice_cmp-second_ended [] [] zero in_xs in_ys ended = refl
  slice_cmp-second_ended (x ∷ xs) [] zero in_xs in_ys ended = grind (arith, nat_tests)
  slice_cmp-second_ended xs (y ∷ ys) zero in_xs in_ys ended = absurd (omega arith)
  slice_cmp-second_ended xs [] (suc i) in_xs in_ys ended = absurd (omega arith)
  slice_cmp-second_ended [] (y ∷ ys) (suc i) in_xs in_ys ended = absurd (omega arith)
  slice_cmp-second_ended (x ∷ xs) (y ∷ ys) (suc i) in_xs in_ys ended =
      slice_cmp-second_ended xs ys i (omega arith) (omega arith) (omega arith) ∙ nat_cmp-suc (length xs) (length ys)
