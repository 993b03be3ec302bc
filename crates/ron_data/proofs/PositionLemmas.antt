-- The first item of which something holds, among items and among what is seen of them: for names that are looked up.
use Rattle.std.proofs.Common.{◌≡◌, ℕ, ◌+◌, ◌<◌, Bool, true, false, not, cond, nat_lt, List, map, length, Option, Some, None, MatchOption, slice_get, find, refl}
use Rattle.std.proofs.Common.{ap, ◌∙◌}
use Rattle.std.specs.List.{position, position_or_len}
use Rattle.std.proofs.lemmas.List.Recursion.{is_position_or_len}
use Rattle.std.proofs.lemmas.List.{length-map}
use Rattle.std.proofs.lemmas.List.Folds.{find_at}
use Rattle.std.proofs.lemmas.Option.{slice_get_past}
use borrow.Author.Tests.{ltb-true, ltb-false}

-- an index is found by what is seen at each place
module _ {X Y : Type 0} (view : X → Y) (test : Y → Bool) where
  index_in_view : (xs : List X) → position_or_len test (map view xs) ≡ position_or_len (λ x. test (view x)) xs
  index_in_view xs = is_position_or_len (λ xs. position_or_len test (map view xs)) (λ x. test (view x)) refl
      (λ x xs. turn (test (view x)) (position_or_len test (map view xs))) xs
    where
      turn : (b : Bool) (n : ℕ) → cond (not b) (1 + n) 0 ≡ cond b 0 (1 + n)
      turn true n = refl
      turn false n = refl

  pub find_position : (xs : List X) (o : Option ℕ) → o ≡ position (λ x. test (view x)) xs
      → MatchOption o (find test (map view xs) ≡ None) (λ index. (index < length xs) × (find test (map view xs) ≡ slice_get (map view xs) index))
  find_position xs o e = go (nat_lt (position_or_len (λ x. test (view x)) xs) (length xs)) refl o e
    where
      first : ℕ
      first = position_or_len (λ x. test (view x)) xs

      found : find test (map view xs) ≡ slice_get (map view xs) (position_or_len (λ x. test (view x)) xs)
      found = find_at test (map view xs) ∙ ap (slice_get (map view xs)) (index_in_view xs)

      go : (b : Bool) → nat_lt (position_or_len (λ x. test (view x)) xs) (length xs) ≡ b → (o : Option ℕ)
          → o ≡ cond b (Some (position_or_len (λ x. test (view x)) xs)) None
          → MatchOption o (find test (map view xs) ≡ None) (λ index. (index < length xs) × (find test (map view xs) ≡ slice_get (map view xs) index))
      go true t (Some index) q = let same : index ≡ position_or_len (λ x. test (view x)) xs = cc in rw same (ltb-true _ _ t, found)
      go true t None q = absurd (cc)
      go false t None q = found ∙ slice_get_past (map view xs) _ (let l = ltb-false _ _ t in rw (length-map xs view) l)
      go false t (Some index) q = absurd (cc)
