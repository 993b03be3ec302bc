-- What code holds can be encoded: for byte strings, whose law asks it.
use Rattle.std.proofs.Common.{◌≡◌, ℕ, suc, ◌<◌, Fits, w8, nat_lt, slice_index_or, true, List, [], ◌∷◌, refl}
use Rattle.std.specs.List.{list_all}
use Rattle.std.proofs.lemmas.Bool.{and_from, lt-ltb}

-- a slice's bytes are bytes
pub slice_bytes : (bs : List ℕ) → ((i : ℕ) → Fits w8 (slice_index_or bs i 0)) → list_all (λ b. nat_lt b 256) bs ≡ true
slice_bytes [] h = refl
slice_bytes (b ∷ bs) h = let first : b < 256 = (h 0).fits in and_from (nat_lt b 256) _ (lt-ltb b 256 first) (slice_bytes bs (λ i. h (suc i)))
