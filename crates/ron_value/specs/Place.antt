-- Where a key stands among entries, or where it belongs.
use Rattle.std.specs.Prelude.{◌≡◌, ℕ, zero, suc, [], ◌∷◌, Result, MatchResult, ⊤}
use Rattle.std.specs.declared.cmp.Ordering.TheVariants.{Less, Equal, Greater}
use Rattle.ron_value.specs.declared.value.Value.{Value}
use Rattle.ron_value.specs.View.{value_cmp}
use Rattle.ron_value.specs.Entries.{Entries}

-- k is above the first keys, and equal to the one at this place
abbrev pub IsFoundAt : Value → Entries → ℕ → Type 0
IsFoundAt k [] i = ⊥
IsFoundAt k (e ∷ es) zero = value_cmp k e.0 ≡ Equal
IsFoundAt k (e ∷ es) (suc i) = (value_cmp k e.0 ≡ Greater) × IsFoundAt k es i

-- k is above the first keys, and below the one at this place, if there is one
abbrev pub IsMissingAt : Value → Entries → ℕ → Type 0
IsMissingAt k [] zero = ⊤
IsMissingAt k [] (suc i) = ⊥
IsMissingAt k (e ∷ es) zero = value_cmp k e.0 ≡ Less
IsMissingAt k (e ∷ es) (suc i) = (value_cmp k e.0 ≡ Greater) × IsMissingAt k es i

-- where k stands, or as `Err` where it belongs
abbrev pub IsPlaceOf : Value → Entries → Result ℕ ℕ → Type 0
IsPlaceOf k es r = MatchResult r (IsFoundAt k es) (IsMissingAt k es)
