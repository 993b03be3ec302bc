-- What every value is read under.
use Rattle.std.specs.Prelude.{◌≡◌, ℕ, Option, Some}
use Rattle.ron_base.specs.Extensions.{ExtensionSet}
use Rattle.ron_base.specs.Limit.{one_deeper}

-- the extensions in force, and how many levels are left, where that is limited
pub record Conditions : Type 0 where
  pub extensions : ExtensionSet
  pub limit : Option ℕ

-- the same, one level deeper
abbrev pub IsDeeper : Conditions → Conditions → Type 0
IsDeeper outer inner = (inner.extensions ≡ outer.extensions) × (one_deeper outer.limit ≡ Some inner.limit)
