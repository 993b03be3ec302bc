-- A limit on depth, where there is one.
use Rattle.std.specs.Prelude.{ℕ, zero, suc, ◌≤◌, Option, Some, None}

-- the limit one level deeper, if there is one
abbrev pub one_deeper : Option ℕ → Option (Option ℕ)
one_deeper None = Some None
one_deeper (Some zero) = None
one_deeper (Some (suc levels)) = Some (Some levels)

-- the depth is no more than the limit, where there is one
abbrev pub IsWithin : Option ℕ → ℕ → Type 0
IsWithin None depth = Unit {0}
IsWithin (Some levels) depth = depth ≤ levels
