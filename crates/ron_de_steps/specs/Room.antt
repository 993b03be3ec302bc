-- The room that a limit leaves.
use Rattle.std.specs.Prelude.{◌≡◌, ℕ, ◌≤◌, Option, Some, None}

-- the levels that the limit leaves; with no limit, any that are enough
abbrev pub IsRoom : Option ℕ → ℕ → ℕ → Type 0
IsRoom (Some levels) enough room = room ≡ levels
IsRoom None enough room = enough ≤ room
