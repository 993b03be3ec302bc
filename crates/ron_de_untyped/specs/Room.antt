-- The room that is enough for a part of a value.
use Rattle.std.specs.Prelude.{ℕ, ◌+◌, ◌*◌}

-- levels that are enough for values a level below, on a text of so many characters
abbrev pub enough_for_items : ℕ → ℕ
enough_for_items characters = characters * 6 + 1

-- likewise with the level of their list or map
abbrev pub enough_for_list : ℕ → ℕ
enough_for_list characters = characters * 6 + 2

-- likewise for what stands in any brackets
abbrev pub enough_inside : ℕ → ℕ
enough_inside characters = characters * 6 + 3
