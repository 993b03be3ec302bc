-- How many keys a search may look at.
use Rattle.std.specs.Prelude.{ℕ, length}
use Rattle.std.specs.Int.Digits.{digits_of}

-- how many digits n has in base 2: none where n is 0
abbrev pub binary_digits : ℕ → ℕ
binary_digits n = length (digits_of 2 n)
