-- A number in the width that is found for it.
use Rattle.std.specs.Prelude.{◌≡◌, ℤ, Option, Some, None, MatchOption}
use Rattle.ron_value_number.specs.declared.number.Number.{Number}
use Rattle.ron_value_number.specs.declared.width.Width.{Width}
use Rattle.ron_value_number.specs.Number.{number_width, number_value}

-- the number of this width and value, or none exactly where no width is found
abbrev pub IsNumberOf : Option Width → ℤ → Option Number → Type 0
IsNumberOf found z answer = MatchOption answer (found ≡ None) (λ n. (found ≡ Some (number_width n)) × (number_value n ≡ z))
