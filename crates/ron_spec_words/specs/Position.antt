-- The position of the place that a front of a text leads to.
use Rattle.std.specs.Prelude.{ℕ, ◌+◌, ◌==◌, length, count_by}
use Rattle.std.specs.List.{after_last}
use Rattle.ron_spec_words.specs.Characters.{Text, line_feed}

-- one plus the LFs before the place
abbrev pub line_after : Text → ℕ
line_after front = count_by (λ c. c == line_feed) front + 1

-- one plus the characters after the last LF before the place
abbrev pub column_after : Text → ℕ
column_after front = length (after_last (λ c. c == line_feed) front) + 1
