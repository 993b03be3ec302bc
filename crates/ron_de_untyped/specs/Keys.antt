-- What stands before the colons.
use Rattle.std.specs.Prelude.{ℕ, Bool, true, false}
use Rattle.ron_spec_words.specs.Characters.{right_parenthesis, right_brace}
use Rattle.ron_de_untyped.specs.declared.entries.Keys.{Keys}
use Rattle.ron_de_untyped.specs.declared.entries.Keys.TheVariants.{Names, Values}

-- the character that closes what they stand in
abbrev pub close_of : Keys → ℕ
close_of Names = right_parenthesis
close_of Values = right_brace

abbrev pub are_names : Keys → Bool
are_names Names = true
are_names Values = false
