-- The brackets that values stand in.
use Rattle.std.specs.Prelude.{ℕ}
use Rattle.ron_spec_words.specs.Characters.{left_parenthesis, right_parenthesis, left_bracket, right_bracket, left_brace, right_brace}
use Rattle.ron_de_untyped.specs.declared.groups.Brackets.{Brackets}
use Rattle.ron_de_untyped.specs.declared.groups.Brackets.TheVariants.{List, Map, Group}

abbrev pub open_mark : Brackets → ℕ
open_mark List = left_bracket
open_mark Map = left_brace
open_mark Group = left_parenthesis

abbrev pub close_mark : Brackets → ℕ
close_mark List = right_bracket
close_mark Map = right_brace
close_mark Group = right_parenthesis
