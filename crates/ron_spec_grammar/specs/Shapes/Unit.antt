-- The unit.
use Rattle.std.specs.Prelude.{Bool, true, false, Option, Some}
use Rattle.ron_spec_words.specs.Characters.{left_parenthesis, right_parenthesis}
use Rattle.ron_spec_words.specs.Lang.{Lang, Done, done, Mark, Behind, Means, OptComma}
use Rattle.ron_spec_words.specs.Reader.{Reader, mark, behind, means, opt_comma}
use Rattle.ron_spec_grammar.specs.Data.{Data, the_unit}

-- the unit
abbrev pub unit_data : Done → Option Data
unit_data u = Some the_unit

-- `()`, with no gap within
abbrev pub EmptyBrackets : Lang Done
EmptyBrackets = Behind left_parenthesis (Mark right_parenthesis done)

-- its reader function
abbrev pub empty_brackets : Reader Done
empty_brackets = behind left_parenthesis (mark right_parenthesis done)

-- ---- the unit

-- `()`; bare nothing, and perhaps the one comma
abbrev pub UnitText : Bool → Lang Data
UnitText false = Means EmptyBrackets unit_data
UnitText true = Means (OptComma done) unit_data

-- its reader function
abbrev pub read_unit : Bool → Reader Data
read_unit false = means empty_brackets unit_data
read_unit true = means (opt_comma done) unit_data
