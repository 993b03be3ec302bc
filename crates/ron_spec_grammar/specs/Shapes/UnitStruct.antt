-- The shape of unit structs.
use Rattle.std.specs.Prelude.{Bool, true, false, Option, Some}
use Rattle.ron_spec_words.specs.Characters.{Text, left_parenthesis}
use Rattle.ron_spec_words.specs.Runs.{is_at}
use Rattle.ron_spec_words.specs.Lang.{Lang, done, Means, Or, OptComma}
use Rattle.ron_spec_words.specs.Reader.{Reader, means, pick, opt_comma}
use Rattle.ron_spec_words.specs.Name.{Named, named}
use Rattle.ron_spec_words.specs.Range.{opens_interval}
use Rattle.ron_spec_grammar.specs.Data.{Data, unit_struct_of}
use Rattle.ron_spec_grammar.specs.Rule.{WithoutName, without_name}
use Rattle.ron_spec_grammar.specs.Shapes.Unit.{EmptyBrackets, empty_brackets}
use Rattle.ron_spec_grammar.specs.Shapes.Range.{full_data, RangeText, read_range}

-- the unit struct of this name, whatever stood for it
abbrev pub unit_struct_data : {A : Type 0} → Text → A → Option Data
unit_struct_data name a = Some (unit_struct_of name)

-- `..` where it is the range of all, the struct's name, or `()` where no name is required; bare `..` or nothing, and perhaps the one comma
abbrev pub UnitStructText : Bool → Text → Bool → Lang Data
UnitStructText required name false =
    Or (RangeText false (full_data name)) (Or (WithoutName required (Means EmptyBrackets (unit_struct_data name))) (Means (Named name) (unit_struct_data name)))
UnitStructText required name true = Or (RangeText true (full_data name)) (Means (OptComma done) (unit_struct_data name))

-- its reader function
abbrev pub read_unit_struct : Bool → Text → Bool → Reader Data
read_unit_struct required name false = pick opens_interval (read_range false (full_data name))
    (pick (is_at left_parenthesis) (without_name required (means empty_brackets (unit_struct_data name))) (means (named name) (unit_struct_data name)))
read_unit_struct required name true = pick opens_interval (read_range true (full_data name)) (means (opt_comma done) (unit_struct_data name))
