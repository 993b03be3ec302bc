-- The shape of values without a schema.
use Rattle.std.specs.Prelude.{ℕ, Bool, Option, Some}
use Rattle.ron_spec_words.specs.Characters.{Text}
use Rattle.ron_spec_words.specs.Lang.{Lang, Means}
use Rattle.ron_spec_words.specs.Reader.{Reader, means}
use Rattle.ron_value.specs.Tree.{Tree}
use Rattle.ron_spec_grammar.specs.Data.{Data, value_of}
use Rattle.ron_spec_grammar.specs.Rule.{Extensions}
use Rattle.ron_spec_grammar.specs.Values.Grammar.{AnySpells, read_any}

-- a value as data
abbrev pub value_data : Tree → Option Data
value_data t = Some (value_of t)

-- whatever a value may be spelled as
abbrev pub ValueText : Extensions → ℕ → Bool → Text → Lang Data
ValueText x room bare before = Means (AnySpells x.unwrap_variant_newtypes room bare before) value_data

-- ---- its reader function

abbrev pub read_any_value : Extensions → ℕ → Bool → Text → Reader Data
read_any_value x room bare before = means (read_any x.unwrap_variant_newtypes room bare before) value_data
