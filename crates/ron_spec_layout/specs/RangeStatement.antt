-- What is claimed of compact ranges.
use Rattle.std.specs.Prelude.{◌≡◌, ℕ, Bool, true, List, Some}
use Rattle.ron_spec_words.specs.Characters.{Text}
use Rattle.ron_spec_grammar.specs.Data.{Data}
use Rattle.ron_spec_grammar.specs.Schema.{Shape, is_well_formed, OfShape}
use Rattle.ron_spec_grammar.specs.Rule.{Extensions}
use Rattle.ron_spec_grammar.specs.Grammar.{Spells}
use Rattle.ron_spec_layout.specs.Normal.{norm_with}
use Rattle.ron_spec_layout.specs.Ranges.{range_text}
use Rattle.ron_spec_layout.specs.Stand.{Stands, MayFollow}

-- The text of data of a well-formed schema as a range stands for its normal form under all extensions, bare or not, whatever levels are left.
abbrev pub AreRangesSpelled : Type 0
AreRangesSpelled = (suffixes : Bool) (x : Extensions) (schema : List Shape) (root i room : ℕ) (bare : Bool) (next : Text) (d : Data) (t : Text)
    → is_well_formed schema root ≡ true → OfShape schema i d → range_text suffixes d ≡ Some t → MayFollow bare next
    → Stands (Spells x schema room bare i) t next (norm_with suffixes d)
