-- What is claimed of raw texts.
use Rattle.std.specs.Prelude.{◌≡◌, ◌↔◌, ℕ, Bool, true, false, List, [], ◌∷◌, ◌++◌, Some}
use Rattle.ron_spec_words.specs.Characters.{Text, comma}
use Rattle.ron_spec_words.specs.Gap.{Gap, skip}
use Rattle.ron_spec_words.specs.Exact.{FollowsValue}
use Rattle.ron_value.specs.Tree.{Tree}
use Rattle.ron_spec_grammar.specs.Data.{raw_of}
use Rattle.ron_spec_grammar.specs.Schema.{Shape, is_well_formed}
use Rattle.ron_spec_grammar.specs.Rule.{Extensions}
use Rattle.ron_spec_grammar.specs.Grammar.{SpellsAt}
use Rattle.ron_spec_grammar.specs.Values.Grammar.{AnySpells}
use Rattle.ron_spec_grammar.specs.Raw.{raw_text, raw_limit, RawBody, raw_value, raw_valid, without_gaps, trimmed}

-- A text has a value exactly where it is a body of it.
abbrev pub HasRawValue : Type 0
HasRawValue = (text : Text) (t : Tree) → (raw_value text ≡ Some t) ↔ RawBody text t

-- A text is valid exactly where it is a body of some value.
abbrev pub IsValidExactly : Type 0
IsValidExactly = (text : Text) → (raw_valid text ≡ true) ↔ ((t : Tree) × RawBody text t)

-- A value that is spelled under no extensions, before one text that may follow a value, is spelled before any other, behind any gap, and where a Some holds
-- bare content too.
abbrev pub ValuesMove : Type 0
ValuesMove = (unwrap : Bool) (room : ℕ) (before behind s next other : Text) (t : Tree) → AnySpells false room false before s next t → FollowsValue next
    → FollowsValue other → AnySpells unwrap room false behind s other t

-- So it is a raw text by itself, and with gaps around it, the last of which leaves no line comment open.
abbrev pub ValuesStandAlone : Type 0
ValuesStandAlone = (before g core h next : Text) (t : Tree) → AnySpells false raw_limit false before core next t → FollowsValue next → Gap g (comma ∷ [])
    → Gap h (comma ∷ []) → raw_value (g ++ (core ++ h)) ≡ Some t

-- What is taken of the gaps around it leaves its value.
abbrev pub IsTakenWithItsValue : Type 0
IsTakenWithItsValue = (at_start : Bool) (place before core after next : Text) (t : Tree) → AnySpells false raw_limit false place core next t → FollowsValue next
    → Gap before (comma ∷ []) → Gap after (comma ∷ []) → raw_value (raw_text before core after at_start) ≡ Some t

-- By a well-formed schema, a raw text that is spelled is valid.
abbrev pub SpellsValidTexts : Type 0
SpellsValidTexts = (at_start : Bool) (x : Extensions) (schema : List Shape) (root i room : ℕ) (before s next text : Text) → is_well_formed schema root ≡ true
    → SpellsAt at_start x schema room false i before s next (raw_of text) → raw_valid text ≡ true

-- Trimmed, it has the value that it had.
abbrev pub TrimmedKeepsValue : Type 0
TrimmedKeepsValue = (text : Text) (t : Tree) → raw_value text ≡ Some t → raw_value (trimmed text) ≡ Some t

-- Without its gaps it has the value that it had, and is that value's stretch alone.
pub record IsBareOf (t : Tree) (core : Text) : Type 0 where
  pub value : raw_value core ≡ Some t
  pub alone : AnySpells false raw_limit false [] core [] t
  pub no_gap : skip core ≡ core

abbrev pub WithoutGapsKeepsValue : Type 0
WithoutGapsKeepsValue = (text : Text) (t : Tree) → raw_value text ≡ Some t → IsBareOf t (without_gaps text)
