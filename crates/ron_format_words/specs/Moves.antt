-- A language says of a text what it says of any other of the same words.
use Rattle.std.specs.Prelude.{◌≡◌, Bool, ◌++◌}
use Rattle.ron_spec_words.specs.Characters.{Text}
use Rattle.ron_spec_words.specs.Gap.{skip}
use Rattle.ron_spec_words.specs.Lang.{Lang}
use Rattle.ron_format_words.specs.Alike.{Before, Step, Alike}

-- in v a stretch spells the value, and what follows it is as what follows in the first text
pub record Moved {A : Type 0} (commas behind : Text → Bool) (M : Lang A) (next v : Text) (a : A) : Type 0 where
  pub stretch : Text
  pub left : Text
  pub split : v ≡ stretch ++ left
  pub spelled : M stretch left a
  pub before : Before
  pub rest : Text
  pub other : Text
  pub step : Step behind before next left rest other
  pub alike : Alike commas rest other

-- With `behind`, a last comma may come or go behind the stretch. What L spells before a text that F allows, M spells in each text of the same words.
pub record Moves {A : Type 0} (commas behind : Text → Bool) (L M : Lang A) (F : Text → Type 0) : Type 0 where
  pub over : (t next : Text) (a : A) → L t next a → F next → skip (t ++ next) ≡ t ++ next → (v : Text) → Alike commas (t ++ next) v
      → Moved commas behind M next v a
