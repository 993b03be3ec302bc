-- What is claimed of texts of the same words: they spell the same.
use Rattle.std.specs.Prelude.{◌≡◌, ◌++◌, [], ◌∷◌, Bool, true, false, codes, List, Some}
use Rattle.ron_spec_words.specs.Characters.{Text, left_bracket, right_bracket, left_parenthesis, right_parenthesis}
use Rattle.ron_spec_words.specs.Runs.{begins}
use Rattle.ron_spec_words.specs.Gap.{Gap, LongGap}
use Rattle.ron_spec_words.specs.Lang.{Lang, Done, done, Behind, Mark, Or, Items, Group}
use Rattle.ron_spec_words.specs.Directly.{FixedWord}
use Rattle.ron_spec_words.specs.Scan.{token}
use Rattle.ron_format_words.specs.Alike.{is_solid, anywhere, Alike, SameWords}

-- booleans, and lists of them, as the shapes have them
abbrev pub ABool : Lang Bool
ABool = Or (FixedWord (codes "true") true) (FixedWord (codes "false") false)

abbrev pub Bools : Lang (List Bool)
Bools = Group left_bracket right_bracket (λ gap. Items (λ _ _. ABool) gap)

-- a whole text: a gap, what is spelled, and a gap
pub record Whole {A : Type 0} (L : Lang A) (s : Text) (a : A) : Type 0 where
  pub before : Text
  pub value : Text
  pub after : Text
  pub split : s ≡ before ++ (value ++ after)
  pub is_before : LongGap before (value ++ after)
  pub spelled : L value after a
  pub is_after : Gap after []

-- what a text spells of lists of booleans, every text of the same words spells
abbrev pub KeepsLists : Type 0
KeepsLists = (s u : Text) (a : List Bool) → SameWords anywhere s u → Whole Bools s a → Whole Bools u a

-- the unit, which is `()` and not `( )`
abbrev pub AUnit : Lang Done
AUnit = Behind left_parenthesis (Mark right_parenthesis done)

-- so of the unit
abbrev pub KeepsUnits : Type 0
KeepsUnits = (s u : Text) → SameWords anywhere s u → Whole AUnit s done → Whole AUnit u done

-- a word directly before `(`, as the name of a tuple struct, stands directly before it in every text of the same words
abbrev pub KeepsNames : Type 0
KeepsNames = (w rest v : Text) → begins is_solid w ≡ true → token (w ++ left_parenthesis ∷ rest) ≡ Some (left_parenthesis ∷ rest)
    → Alike anywhere (w ++ left_parenthesis ∷ rest) v → (other : Text) × (v ≡ w ++ left_parenthesis ∷ other)
