-- Words that stand directly beside words.
use Rattle.std.specs.Prelude.{◌≡◌, Bool, ◌++◌}
use Rattle.ron_spec_words.specs.Characters.{Text}
use Rattle.ron_spec_words.specs.Lang.{Lang}
use Rattle.ron_format_words.specs.Alike.{a_word, Step, Alike}

-- a word's stretch in v, and what follows it
pub record MovedWord {A : Type 0} (commas : Text → Bool) (L : Lang A) (next v : Text) (a : A) : Type 0 where
  pub stretch : Text
  pub left : Text
  pub split : v ≡ stretch ++ left
  pub spelled : L stretch left a
  pub rest : Text
  pub other : Text
  pub step : Step commas a_word next left rest other
  pub alike : Alike commas rest other

-- what L spells at a word's place it spells in each text of the same words
pub record MovesWord {A : Type 0} (commas : Text → Bool) (L : Lang A) (F : Text → Type 0) : Type 0 where
  pub over : (t next : Text) (a : A) → L t next a → F next → (v : Text) → Alike commas (t ++ next) v → MovedWord commas L next v a

-- the same directly behind a word, where nothing may be spelled too
pub record MovesNear {A : Type 0} (commas : Text → Bool) (L : Lang A) (F : Text → Type 0) : Type 0 where
  pub over : (t next : Text) (a : A) → L t next a → F next → (left rest other : Text) → Step commas a_word (t ++ next) left rest other → Alike commas rest other
      → MovedWord commas L next left a
