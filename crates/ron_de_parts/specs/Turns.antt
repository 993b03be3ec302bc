-- What leaves, and steps before a value, add to the count, whatever chains the schema has.
use Rattle.std.specs.Prelude.{ℕ, Bool, Result, OnOk}
use Rattle.ron_spec_words.specs.Openings.{Leads}
use Rattle.ron_lex.specs.Place.{Place}
use Rattle.ron_lex.specs.Turns.{Stays, Looks, Moves}
use Rattle.ron_de_steps.specs.Spends.{SpendsTyped, SettlesTyped}

-- what begins with its own mark or word
abbrev pub SettlesLeaf : {A E : Type 0} → Place → Result A E → Place → Type 0
SettlesLeaf old result new = (k : ℕ) → SettlesTyped k old result new

-- what may want so many looks at its place
abbrev pub SpendsLeaf : {A E : Type 0} → Bool → ℕ → Place → Result A E → Place → Type 0
SpendsLeaf bare m old result new = (k : ℕ) → SpendsTyped bare k m old result new

-- Whole tokens lead from the old place to the new one.
abbrev pub LeadsOn : {A E : Type 0} → Place → Result A E → Place → Type 0
LeadsOn old result new = OnOk result (Leads old.rest new.rest)

-- One look at the place at most, and then what moves as it reads.
pub record MovesAfterLook {A E : Type 0} (c : ℕ) (old : Place) (result : Result A E) (new : Place) : Type 0 where
  pub looked : Place
  pub stays : Stays old looked
  pub looks : Looks 1 old looked
  pub moves : Moves c looked result new
