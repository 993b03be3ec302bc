-- When code reads attributes as the reader functions do.
use Rattle.std.specs.Prelude.{◌≡◌, ◌≤◌, ◌+◌, ◌*◌, [], ◌∷◌, Some, Result, Ok, Err, OnOk, MatchResult}
use Rattle.ron_spec_words.specs.Beyond.{bytes_in}
use Rattle.ron_spec_words.specs.Characters.{Text, right_parenthesis}
use Rattle.ron_spec_words.specs.Reader.{Reader, got, failed, bad, means}
use Rattle.ron_spec_words.specs.Quoted.{string}
use Rattle.ron_base.specs.declared.error.Error.{Error}
use Rattle.ron_lex.specs.Place.{Place}
use Rattle.ron_lex.specs.Turns.{Scans}
use Rattle.ron_spec_grammar.specs.Rule.{Extensions}
use Rattle.ron_spec_grammar.specs.Attribute.{value_start, names_from}
use Rattle.ron_de_steps.specs.Errors.{IsMemoryOr}

-- It is read as the reader function reads it; or for want of memory it is not, or the reader function refuses it.
abbrev pub ReadsHere : {A : Type 0} → Reader A → Text → Result A Error → Text → Type 0
ReadsHere r s result rest = MatchResult result (λ a. r s ≡ got a rest) (IsMemoryOr (r s ≡ failed bad))

-- The names at the closing parenthesis are what reading them all answers.
abbrev pub ReadsNames : Place → Result Extensions Error → Text → Type 0
ReadsNames place (Ok found) rest = (u : Text) × (rest ≡ right_parenthesis ∷ u) × (names_from [] place.gap place.rest ≡ got found u)
ReadsNames place (Err e) rest = IsMemoryOr (names_from [] place.gap place.rest ≡ failed bad) e

-- The place is where a value begins, behind the head and a gap, and this is in force there; or no value begins.
abbrev pub ReadsHead : Extensions → Text → Result Extensions Error → Place → Type 0
ReadsHead x s result place = MatchResult result (λ y. value_start x s ≡ got (y, place.gap) place.rest) (IsMemoryOr (value_start x s ≡ failed bad))

-- a string, whatever it holds
abbrev pub any_string : Reader (Unit {0})
any_string = means string (λ _. Some tt)

-- Twice the bytes of the head are added at most, and once those of the gap before the value; where no value begins, never more than twice what is left.
pub record MovesToStart {A E : Type 0} (old : Place) (result : Result A E) (new : Place) : Type 0 where
  pub moved : OnOk result (new.turns + bytes_in new.gap + 2 * bytes_in new.rest ≤ old.turns + 2 * bytes_in old.rest)
  pub most : Scans 2 old new
