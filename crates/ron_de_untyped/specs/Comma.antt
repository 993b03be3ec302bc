-- Whether another item follows.
use Rattle.std.specs.Prelude.{◌≡◌, ℕ, Bool, not, ◌&&◌, Option, Some, None, Result, Ok, Err}
use Rattle.ron_spec_words.specs.Characters.{Text}
use Rattle.ron_spec_words.specs.Runs.{is_at}
use Rattle.ron_base.specs.declared.error.Error.{Error}
use Rattle.ron_lex.specs.Place.{Place}
use Rattle.ron_de_steps.specs.Errors.{IsMemoryOr}

-- The step past a comma leads here, and another item follows where there was one and the closing character doesn't stand here.
pub record FollowsBy (close : ℕ) (step : Option (Bool × (Text × Text))) (more : Bool) (place : Place) : Type 0 where
  pub passed : Bool
  pub is : step ≡ Some (passed, (place.gap, place.rest))
  pub more_is : more ≡ (passed && not (is_at close place.rest))

-- likewise of what is answered; or the step leads nowhere
abbrev pub Follows : ℕ → Option (Bool × (Text × Text)) → Result Bool Error → Place → Type 0
Follows close step (Ok more) place = FollowsBy close step more place
Follows close step (Err e) place = IsMemoryOr (step ≡ None) e
