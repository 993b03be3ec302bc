-- What every call of reading does, whatever it reads.
use Rattle.std.specs.Prelude.{◌≡◌, ◌≤◌, length, Result, IfOk, OnOk, IfErr}
use Rattle.ron_base.specs.declared.error.Error.{Error}
use Rattle.ron_lex.specs.Place.{Place}
use Rattle.ron_de_steps.specs.Errors.{IsOfReading}

-- The call goes on in the same text, to where no more of it is left; this holds of what it answers; and its error is one of reading.
pub record Advances {A : Type 0} (Holds : A → Type 0) (old : Place) (result : Result A Error) (new : Place) : Type 0 where
  pub text : new.text ≡ old.text
  pub no_longer : OnOk result (length new.rest ≤ length old.rest)
  pub holds : IfOk result Holds
  pub fault : IfErr result IsOfReading
