-- What devices tell.
--
-- How much is held is no part of it. `Gathers` says that what was held and what came are what was pushed and what is
-- held now, in this order. The size is the code's.
--
-- Bytes may be unknown. What is left or held is an option of a list, as std has it (`Appends`, `Consumes`); of a
-- device that doesn't tell, a clause on its bytes is true.
use Rattle.std.specs.Prelude.{◌≡◌, ℕ, Bool, true, Option, Result, MatchResult, List, ◌++◌}
use Rattle.std.specs.Io.KnownBytes.{Appends}
use Rattle.ron_base.specs.declared.error.Error.{Error}
use Rattle.ron_base.specs.declared.error.Error.TheVariants.{Io, OutOfMemory}

-- An Ok leaves the mark, and an Err sets it.
abbrev pub Marks : {A E : Type 0} → Bool → Bool → Result A E → Type 0
Marks old new r = MatchResult r (λ _. new ≡ old) (λ _. new ≡ true)

-- A mark in place of a kind of error. Nothing is promised of an `io::Error`. So an `Io` is tied to its device by
-- whether a call of that has failed (`failed`, `RefusesDevice`), which each call of a device says (`Marks`).
--
-- The device has failed, or no memory was found.
abbrev pub RefusesDevice : Bool → Error → Type 0
RefusesDevice failed (Io text) = failed ≡ true
RefusesDevice failed OutOfMemory = Unit {0}
RefusesDevice failed _ = ⊥

-- The known bytes grew by a front of these, and by nothing else.
pub record TakesFront (old new : Option (List ℕ)) (bytes : List ℕ) : Type 0 where
  pub front : List ℕ
  pub rest : List ℕ
  pub whole : bytes ≡ front ++ rest
  pub taken : Appends old new front
