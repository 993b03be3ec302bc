-- Why data is not written, before an error is made of it.
use Rattle.std.specs.Prelude.{◌≡◌, Bool, false, Option, Some, chars, string_bytes}
use Rattle.ron_spec_words.specs.Characters.{Text}
use Rattle.ron_spec_words.specs.Name.{is_name}
use Rattle.ron_base.specs.declared.error.Error.{Error}
use Rattle.ron_base.specs.declared.error.Error.TheVariants.{InvalidIdentifier, ExceededRecursionLimit, OutOfMemory}
use Rattle.ron_ser.specs.declared.refusal.Refusal.{Refusal}
use Rattle.ron_ser.specs.declared.refusal.Refusal.TheVariants.{Name, Depth}

-- No identifier spells the name, which is told.
abbrev pub RefusesName : Text → Refusal → Type 0
RefusesName name (Name given) = (chars given.now ≡ name) × (is_name name ≡ false)
RefusesName name Depth = ⊥

-- A name is refused where the names cannot be written, and the depth where it is not within the limit.
abbrev pub IsRefused : Bool → Type 0 → Refusal → Type 0
IsRefused names Within (Name given) = names ≡ false
IsRefused names Within Depth = Within → ⊥

-- A name that is refused is this one.
abbrev pub TellsName : Option Text → Refusal → Type 0
TellsName name (Name given) = name ≡ Some (chars given.now)
TellsName name Depth = Unit {0}

-- The error tells of the refusal, or there is no memory for the name.
abbrev pub IsErrorOf : Refusal → Error → Type 0
IsErrorOf (Name given) (InvalidIdentifier name) = chars (string_bytes name) ≡ chars given.now
IsErrorOf (Name given) OutOfMemory = Unit {0}
IsErrorOf (Name given) _ = ⊥
IsErrorOf Depth e = e ≡ ExceededRecursionLimit
