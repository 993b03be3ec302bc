-- The errors of reading a value.
use Rattle.std.specs.Prelude.{◌≡◌}
use Rattle.ron_base.specs.declared.error.Error.{Error}
use Rattle.ron_base.specs.declared.error.Error.TheVariants.{OutOfMemory, Fmt, Io, ExpectedFloat, FloatUnderscore, Utf8Error, TrailingCharacters}
use Rattle.ron_base.specs.declared.error.Error.TheVariants.{InvalidIdentifier, Failed, InvalidSchema}
use Rattle.ron_lex.specs.declared.fault.StringRefusal.{StringRefusal}
use Rattle.ron_base.specs.Class.{ErrorClass, memory, depth, other, class_of}

-- any error but those of writing, of devices and bytes, of a rest behind a value, of schemas, of floats that are read, and of a reader that has failed before
abbrev pub IsOfReading : Error → Type 0
IsOfReading Fmt = ⊥
IsOfReading (Io text) = ⊥
IsOfReading (Utf8Error cause) = ⊥
IsOfReading ExpectedFloat = ⊥
IsOfReading FloatUnderscore = ⊥
IsOfReading TrailingCharacters = ⊥
IsOfReading (InvalidIdentifier name) = ⊥
IsOfReading Failed = ⊥
IsOfReading (InvalidSchema cause) = ⊥
IsOfReading _ = Unit {0}

-- an error of reading that is neither want of memory nor the limit's
abbrev pub IsOfText : Error → Type 0
IsOfText e = (class_of e ≡ other) × IsOfReading e

-- want of memory, or another error than the limit's and P
abbrev pub IsMemoryOrClass : Type 0 → ErrorClass → Type 0
IsMemoryOrClass P memory = Unit {0}
IsMemoryOrClass P depth = ⊥
IsMemoryOrClass P other = P

-- The error is want of memory; or it is not the limit's, and P holds.
abbrev pub IsMemoryOr : Type 0 → Error → Type 0
IsMemoryOr P e = IsMemoryOrClass P (class_of e)

-- an error of reading, and not the limit's
abbrev pub IsMemoryOrText : Error → Type 0
IsMemoryOrText e = IsMemoryOr (Unit {0}) e × IsOfReading e

-- A string is refused for want of memory by want of memory, and otherwise by an error that is neither that nor the limit's.
abbrev pub TellsRefusal : StringRefusal → Error → Type 0
TellsRefusal StringRefusal.OutOfMemory e = e ≡ OutOfMemory
TellsRefusal (StringRefusal.Refused refused) e = IsOfText e
