-- What a fault says of the place where a string was wanted.
use Rattle.std.specs.Prelude.{Bool, true, false}
use Rattle.ron_lex.specs.declared.fault.QuotedFault.{QuotedFault}
use Rattle.ron_lex.specs.declared.fault.QuotedFault.TheVariants.{NoString, NoByteString}
use Rattle.ron_lex.specs.declared.fault.StringRefusal.{StringRefusal}
use Rattle.ron_lex.specs.declared.fault.StringRefusal.TheVariants.{OutOfMemory, Refused}

-- neither a string nor a byte string begins there
abbrev pub is_none : QuotedFault → Bool
is_none NoString = true
is_none NoByteString = true
is_none _ = false

-- the same of a refusal
abbrev pub begins_none : StringRefusal → Bool
begins_none OutOfMemory = false
begins_none (Refused error) = is_none error.fault
