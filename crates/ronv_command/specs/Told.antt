-- What a run tells of its fault.
use Rattle.std.specs.Prelude.{ℕ, List, Option, None, IfSome}
use Rattle.std.specs.Fmt.{with_newline}
use Rattle.std.specs.Io.KnownBytes.{Appends}
use Rattle.ron.specs.Message.{promised, spanned_text}
use Rattle.ronv_command.specs.declared.run.CommandFault.{CommandFault}
use Rattle.ronv_command.specs.declared.run.CommandFault.TheVariants.{Stream, Text, Data}

-- the words for a fault, where they are promised
abbrev pub told_as : CommandFault → Option (List ℕ)
told_as (Text refused) = spanned_text refused
told_as (Data e) = promised e
told_as (Stream e) = None

-- What was known of a stream grew by the words for a fault and an LF, where these are promised.
abbrev pub Tells : CommandFault → Option (List ℕ) → Option (List ℕ) → Type 0
Tells why old new = IfSome (with_newline (told_as why)) (Appends old new)
