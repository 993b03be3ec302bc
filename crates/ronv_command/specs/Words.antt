-- What the words of a run ask for.
use Rattle.std.specs.Prelude.{◌≡◌, List, [], ◌∷◌, map, bytes_eq, if◌then◌else◌, Option, Some, None, String, string_bytes, codes}
use Rattle.std.specs.declared.alloc.Global.{Global}
use Rattle.ronv_command.specs.declared.flags.Flags.{Flags}
use Rattle.ronv_command.specs.declared.command.Command.{Command}
use Rattle.ronv_command.specs.declared.command.Command.TheVariants.{Point, Value, Format}
use Rattle.ronv_command.specs.Flags.{Word, no_flags, flags_behind}

-- formatting, by these flags
abbrev pub formatting : Option Flags → Option Command
formatting None = None
formatting (Some flags) = Some (Format flags)

-- what a word asks for with no other behind it
abbrev pub alone : Word → List Word → Option Command
alone w [] = if bytes_eq w (codes "point") then Some Point else if bytes_eq w (codes "value") then Some Value else None
alone w (v ∷ words) = None

-- what words ask for
abbrev pub asked_for : List Word → Option Command
asked_for [] = None
asked_for (w ∷ words) = if bytes_eq w (codes "fmt") then formatting (flags_behind (Some no_flags) words) else alone w words

-- the words ask for this
abbrev pub AsksFor : Command → List (String Global) → Type 0
AsksFor command words = asked_for (map string_bytes words) ≡ Some command
