-- Why a run fails.
use Rattle.std.specs.Prelude.{◌≡◌, ◌⊎◌, ℕ, List, Option, Some, IfSome, Result, Err, chars}
use Rattle.ron.specs.Characters.{Text}
use Rattle.ron.specs.PlainData as plain
use Rattle.ron.specs.Bytes.{ReadsGiven}
use Rattle.ron.specs.Class.{IsIoOrMemory}
use Rattle.ron.specs.Config.{Config}
use Rattle.ron.specs.Error.{Error}
use Rattle.ron.specs.Error.TheVariants.{OutOfMemory}
use Rattle.ron.specs.Extensions.{no_extensions}
use Rattle.ron.specs.Name.{first_refused}
use Rattle.ron.specs.SpannedError.{SpannedError}
use Rattle.ron.specs.Table.{Table}
use Rattle.ron.specs.Whole.{DocumentWithin}
use Rattle.ron.specs.WritingRefusals.{RefusesText, HoldsName}
use Rattle.ronv_command.specs.declared.command.Command.{Command}
use Rattle.ronv_command.specs.declared.run.CommandFault.{CommandFault}
use Rattle.ronv_command.specs.declared.run.CommandFault.TheVariants as fault
use Rattle.ronv_command.specs.Run.{command_table, command_layout, RewritesBy}

-- Reading all that is left of the input, where that is known, refuses it so; or the input has failed, or no memory was found.
abbrev pub RefusesInput : Table → Option (List ℕ) → SpannedError → Type 0
RefusesInput table left refused = IsIoOrMemory refused.code
    ⊎ ((read : List ℕ) × IfSome left (λ bytes. bytes ≡ read) × ReadsGiven no_extensions (Some 128) table read (Err refused))

-- What is left of the input, where that is known, spells data whose layout is refused so; or no memory was found.
abbrev pub RefusesData : Table → Config → Option (List ℕ) → Error → Type 0
RefusesData table layout left e = (e ≡ OutOfMemory) ⊎ ((read : List ℕ) × IfSome left (λ bytes. bytes ≡ read) × (d : plain.Data)
    × DocumentWithin no_extensions (Some 128) table (chars read) d × RefusesText layout (Some 128) d e × HoldsName (first_refused d) e)

-- A fault of the output comes once there is a text for it.
abbrev pub IsFaultBy : Table → Config → Option (List ℕ) → CommandFault → Type 0
IsFaultBy table layout left (fault.Text refused) = RefusesInput table left refused
IsFaultBy table layout left (fault.Data e) = RefusesData table layout left e
IsFaultBy table layout left (fault.Stream e) = (written : Text) × RewritesBy table layout left written

-- likewise as the command does it
abbrev pub IsFaultOf : Command → Option (List ℕ) → CommandFault → Type 0
IsFaultOf command left why = IsFaultBy (command_table command) (command_layout command) left why

-- such a fault was in the way of the command
abbrev pub IsInTheWay : Command → Option (List ℕ) → Type 0
IsInTheWay command left = (why : CommandFault) × IsFaultOf command left why
