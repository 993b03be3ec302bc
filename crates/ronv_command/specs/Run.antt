-- What a run makes of its input.
use Rattle.std.specs.Prelude.{◌≡◌, ℕ, List, [], ◌∷◌, ◌++◌, Option, Some, IfSome, chars}
use Rattle.std.specs.Io.KnownBytes.{Appends}
use Rattle.ron.specs.Characters.{Text}
use Rattle.ron.specs.PlainData as plain
use Rattle.ron.specs.Table.{Table}
use Rattle.ron.specs.Extensions.{no_extensions}
use Rattle.ron.specs.Config.{Config, no_config}
use Rattle.ron.specs.Layout.{full_layout}
use Rattle.ron.specs.Whole.{DocumentWithin, SpellsNormalForm}
use Rattle.ron.specs.ValueText.{value_table}
use Rattle.ronv_command.specs.declared.command.Command.{Command}
use Rattle.ronv_command.specs.declared.command.Command.TheVariants.{Point, Format}
use Rattle.ronv_command.specs.Flags.{layout_of}
use Rattle.ronv_command.specs.Point.{point_table}

-- the table that the input is read by
abbrev pub command_table : Command → Table
command_table Point = point_table
command_table c = value_table

-- what is written is laid out by
abbrev pub command_layout : Command → Config
command_layout (Format flags) = layout_of flags
command_layout c = no_config

-- One text spells data of the table within the default limit. The other is the data's layout, and spells its normal form.
abbrev pub Rewrites : Table → Config → Text → Text → Type 0
Rewrites table layout read written = (d : plain.Data) × DocumentWithin no_extensions (Some 128) table read d × (written ≡ full_layout no_extensions layout d)
    × SpellsNormalForm no_extensions layout d written

-- What is left of the input, where that is known, is a text, and the other text is its rewriting.
abbrev pub RewritesBy : Table → Config → Option (List ℕ) → Text → Type 0
RewritesBy table layout left written = (read : List ℕ) × IfSome left (λ bytes. bytes ≡ read) × Rewrites table layout (chars read) written

-- likewise as the command does it
abbrev pub RewritesInput : Command → Option (List ℕ) → Text → Type 0
RewritesInput command left written = RewritesBy (command_table command) (command_layout command) left written

-- The output grew by a rewriting of the input and an LF.
abbrev pub RewritesStream : Command → Option (List ℕ) → Option (List ℕ) → Option (List ℕ) → Type 0
RewritesStream command left old new = (written : List ℕ) × RewritesInput command left (chars written) × Appends old new (written ++ 10 ∷ [])

-- The input has no rewriting.
abbrev pub HasNoRewriting : Command → Option (List ℕ) → Type 0
HasNoRewriting command left = (written : Text) → RewritesInput command left written → ⊥
