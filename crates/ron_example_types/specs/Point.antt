-- A point: the table that its text is read by, and what is told of the text.
use Rattle.std.specs.Prelude.{◌≡◌, ◌⊎◌, ℤ, ℕ, List, [], ◌∷◌, ◌++◌, Option, None, Some, IfSome, Err, codes, chars}
use Rattle.std.specs.Option.{option_zip}
use Rattle.std.specs.Fmt.{signed_decimal}
use Rattle.ron.specs.Characters.{Text}
use Rattle.ron.specs.PlainData as plain
use Rattle.ron.specs.Widths.TheVariants.{I32}
use Rattle.ron.specs.Schema.{Shape, field, only, int, struct}
use Rattle.ron.specs.Table.{Table}
use Rattle.ron.specs.Rule.{Extensions}
use Rattle.ron.specs.Extensions.{no_extensions}
use Rattle.ron.specs.Config.{Config, no_config, default_config, doc_and, no_docs}
use Rattle.ron.specs.Layout.{full_layout}
use Rattle.ron.specs.Bytes.{ReadsText}
use Rattle.ron.specs.Message.{spanned_text}
use Rattle.ron.specs.SpannedError.{SpannedError}
use Rattle.ron.specs.Error.{Error}
use Rattle.ron.specs.Error.TheVariants.{OutOfMemory}
use Rattle.ron.specs.WritingRefusals.{RefusesText}
use Rattle.ron.specs.Whole.{DocumentWithin}

-- Point(x: i32, y: i32), the root, and its fields' shape
abbrev pub point_shapes : List Shape
point_shapes = struct (codes "Point") (only (field (codes "x") 1 ∷ field (codes "y") 1 ∷ [])) ∷ int I32 ∷ []

abbrev pub point_table : Table
point_table = record { shapes = point_shapes; root = 0 }

-- the integer of 32 bits that data is
abbrev pub integer_in : plain.Data → Option ℤ
integer_in (plain.int_of I32 n) = Some n
integer_in _ = None

-- how far right and up a struct of two such integers lies
abbrev pub coordinates_in : plain.Data → Option (ℤ × ℤ)
coordinates_in (plain.struct_of name (plain.field_and a x (plain.field_and b y plain.no_fields))) = option_zip (integer_in x) (integer_in y)
coordinates_in _ = None

-- the words for that, before a text
abbrev pub told_of : Option (ℤ × ℤ) → List ℕ → List ℕ
told_of None written = written
told_of (Some p) written = signed_decimal p.0 ++ (codes " right and " ++ (signed_decimal p.1 ++ (codes " up: " ++ written)))

-- These are the words for data, before its compact text.
pub record TellsData (x : Extensions) (d : plain.Data) (words : List ℕ) : Type 0 where
  pub written : List ℕ
  pub text : chars written ≡ full_layout x no_config d
  pub told : words ≡ told_of (coordinates_in d) written

-- Of a text that spells a point these are the words for it; of any other, why it is refused and where, if that message is promised.
abbrev pub TellsPoint : Text → List ℕ → Type 0
TellsPoint text told =
    ((d : plain.Data) × DocumentWithin no_extensions (Some 128) point_table text d × TellsData no_extensions d told)
    ⊎ ((refused : SpannedError) × ReadsText no_extensions (Some 128) point_table text (Err refused)
    × IfSome (spanned_text refused) (λ why. told ≡ codes "refused at " ++ why))

-- There is no memory; or the text spells data that can't be written.
abbrev pub RefusesPoint : Text → Error → Type 0
RefusesPoint text e = (e ≡ OutOfMemory) ⊎ ((d : plain.Data) × DocumentWithin no_extensions (Some 128) point_table text d × RefusesText no_config (Some 128) d e)

-- the default layout, with a doc comment before the fields of this name of the outermost struct
abbrev pub documented_layout : List ℕ → List ℕ → Config
documented_layout name doc = record default_config { docs = doc_and (chars name) (chars doc) no_docs no_docs }
