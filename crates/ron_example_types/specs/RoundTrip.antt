-- What reading, writing and reading again makes of a text.
use Rattle.std.specs.Prelude.{◌≡◌, ◌⊎◌, ℕ, true, false, Option, Some, chars, string_bytes}
use Rattle.ron.specs.Characters.{Text}
use Rattle.ron.specs.PlainData as plain
use Rattle.ron.specs.Document.{document_depth}
use Rattle.ron.specs.Name.{names_ok, first_refused}
use Rattle.ron.specs.Encodable.{is_encodable}
use Rattle.ron.specs.Config.{no_config}
use Rattle.ron.specs.Layout.{extensions_under, full_layout}
use Rattle.ron.specs.Same.{IsReadBackAs}
use Rattle.ron.specs.Depth.{writer_depth}
use Rattle.ron.specs.Error.{Error}
use Rattle.ron.specs.Error.TheVariants.{OutOfMemory, InvalidIdentifier, ExceededRecursionLimit}
use Rattle.ron.specs.Limit.{IsWithin}
use Rattle.ron.specs.Table.{Table}
use Rattle.ron.specs.Rule.{Extensions}
use Rattle.ron.specs.Whole.{DocumentWithin}

-- One text spells a data within the limit; the other is the data's compact layout, and where that tells its Somes it spells within the limit what a layout is
-- read back as.
pub record RoundTrips (x : Extensions) (limit : Option ℕ) (table : Table) (read written : Text) : Type 0 where
  pub data_of_text : plain.Data
  pub first : DocumentWithin x limit table read data_of_text
  pub text : written ≡ full_layout x no_config data_of_text
  pub again : is_encodable (extensions_under x no_config).implicit_some data_of_text ≡ true
      → (e : plain.Data) × IsReadBackAs data_of_text e × DocumentWithin x limit table written e

-- Why data that is written isn't read back: want of memory; or the first name that can't be written; or the limit doesn't cover the writer's depth, or else the
-- text's.
abbrev pub RefusesData : Extensions → Option ℕ → Table → plain.Data → Error → Type 0
RefusesData x limit table d OutOfMemory = Unit {0}
RefusesData x limit table d (InvalidIdentifier given) = (first_refused d ≡ Some (chars (string_bytes given))) × (names_ok d ≡ false)
RefusesData x limit table d ExceededRecursionLimit = IsWithin limit (writer_depth no_config d)
    → IsWithin limit (document_depth x table.shapes table.root (full_layout x no_config d)) → ⊥
RefusesData x limit table d _ = ⊥

-- Want of memory; or the text spells no data within the limit; or it spells one that isn't read back, though its layout tells its Somes.
abbrev pub RefusesRoundTrip : Extensions → Option ℕ → Table → Text → Error → Type 0
RefusesRoundTrip x limit table text e =
    (e ≡ OutOfMemory) ⊎ (((d : plain.Data) → DocumentWithin x limit table text d → ⊥) ⊎ ((d : plain.Data) × DocumentWithin x limit table text d
    × (is_encodable (extensions_under x no_config).implicit_some d ≡ true → RefusesData x limit table d e)))
