-- What laying out a text anew makes of it.
use Rattle.std.specs.Prelude.{◌≡◌, ℕ, true, Option}
use Rattle.ron.specs.Characters.{Text}
use Rattle.ron.specs.PlainData as plain
use Rattle.ron.specs.Encodable.{is_encodable}
use Rattle.ron.specs.Config.{Config}
use Rattle.ron.specs.Layout.{extensions_under, full_layout}
use Rattle.ron.specs.Same.{IsReadBackWith}
use Rattle.ron.specs.Table.{Table}
use Rattle.ron.specs.Rule.{Extensions}
use Rattle.ron.specs.Whole.{DocumentWithin, EndsDocs}

-- One text spells a data within the limit; the other is the data's layout, and where that tells its Somes and ends its doc comments it spells within the limit
-- what a layout is read back as.
pub record LaysOut (x : Extensions) (limit : Option ℕ) (table : Table) (c : Config) (read written : Text) : Type 0 where
  pub data_of_text : plain.Data
  pub first : DocumentWithin x limit table read data_of_text
  pub text : written ≡ full_layout x c data_of_text
  pub again : is_encodable (extensions_under x c).implicit_some data_of_text ≡ true → EndsDocs c data_of_text
      → (e : plain.Data) × IsReadBackWith c.number_suffixes data_of_text e × DocumentWithin x limit table written e
