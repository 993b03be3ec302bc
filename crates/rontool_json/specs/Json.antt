-- Texts of JSON.
use Rattle.std.specs.Prelude.{◌≡◌, ℕ, List, Some}
use Rattle.serde_json.specs.Data.{Data}
use Rattle.serde_json.specs.Read.{read}

-- The text is read as a value of JSON.
pub record IsJson (text : List ℕ) : Type 0 where
  pub value : Data
  pub reads : read text ≡ Some value
