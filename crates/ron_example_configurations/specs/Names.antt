-- The names of an asset's fields.
use Rattle.std.specs.Prelude.{◌≡◌, true, List, [], ◌∷◌, codes}
use Rattle.std.proofs.Common.{refl}
use Rattle.ron_lex_text.proofs.StretchLemmas.{literals}
use Rattle.ron.specs.FieldAliases.{Name}
use Rattle.ron.specs.FieldRows.{own_differ}

abbrev pub asset_names : List Name
asset_names = (codes "path", codes "file" ∷ []) ∷ (codes "size", []) ∷ (codes "tags", []) ∷ []

pub assets_differ : own_differ asset_names ≡ true
unfolding literals
assets_differ = refl
