-- The fields of a tree, whatever they hold.
use Rattle.std.specs.Prelude.{◌≡◌, List, [], ◌∷◌, codes, chars, string_bytes, String}
use Rattle.std.specs.declared.alloc.Global.{Global}

-- there are just three fields with the names of a tree's, and they hold these
pub record AreFields {X : Type 0} (value children next : X) (fields : List (String Global × X)) : Type 0 where
  pub first : String Global
  pub second : String Global
  pub third : String Global
  pub is : fields ≡ (first, value) ∷ (second, children) ∷ (third, next) ∷ []
  pub value_named : chars (string_bytes first) ≡ chars (codes "value")
  pub children_named : chars (string_bytes second) ≡ chars (codes "children")
  pub next_named : chars (string_bytes third) ≡ chars (codes "next")
