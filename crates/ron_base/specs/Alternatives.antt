-- The names that were expected, and the name around, as messages tell them.
use Rattle.std.specs.Prelude.{ℕ, List, [], ◌∷◌, ◌++◌, Option, Some, None, String, string_bytes, codes}
use Rattle.std.specs.declared.alloc.Global.{Global}
use Rattle.ron_base.specs.Name.{name_text}

-- a name as messages show it
abbrev pub shown : String Global → List ℕ
shown name = name_text (string_bytes name)

-- the names after the first of three or more: each after a comma, and `or` before the last
abbrev pub further : List (String Global) → List ℕ
further [] = []
further (last ∷ []) = codes ", or " ++ shown last
further (name ∷ next ∷ names) = codes ", " ++ (shown name ++ further (next ∷ names))

-- what was expected in place of a name; the first argument says of what there are none
abbrev pub alternatives : List ℕ → List (String Global) → List ℕ
alternatives none [] = codes "there are no " ++ none
alternatives none (a ∷ []) = codes "expected " ++ (shown a ++ codes " instead")
alternatives none (a ∷ b ∷ []) = codes "expected either " ++ (shown a ++ (codes " or " ++ (shown b ++ codes " instead")))
alternatives none (a ∷ b ∷ c ∷ names) = codes "expected one of " ++ (shown a ++ (further (b ∷ c ∷ names) ++ codes " instead"))

-- the struct around a field, where it is known
abbrev pub in_struct : Option (String Global) → List ℕ
in_struct None = []
in_struct (Some outer) = codes " in " ++ shown outer
