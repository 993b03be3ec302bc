-- The names of the fields of types of one's own.
use Rattle.std.specs.Prelude.{ℕ, List, [], ◌∷◌, codes}

abbrev pub window_names : List (List ℕ)
window_names = codes "title" ∷ codes "size" ∷ codes "fullscreen" ∷ []

abbrev pub borrowed_names : List (List ℕ)
borrowed_names = codes "value" ∷ []
