-- What holds of the elements of a list.
use Rattle.std.specs.Prelude.{List, [], ◌∷◌}

-- each of them is
abbrev pub Each : {X : Type 0} → (X → Type 0) → List X → Type 0
Each P [] = Unit {0}
Each P (x ∷ xs) = P x × Each P xs

-- one that is, and then others
abbrev pub Then : {X : Type 0} → (X → Type 0) → (List X → Type 0) → List X → Type 0
Then P Rest [] = ⊥
Then P Rest (x ∷ xs) = P x × Rest xs

abbrev pub NoMore : {X : Type 0} → List X → Type 0
NoMore [] = Unit {0}
NoMore (x ∷ xs) = ⊥

-- both parts of a pair are
abbrev pub Both : {X Y : Type 0} → (X → Type 0) → (Y → Type 0) → X × Y → Type 0
Both P Q p = P p.0 × Q p.1
