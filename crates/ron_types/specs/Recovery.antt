-- That data tells values.
use Rattle.std.specs.Prelude.{◌≡◌, ℕ, Bool, true, List, [], ◌∷◌}
use Rattle.ron_spec_grammar.specs.Data.{Data}

-- values with equal data are equal
abbrev pub Recovers : {T : Type 0} → (T → Data) → (T → T → Bool) → Type 0
Recovers {T} data_of equal = (x y : T) → data_of x ≡ data_of y → equal x y ≡ true

-- data are equal, one by one
abbrev pub AreEqual : List Data → List Data → Type 0
AreEqual [] [] = Unit {0}
AreEqual [] (e ∷ es) = ⊥
AreEqual (d ∷ ds) [] = ⊥
AreEqual (d ∷ ds) (e ∷ es) = (d ≡ e) × AreEqual ds es

-- and those that stand under names
abbrev pub AreEqualNamed : List (List ℕ) → List Data → List Data → Type 0
AreEqualNamed [] ds es = Unit {0}
AreEqualNamed (n ∷ ns) [] [] = Unit {0}
AreEqualNamed (n ∷ ns) [] (e ∷ es) = ⊥
AreEqualNamed (n ∷ ns) (d ∷ ds) [] = ⊥
AreEqualNamed (n ∷ ns) (d ∷ ds) (e ∷ es) = (d ≡ e) × AreEqualNamed ns ds es
