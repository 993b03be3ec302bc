-- Names of fields, and what else a text may call each.
use Rattle.std.specs.Prelude.{ℕ, List, [], ◌∷◌, ◌++◌, map, chars}
use Rattle.std.specs.Borrow.{Bor}
use Rattle.ron_spec_words.specs.Characters.{Text}
use Rattle.ron_types.specs.FieldNames.{texts_of}

-- a field's name and its aliases, as bytes
abbrev pub Name : Type 0
Name = List ℕ × List (List ℕ)

-- the name by which it stands in data
abbrev pub own : Name → Text
own n = chars n.0

-- the other names
abbrev pub others : Name → List Text
others n = map chars n.1

-- a name that is borrowed, with its aliases
abbrev pub name_in : Bor (List ℕ) × Bor (List (Bor (List ℕ))) → Name
name_in n = (n.0.now, texts_of n.1.now)

abbrev pub names_in : List (Bor (List ℕ) × Bor (List (Bor (List ℕ)))) → List Name
names_in names = map name_in names

-- all that fields are called
abbrev pub all_called : List Name → List Text
all_called [] = []
all_called (n ∷ ns) = own n ∷ (others n ++ all_called ns)
