-- Places: for each field of a struct of few its name with its data, so far.
use Rattle.std.specs.Prelude.{◌≡◌, ℕ, ◌<◌, ◌≤◌, Bool, true, false, List, [], ◌∷◌, ◌++◌, length, cond, Option, Some, None, get_or, slice_get, set, String}
use Rattle.std.specs.declared.alloc.Global.{Global}
use Rattle.ron_data.specs.declared.data.Data.{Data}
use Rattle.ron_data_schema.specs.declared.schema.FieldShape.{FieldShape}
use Rattle.ron_data_schema.specs.Shapes.{text_view}
use Rattle.ron_data.specs.Slots.{slots_of, is_filled}

-- what stands in each place, if it is filled
abbrev pub placed : List Bool → List (String Global × Data) → List (Option Data)
placed filled [] = []
placed [] (m ∷ made) = None ∷ placed [] made
placed (is_filled ∷ filled) (m ∷ made) = cond is_filled (Some m.1) None ∷ placed filled made

-- no place is filled
abbrev pub AreEmpty : List Bool → Type 0
AreEmpty filled = (i : ℕ) → get_or filled i false ≡ false

-- Each place that is filled is there, and has its field's name.
abbrev pub ArePlaces : List FieldShape → List Bool → List (String Global × Data) → Type 0
ArePlaces fields filled [] = AreEmpty filled
ArePlaces [] filled (m ∷ made) = ⊥
ArePlaces (f ∷ fields) [] (m ∷ made) = ⊥
ArePlaces (f ∷ fields) (is_filled ∷ filled) (m ∷ made) = (is_filled ≡ true → text_view m.0 ≡ text_view f.name) × ArePlaces fields filled made

-- a slot for each field, from its place
abbrev pub slots_at : List FieldShape → List Bool → List (String Global × Data) → List (Option Data)
slots_at fields filled made = slots_of (length fields) (placed filled made)

-- a name is that of the field at this index
abbrev pub IsNameOf : List FieldShape → ℕ → String Global → Type 0
IsNameOf fields index name = (index < length fields) × ((f : FieldShape) → text_view name ≡ text_view (get_or fields index f).name)

-- of any list of fields, whose places these were: they still are, and hold this data at this index besides
abbrev pub PutsAt : ℕ → String Global → Data → List Bool → List (String Global × Data) → List Bool → List (String Global × Data) → Type 0
PutsAt index name d filled made filled_ made_ =
    (fields : List FieldShape) → IsNameOf fields index name → ArePlaces fields filled made
    → ArePlaces fields filled_ made_ × (slots_at fields filled_ made_ ≡ set (slots_at fields filled made) index (Some d))

-- a field is put in at this index, behind others that the list is lengthened by up to it
abbrev pub IsPutAt : ℕ → String Global × Data → List (String Global × Data) → List (String Global × Data) → Type 0
IsPutAt index field made made_ =
    (more : List (String Global × Data)) × (index < length (made ++ more)) × ((n : ℕ) → length made ≤ n → index < n → length (made ++ more) ≤ n)
    × (made_ ≡ set (made ++ more) index field)

-- a slot of these is filled where its flag says so
abbrev pub AreFlagsOf : ℕ → List Bool → List (Option Data) → Type 0
AreFlagsOf n flags slots = (i : ℕ) → i < n → is_filled (slice_get slots i) ≡ get_or flags i false
