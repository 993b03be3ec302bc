-- Slots: for each field of a list its data, or none so far.
--
-- Slots for fields need distinct names. With two equal names the second slot would stay empty, and the field whose
-- turn it is would not be the first of its name. So what reads fields, of a struct or of a variant, requires distinct
-- names, and a `Schema` has them.
use Rattle.std.specs.Prelude.{◌≡◌, ℕ, zero, suc, ◌<◌, ◌≤◌, Bool, true, false, List, [], ◌∷◌, ◌++◌, map, length, Option, Some, None, option_map, slice_get}
use Rattle.std.specs.Prelude.{get_or, find, String, Vec, string_bytes}
use Rattle.std.specs.declared.alloc.Global.{Global}
use Rattle.ron_spec_grammar.specs.Data as plain
use Rattle.ron_spec_grammar.specs.Data.{Fields, no_fields}
use Rattle.ron_spec_grammar.specs.Schema.{Field}
use Rattle.ron_spec_grammar.specs.Shapes.Struct.{Item, is_of, with_item}
use Rattle.ron_base.specs.declared.error.Error.{Error}
use Rattle.ron_base.specs.declared.error.Error.TheVariants.{NoSuchStructField, MissingStructField, OutOfMemory}
use Rattle.ron_data.specs.declared.data.Data.{Data}
use Rattle.ron_data_schema.specs.declared.schema.FieldShape.{FieldShape}
use Rattle.ron_data.specs.declared.slots.Slots.{Slots}
use Rattle.ron_data.specs.Datum.{data_view}
use Rattle.ron_data_schema.specs.Shapes.{field_view}

-- ---- lists of slots

-- there is a slot, and it holds something
abbrev pub is_filled : {A : Type 0} → Option (Option A) → Bool
is_filled None = false
is_filled (Some None) = false
is_filled (Some (Some a)) = true

-- so many slots: the first of these, and empty ones where there are no more
abbrev pub slots_of : {A : Type 0} → ℕ → List (Option A) → List (Option A)
slots_of zero slots = []
slots_of (suc n) [] = None ∷ slots_of n []
slots_of (suc n) (slot ∷ slots) = slot ∷ slots_of n slots

-- the data in each slot
abbrev pub slots_view : List (Option Data) → List (Option plain.Data)
slots_view slots = map (option_map data_view) slots

-- the fields by name, from their slots; none where a slot is empty whose field may not be missing
abbrev pub filled : List Field → List (Option plain.Data) → Option Fields
filled [] slots = Some no_fields
filled (f ∷ fields) [] = None
filled (f ∷ fields) (slot ∷ slots) = with_item f.may_be_missing (option_map (λ d. (f.name, d)) slot) (filled fields slots)

-- what the slot of a field holds by these items: the first of its name
abbrev pub slot_of : List Item → Field → Option plain.Data
slot_of items f = option_map (λ item. item.1) (find (is_of f.name) items)

-- the slots hold these items
abbrev pub AreSlotsOf : List (Option plain.Data) → List Field → List Item → Type 0
AreSlotsOf slots fields items = slots ≡ map (slot_of items) fields

-- ---- what code keeps of them

-- the slots so far: full ones of the fields that came in their turn, then the others
abbrev pub so_far : Slots → List (Option Data)
so_far slots = map (λ f. Some f.1) slots.in_turn.items ++ slots.others.items

-- Turns are seen by nobody. That fields kept as they come are the ones that the definitions arrange is a law of lists
-- of slots alone. What is kept is seen as a slot for each field (`slots_in`), so the reader's proof knows nothing of
-- turns.
--
-- a slot for each field
abbrev pub slots_in : {B : Type 0} → List B → Slots → List (Option Data)
slots_in fields slots = slots_of (length fields) (so_far slots)

-- the fields by name, from what is kept
abbrev pub fields_in : List FieldShape → Slots → Option Fields
fields_in fields slots = filled (map field_view fields) (slots_view (slots_in fields slots))

-- a name is that of the field at this index, and there is none only where no field is
abbrev pub IsNameAt : List FieldShape → ℕ → Option (String Global) → Type 0
IsNameAt fields index None = length fields ≤ index
IsNameAt fields index (Some name) = (f : FieldShape) → string_bytes name ≡ string_bytes (get_or fields index f).name

-- no field has a value yet, and the first one's name is kept
abbrev pub IsEmpty : List FieldShape → Slots → Type 0
IsEmpty fields slots = (slots.in_turn.items ≡ []) × (slots.others.items ≡ []) × IsNameAt fields 0 slots.next

-- fields that came in their turn have the first names of the list
abbrev pub AreNamed : List FieldShape → List (String Global × Data) → Type 0
AreNamed fields [] = Unit {0}
AreNamed [] (m ∷ made) = ⊥
AreNamed (f ∷ fields) (m ∷ made) = (string_bytes m.0 ≡ string_bytes f.name) × AreNamed fields made

-- The slots are for the fields of this list, and the name of the one whose turn it is is kept.
abbrev pub AreSlotsFor : List FieldShape → Slots → Type 0
AreSlotsFor fields slots = AreNamed fields slots.in_turn.items × IsNameAt fields (length slots.in_turn.items) slots.next

-- The field at this index has no value yet.
abbrev pub IsFree : List FieldShape → Slots → ℕ → Type 0
IsFree fields slots index = (index < length fields) × (is_filled (slice_get (so_far slots) index) ≡ false)

-- The field at this index is the one whose turn it is: all that came did so in the list's order, and it is behind these. There is none where others came, or
-- all.
abbrev pub IsAwaited : List FieldShape → Slots → Option ℕ → Type 0
IsAwaited fields slots None = slots.others.items ≡ [] → length fields ≤ length slots.in_turn.items
IsAwaited fields slots (Some index) = (slots.others.items ≡ []) × (index ≡ length slots.in_turn.items) × IsFree fields slots index

-- the error of a name that no field has
abbrev pub IsUnknownField : Error → Type 0
IsUnknownField e =
    (expected : Vec (String Global) Global) × (found : String Global) × (outer : Option (String Global)) × (e ≡ NoSuchStructField expected found outer)

-- A field is missing, and P holds; or there is no memory.
abbrev pub MissesField : Type 0 → Error → Type 0
MissesField P (MissingStructField field outer) = P
MissesField P OutOfMemory = Unit {0}
MissesField P _ = ⊥

-- Behind the old slots there are only empty ones: whatever stands before them, no other slots are made of these.
abbrev pub AddsEmpty : {A : Type 0} → List (Option A) → List (Option A) → Type 0
AddsEmpty {A} old new = (n : ℕ) (front : List (Option A)) → slots_of n (front ++ new) ≡ slots_of n (front ++ old)
