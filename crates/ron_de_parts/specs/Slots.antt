-- Slots: for each field of a struct its data, or none so far.
use Rattle.std.specs.Prelude.{◌≡◌, ℕ, suc, ◌<◌, length, List, [], ◌∷◌, Option, Some, None, option_map, slice_get, set, false, Result, Ok, Err, OnOk}
use Rattle.std.specs.Prelude.{MatchResult}
use Rattle.std.specs.List.{list_any}
use Rattle.ron_spec_words.specs.Characters.{Text, right_parenthesis}
use Rattle.ron_spec_words.specs.Name.{name}
use Rattle.ron_spec_words.specs.Reader.{Got, got, given, meant, failed, bad}
use Rattle.ron_spec_grammar.specs.Data as plain
use Rattle.ron_spec_grammar.specs.Data.{Fields}
use Rattle.ron_spec_grammar.specs.Schema.{Field, FieldList, Shape, is_called}
use Rattle.ron_spec_grammar.specs.Rule.{Extensions}
use Rattle.ron_spec_grammar.specs.Turns.{read_item, read_field_value, read_fields}
use Rattle.ron_spec_grammar.specs.Shapes.Struct.{Item, is_of, item_of, known, unknown, target, skipped}
use Rattle.ron_spec_grammar.specs.Values.Grammar.{read_any_below}
use Rattle.ron_base.specs.declared.error.Error.{Error}
use Rattle.ron_base.specs.Class.{class_of}
use Rattle.ron_lex.specs.Place.{Place}
use Rattle.ron_lex.specs.Turns.{Stays, Looks, Moves}
use Rattle.ron_de_steps.specs.Spends.{Enters}
use Rattle.ron_de_steps.specs.Reads.{IsFaultOf}
use Rattle.ron_data.specs.declared.data.Data.{Data}
use Rattle.ron_data.specs.declared.slots.Slots.{Slots}
use Rattle.ron_data.specs.Datum.{data_view}
use Rattle.ron_data.specs.Slots.{slots_view, AreSlotsOf, filled}
use Rattle.ron_de_parts.specs.Terms.{Terms}
use Rattle.ron_de_parts.specs.Turns.{LeadsOn}
use Rattle.ron_de_parts.specs.Room.{IsRoom, enough_for_items}
use Rattle.ron_de_parts.specs.Errors.{IsMemoryOr}

-- the slots with what was read: the data of a field in its slot, and nothing of what was skipped
abbrev pub with_read : {A : Type 0} → List (Option A) → Option (ℕ × A) → List (Option A)
with_read slots None = slots
with_read slots (Some item) = set slots item.0 (Some item.1)

-- ---- when code reads a struct's fields as the reader function does

-- a name stands for the field at this index, if it is a new one; or, with no index, for none that the schema knows, and is skipped
abbrev pub IsTarget : FieldList → List Item → Text → Option ℕ → Type 0
IsTarget list seen name None = target list seen name ≡ Some (unknown name)
IsTarget list seen name (Some index) = target list seen name ≡ option_map known (slice_get list.fields index)

-- the field that a name names and no item before it, none where the name is skipped; or the name is refused
abbrev pub FindsField : FieldList → List (Option plain.Data) → Text → Result (Option ℕ) Error → Type 0
FindsField list slots name result =
    (seen : List Item) → AreSlotsOf slots list.fields seen → MatchResult result (IsTarget list seen name) (IsMemoryOr (target list seen name ≡ None))

-- behind a field's name, the colon and the gaps, its value stands
pub record IsAtValue (x : Extensions) (schema : List Shape) (room : ℕ) (list : FieldList) (seen : List Item) (index : ℕ) (s : Text) (place : Place) : Type
    0 where
  pub field : Field
  pub at : slice_get list.fields index ≡ Some field
  pub is_new : list_any (is_of field.name) seen ≡ false
  pub is : read_item x schema room list seen s ≡ meant (read_field_value x schema room field.shape place.gap place.rest) (item_of field)

-- behind a name that no field has, the colon and the gaps, the value stands that is skipped
pub record IsAtUnknown (x : Extensions) (schema : List Shape) (room : ℕ) (list : FieldList) (seen : List Item) (s : Text) (place : Place) : Type 0 where
  pub spelled : Text
  pub behind : Text
  pub named : name s ≡ got spelled behind
  pub is_unknown : list_any (is_called spelled) list.fields ≡ false
  pub is : read_item x schema room list seen s ≡ meant (read_any_below x.unwrap_variant_newtypes room 1 place.gap place.rest) (skipped spelled)

-- one or the other
abbrev pub IsAtTarget : Extensions → List Shape → ℕ → FieldList → List Item → Option ℕ → Text → Place → Type 0
IsAtTarget x schema room list seen None s place = IsAtUnknown x schema room list seen s place
IsAtTarget x schema room list seen (Some index) s place = IsAtValue x schema room list seen index s place

-- The place is at the value of the field at the index, or at one that is skipped; or no item can be read. What stands before the value knows no depth.
abbrev pub ReadsFieldName : FieldList → List (Option plain.Data) → Place → Result (Option ℕ) Error → Place → Type 0
ReadsFieldName list slots old result new =
    (x : Extensions) (schema : List Shape) (room : ℕ) (seen : List Item) → AreSlotsOf slots list.fields seen
    → MatchResult result (λ index. IsAtTarget x schema room list seen index old.rest new) (IsMemoryOr (read_item x schema room list seen old.rest ≡ failed bad))

-- A field's name, the colon and the gaps around it are gone past, or refused.
pub record GoesPastName (list : FieldList) (slots : List (Option plain.Data)) (old : Place) (result : Result (Option ℕ) Error) (new : Place) : Type 0 where
  pub value : ReadsFieldName list slots old result new
  pub shorter : OnOk result (length new.rest < length old.rest)
  pub turns : Moves 1 old result new
  pub enters : OnOk result (Enters old new)
  pub leads : LeadsOn old result new

-- likewise the awaited field's name alone; where it doesn't stand here, the place stays, and one look was taken at most
abbrev pub TakesAwaited : FieldList → List (Option plain.Data) → Place → Result (Option ℕ) Error → Place → Type 0
TakesAwaited list slots old (Ok None) new = Stays old new × Looks 1 old new
TakesAwaited list slots old (Ok (Some index)) new = GoesPastName list slots old (Ok (Some index)) new
TakesAwaited list slots old (Err e) new = GoesPastName list slots old (Err e) new

-- an item is read: the data of the field at this index
pub record IsItem (list : FieldList) (seen : List Item) (index : ℕ) (d : plain.Data) (answer : Got Item) (rest : Text) : Type 0 where
  pub field : Field
  pub at : slice_get list.fields index ≡ Some field
  pub is_new : list_any (is_of field.name) seen ≡ false
  pub is : answer ≡ got (field.name, d) rest

-- an item is skipped: no field has its name
pub record IsSkipped (list : FieldList) (s : Text) (answer : Got Item) (rest : Text) : Type 0 where
  pub spelled : Text
  pub behind : Text
  pub named : name s ≡ got spelled behind
  pub is_unknown : list_any (is_called spelled) list.fields ≡ false
  pub is : answer ≡ got (spelled, plain.the_unit) rest

-- one or the other
abbrev pub IsReadItem : FieldList → List Item → Text → Option (ℕ × Data) → Got Item → Text → Type 0
IsReadItem list seen s None answer rest = IsSkipped list s answer rest
IsReadItem list seen s (Some item) answer rest = IsItem list seen item.0 (data_view item.1) answer rest

-- an item is read as the reader function reads it, or refused for its fault
abbrev pub ReadsItem : FieldList → List Item → Text → Result (Option (ℕ × Data)) Error → Got Item → Text → Type 0
ReadsItem list seen s (Ok item) answer rest = IsReadItem list seen s item answer rest
ReadsItem list seen s (Err e) answer rest = IsFaultOf (class_of e) answer

-- likewise in each room that the limit leaves to the items of a struct
abbrev pub ReadsField : Terms → FieldList → List (Option Data) → Place → Result (Option (ℕ × Data)) Error → Text → Type 0
ReadsField terms list slots place result rest =
    (room : ℕ) (seen : List Item) → IsRoom terms.limit (enough_for_items terms.schema (length place.rest)) room → AreSlotsOf (slots_view slots) list.fields seen
    → ReadsItem list seen place.rest result (read_item terms.extensions terms.schema (suc room) list seen place.rest) rest

-- what stands in the slots at the closing parenthesis makes up what reading the fields answers
abbrev pub ReadsSlots : (Slots → List (Option Data)) → (Fields → plain.Data) → List Field → Result Slots Error → Got plain.Data → Text → Type 0
ReadsSlots slots make fields (Ok found) answer rest =
    (u : Text) × (rest ≡ right_parenthesis ∷ u) × (answer ≡ given (option_map make (filled fields (slots_view (slots found)))) u)
ReadsSlots slots make fields (Err e) answer rest = IsFaultOf (class_of e) answer

-- likewise in each room that the limit leaves to the fields, whatever they make
abbrev pub ReadsFields : Terms → FieldList → (Slots → List (Option Data)) → Place → Result Slots Error → Text → Type 0
ReadsFields terms list slots place result rest =
    (make : Fields → plain.Data) (room : ℕ) → IsRoom terms.limit (enough_for_items terms.schema (length place.rest)) room
    → ReadsSlots slots make list.fields result (read_fields terms.extensions terms.schema (suc room) make list [] place.gap place.rest) rest
