-- Slots: for each field of a struct its data, or none so far.
use Rattle.std.specs.Prelude.{◌≡◌, ℕ, List, [], map, Option, Some, None, option_map, slice_get, length, Bool, Result, MatchResult, Vec, String}
use Rattle.std.specs.declared.alloc.Global.{Global}
use Rattle.std.specs.Option.{option_and_then}
use Rattle.ron_spec_words.specs.Characters.{Text}
use Rattle.ron_spec_words.specs.Turns.{all_items}
use Rattle.ron_spec_grammar.specs.Data as plain
use Rattle.ron_spec_grammar.specs.Schema.{Shape, Field, FieldList}
use Rattle.ron_spec_grammar.specs.Shapes.Struct.{Item, known, unknown, arranged}
use Rattle.ron_spec_grammar.specs.Values.Conversion.{field_named, fields_into}
use Rattle.ron_value.specs.Tree.{Tree, Pairs}
use Rattle.ron_base.specs.declared.error.Error.{Error}
use Rattle.ron_data.specs.declared.data.Data.{Data}
use Rattle.ron_data_schema.specs.declared.schema.FieldShape.{FieldShape}
use Rattle.ron_data.specs.declared.slots.Slots.{Slots}
use Rattle.ron_data.specs.Datum.{fields_view}
use Rattle.ron_data.specs.Slots.{slots_view, filled, AreSlotsOf}
use Rattle.ron_data_schema.specs.Shapes.{field_view}
use Rattle.ron_data_convert.specs.Becomes.{IsMemoryOr, Becomes}
use Rattle.ron_data_convert.specs.Misfits.{Misfit, key_misfit, fields_misfit}
use Rattle.ron_data_convert.specs.Places.{slots_at, AreFlagsOf}

-- the fields that a schema means, and no others
abbrev pub field_views : List FieldShape → List Field
field_views fields = map field_view fields

-- behind these items, the last of them first, a key names the field at this index, if it is a new one; or, with no index, none that the schema knows, and is
-- skipped
abbrev pub Names : FieldList → List Item → Tree → Option ℕ → Type 0
Names list seen key (Some index) = field_named list seen key ≡ option_map known (slice_get list.fields index)
Names list seen key None = (name : Text) × (field_named list seen key ≡ Some (unknown name))

-- behind the items that the slots hold, seen from the last one: the field that a key names, if it is a new one, none where the key is skipped; or it may not
-- stand here
abbrev pub FindsField : FieldList → List (Option plain.Data) → Tree → Result (Option ℕ) Error → Type 0
FindsField list slots key result =
    (seen : List Item) → AreSlotsOf slots list.fields (all_items seen [])
    → MatchResult result (Names list seen key) (IsMemoryOr (key_misfit list key) (field_named list seen key ≡ None))

-- likewise of flags that say which slots are filled, with the field's name
abbrev pub FindsPlace : FieldList → List Bool → Tree → Result (Option (ℕ × String Global)) Error → Type 0
FindsPlace list flags key result =
    (seen : List Item) (slots : List (Option Data)) → AreFlagsOf (length list.fields) flags slots
    → AreSlotsOf (slots_view slots) list.fields (all_items seen [])
    → MatchResult result (λ found. Names list seen key (option_map (λ f. f.0) found)) (IsMemoryOr (key_misfit list key) (field_named list seen key ≡ None))

-- what stands in the slots are the items that the pairs become, or they become none, and the error is that of this misfit
abbrev pub FillsSlots : FieldList → (Slots → List (Option Data)) → Option (List Item) → Misfit → Result Slots Error → Type 0
FillsSlots list slots answer m result = MatchResult result
    (λ found. (items : List Item) × (answer ≡ Some items) × AreSlotsOf (slots_view (slots found)) list.fields items) (IsMemoryOr m (answer ≡ None))

-- the fields in the list's order, from their places, unless one is missing that may not be
abbrev pub fields_at : List FieldShape → List Bool → List (String Global × Data) → Option plain.Fields
fields_at fields flags made = filled (map field_view fields) (slots_view (slots_at fields flags made))

-- pairs become the fields of a struct, in the list's order, or the error is that of their first misfit
abbrev pub BecomesFields : List Shape → FieldList → Pairs → Result (Vec (String Global × Data) Global) Error → Type 0
BecomesFields schema list pairs result = Becomes (λ all. fields_view all.items) (option_and_then (arranged list.fields) (fields_into schema list [] pairs))
    (fields_misfit schema list [] pairs) result
