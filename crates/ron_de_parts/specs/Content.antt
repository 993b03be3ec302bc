-- When code reads what stands in a value as the reader function does.
use Rattle.std.specs.Prelude.{ℕ, suc, Bool, true, false, List, length, Result, Vec, String, ◌+◌}
use Rattle.std.specs.declared.alloc.Global.{Global}
use Rattle.ron_spec_words.specs.Characters.{Text}
use Rattle.ron_spec_grammar.specs.Data as plain
use Rattle.ron_spec_grammar.specs.Schema.{FieldList, Shape}
use Rattle.ron_spec_grammar.specs.Room.{enough}
use Rattle.ron_spec_grammar.specs.Turns.{read_tuple_group, read_below, read_content, read_closed, read_bare, read_bare_below, read_bare_items}
use Rattle.ron_spec_grammar.specs.Turns.{read_tuple_inside, read_fields_inside, read_field_group}
use Rattle.ron_base.specs.declared.error.Error.{Error}
use Rattle.ron_lex.specs.Place.{Place}
use Rattle.ron_de_steps.specs.Reads.{Reads}
use Rattle.ron_data.specs.declared.data.Data.{Data}
use Rattle.ron_data.specs.Datum.{data_view, items_view, fields_view}
use Rattle.ron_de_parts.specs.Terms.{Terms, StandsAt}
use Rattle.ron_de_parts.specs.Room.{IsRoom, enough_for_items, enough_for_group}

-- In each room that the limit leaves, the answer is the reader function's of the shape at an index, a level deeper.
abbrev pub ReadsBelow : Terms → ℕ → Place → Result Data Error → Text → Type 0
ReadsBelow terms i place result rest =
    (room : ℕ) → IsRoom terms.limit (suc (enough terms.schema false i (length place.rest))) room
    → Reads data_view result (read_below terms.extensions terms.schema room i place.gap place.rest) rest

-- likewise of what stands in brackets, with these, bare where it is unwrapped
abbrev pub ReadsContent : Terms → Bool → ℕ → Text → Result Data Error → Text → Type 0
ReadsContent terms unwrap i s result rest =
    (room : ℕ) → IsRoom terms.limit (enough_for_group terms.schema (length s)) room
    → Reads data_view result (read_content terms.extensions terms.schema room unwrap i s) rest

-- Bare content is read up to and past its parenthesis. Its one comma and the closing parenthesis belong to it, so one
-- function reads both (`read_bare`, and `ReadsBare` in its clause). A shape without a bare form of its own is its
-- value, perhaps a comma, and the parenthesis: one lemma for nine shapes (`bare_plain`). A bare tuple or struct is
-- what stands behind the opening parenthesis of one that isn't bare, so both call the same function.
--
-- likewise of bare content, up to and past its closing bracket
abbrev pub ReadsBare : Terms → ℕ → Place → Result Data Error → Text → Type 0
ReadsBare terms i place result rest =
    (room : ℕ) → IsRoom terms.limit (enough terms.schema true i (length place.rest)) room
    → Reads data_view result (read_bare terms.extensions terms.schema room i place.gap place.rest) rest

-- likewise wherever in the table this shape stands
abbrev pub ReadsBareShape : Terms → Shape → Place → Result Data Error → Text → Type 0
ReadsBareShape terms shape place result rest = (i : ℕ) → StandsAt terms shape i → ReadsBare terms i place result rest

-- likewise of a value with perhaps a comma behind it, up to and past a closing bracket
abbrev pub ReadsClosed : Terms → ℕ → Place → Result Data Error → Text → Type 0
ReadsClosed terms i place result rest =
    (room : ℕ) → IsRoom terms.limit (enough terms.schema true i (length place.rest)) room
    → Reads data_view result (read_closed terms.extensions terms.schema room i place.gap place.rest) rest

-- likewise of bare content, a level deeper
abbrev pub ReadsBareBelow : Terms → ℕ → Place → Result Data Error → Text → Type 0
ReadsBareBelow terms i place result rest =
    (room : ℕ) → IsRoom terms.limit (suc (enough terms.schema true i (length place.rest))) room
    → Reads data_view result (read_bare_below terms.extensions terms.schema room i place.gap place.rest) rest

-- likewise of the bare items of a tuple, whatever they make
abbrev pub ReadsBareItems : Terms → List ℕ → Place → Result (Vec Data Global) Error → Text → Type 0
ReadsBareItems terms js place result rest =
    (make : plain.Datas → plain.Data) (room : ℕ) → IsRoom terms.limit (enough_for_items terms.schema (length place.rest) + 1) room
    → Reads (λ items. make (items_view items.items)) result (read_bare_items terms.extensions terms.schema room make js place.gap place.rest) rest

-- What stands in parentheses, apart from what it makes. The items of tuples and the fields of structs are read by
-- functions whose clauses hold for whatever is made of them (`ReadsTuple`, `ReadsFieldGroup`). So tuples, tuple
-- structs, structs, variants and bare content share them. Likewise what a variant holds is read for any names of an
-- enum and a variant (`ReadsVariant`).
--
-- likewise of a tuple's items in brackets, whatever they make
abbrev pub ReadsTuple : Terms → List ℕ → Text → Result (Vec Data Global) Error → Text → Type 0
ReadsTuple terms js s result rest =
    (make : plain.Datas → plain.Data) (room : ℕ) → IsRoom terms.limit (enough_for_group terms.schema (length s)) room
    → Reads (λ items. make (items_view items.items)) result (read_tuple_group terms.extensions terms.schema room make js s) rest

-- likewise of the items from behind the opening parenthesis, up to and past the closing one
abbrev pub ReadsTupleInside : Terms → List ℕ → Place → Result (Vec Data Global) Error → Text → Type 0
ReadsTupleInside terms js place result rest =
    (make : plain.Datas → plain.Data) (room : ℕ) → IsRoom terms.limit (enough_for_items terms.schema (length place.rest) + 1) room
    → Reads (λ items. make (items_view items.items)) result (read_tuple_inside terms.extensions terms.schema room make js place.gap place.rest) rest

-- likewise of fields in parentheses, whatever they make
abbrev pub ReadsFieldGroup : Terms → FieldList → Text → Result (Vec (String Global × Data) Global) Error → Text → Type 0
ReadsFieldGroup terms list s result rest =
    (make : plain.Fields → plain.Data) (room : ℕ) → IsRoom terms.limit (enough_for_group terms.schema (length s)) room
    → Reads (λ all. make (fields_view all.items)) result (read_field_group terms.extensions terms.schema room make list s) rest

-- likewise of the fields from behind the opening parenthesis, up to and past the closing one
abbrev pub ReadsFieldsInside : Terms → FieldList → Place → Result (Vec (String Global × Data) Global) Error → Text → Type 0
ReadsFieldsInside terms list place result rest =
    (make : plain.Fields → plain.Data) (room : ℕ) → IsRoom terms.limit (enough_for_items terms.schema (length place.rest) + 1) room
    → Reads (λ all. make (fields_view all.items)) result (read_fields_inside terms.extensions terms.schema room make list place.gap place.rest) rest
