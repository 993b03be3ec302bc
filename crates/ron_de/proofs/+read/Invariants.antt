use Rattle.std.proofs.Common.{◌≡◌, ◌+◌, ◌*◌, suc, true, false, cond, length, Some}
use Rattle.std.specs.List.{All}
use Rattle.ron_spec_words.specs.Runs.{is_at}
use Rattle.ron_de_parts.specs.Slices.{StringsAreSliced, SlotIsSliced}
use Rattle.ron_de.specs.Elements.{elements_view, Encloses}
use Rattle.ron_de.proofs.ElementLemmas.{ElementsRead}
use Rattle.ron_spec_grammar.specs.Room.{enough, chain}
use Rattle.ron_data_schema.specs.Shapes.{list_view}
use Rattle.ron_data.specs.Slots.{slots_in, AreSlotsFor}
use Rattle.ron_de_parts.specs.Room.{enough_for_items, enough_for_group}
use Rattle.ron_de.proofs.FieldsLemmas.{FieldsRead}
use Rattle.ron_de_parts.specs.Slices.{PairIsSliced}
use Rattle.ron_de.proofs.PairLemmas.{PairsRead}
use Rattle.ron_de.proofs.TurnLemmas.{CountsTo}
use Rattle.ron_de.proofs.+read.Given as goal

-- a value's levels without a limit; four steps of the code to each
abbrev pub decreases-value::read_value : goal.decreases-value::read_value
decreases-value::read_value l = 4 * enough l.context.now.schema false l.index (length l.cursor.now.rest) + 1

abbrev pub decreases-structs::read_struct : goal.decreases-structs::read_struct
decreases-structs::read_struct l = 4 * enough_for_group l.context.now.schema (length l.cursor.now.rest) + 1

abbrev pub decreases-structs::read_field_group : goal.decreases-structs::read_field_group
decreases-structs::read_field_group l = 4 * enough_for_group l.context.now.schema (suc (length l.cursor.now.rest))

-- above the fields, which have one level less
abbrev pub decreases-structs::read_fields_inside : goal.decreases-structs::read_fields_inside
decreases-structs::read_fields_inside l = 4 * enough_for_items l.context.now.schema (length l.cursor.now.rest) + 2

abbrev pub decreases-structs::read_fields : goal.decreases-structs::read_fields
decreases-structs::read_fields l = 4 * enough_for_items l.context.now.schema (length l.cursor.now.rest) + 1

abbrev pub decreases-structs::read_field : goal.decreases-structs::read_field
decreases-structs::read_field l = 4 * enough_for_items l.context.now.schema (length l.cursor.now.rest)

abbrev pub invariant-structs::read_fields-fields : goal.invariant-structs::read_fields-fields
invariant-structs::read_fields-fields l =
    (l.cursor.text ≡ l.initial.cursor.text)
    × AreSlotsFor l.list.fields.items l.found
    × FieldsRead l.context (list_view l.list) (slots_in l.list.fields.items l.found) l.initial.cursor l.cursor
    × (l.context.source ≡ Some l.initial.cursor.text → All (SlotIsSliced l.initial.cursor.rest l.initial.cursor.text) (slots_in l.list.fields.items l.found))
    × CountsTo (chain l.context.schema) 41 l.initial.cursor l.cursor

abbrev pub decreases-structs::read_fields-fields : goal.decreases-structs::read_fields-fields
decreases-structs::read_fields-fields l = length l.cursor.rest

abbrev pub decreases-lists::read_seq : goal.decreases-lists::read_seq
decreases-lists::read_seq l = 4 * enough_for_group l.context.now.schema (length l.cursor.now.rest) + 1

abbrev pub decreases-tuples::read_tuple : goal.decreases-tuples::read_tuple
decreases-tuples::read_tuple l = 4 * enough_for_group l.context.now.schema (length l.cursor.now.rest) + 1

abbrev pub decreases-tuples::read_tuple_struct : goal.decreases-tuples::read_tuple_struct
decreases-tuples::read_tuple_struct l = 4 * enough_for_group l.context.now.schema (length l.cursor.now.rest) + 1

abbrev pub decreases-tuples::read_tuple_items : goal.decreases-tuples::read_tuple_items
decreases-tuples::read_tuple_items l = 4 * enough_for_group l.context.now.schema (suc (length l.cursor.now.rest))

-- above the items, which have one level less
abbrev pub decreases-tuples::read_tuple_inside : goal.decreases-tuples::read_tuple_inside
decreases-tuples::read_tuple_inside l = 4 * enough_for_items l.context.now.schema (length l.cursor.now.rest) + 2

abbrev pub decreases-newtypes::read_newtype : goal.decreases-newtypes::read_newtype
decreases-newtypes::read_newtype l = 4 * enough l.context.now.schema false l.content (length l.cursor.now.rest) + 4

-- one step below the newtype, whose content has one level less
abbrev pub decreases-newtypes::read_held : goal.decreases-newtypes::read_held
decreases-newtypes::read_held l = 4 * enough l.context.now.schema false l.content (length l.cursor.now.rest) + 3

abbrev pub decreases-content::read_content : goal.decreases-content::read_content
decreases-content::read_content l = 4 * enough_for_group l.context.now.schema (suc (length l.cursor.now.rest))

abbrev pub decreases-content::read_below : goal.decreases-content::read_below
decreases-content::read_below l = 4 * enough l.context.now.schema false l.content (length l.cursor.now.rest) + 2

abbrev pub decreases-elements::read_elements : goal.decreases-elements::read_elements
decreases-elements::read_elements l = 4 * enough_for_items l.context.now.schema (length l.cursor.now.rest) + 1

abbrev pub decreases-elements::read_element : goal.decreases-elements::read_element
decreases-elements::read_element l = 4 * enough_for_items l.context.now.schema (length l.cursor.now.rest)

abbrev pub invariant-elements::read_elements-items : goal.invariant-elements::read_elements-items
invariant-elements::read_elements-items l =
    (l.cursor.text ≡ l.initial.cursor.text)
    × ((c : Encloses l.close) × ElementsRead l.context (elements_view l.elements) l.close c l.items.items l.initial.cursor l.cursor)
    × (l.context.source ≡ Some l.initial.cursor.text → All (StringsAreSliced l.initial.cursor.rest l.initial.cursor.text) l.items.items)
    × CountsTo (chain l.context.schema) l.close l.initial.cursor l.cursor

abbrev pub decreases-elements::read_elements-items : goal.decreases-elements::read_elements-items
decreases-elements::read_elements-items l = 2 * length l.cursor.rest + cond (is_at l.close l.cursor.rest) 0 1

abbrev pub decreases-content::read_bare_below : goal.decreases-content::read_bare_below
decreases-content::read_bare_below l = 4 * enough l.context.now.schema true l.content (length l.cursor.now.rest) + 3

abbrev pub decreases-bare::read_bare : goal.decreases-bare::read_bare
decreases-bare::read_bare l = 4 * enough l.context.now.schema true l.index (length l.cursor.now.rest) + 2

abbrev pub decreases-bare::read_bare_option : goal.decreases-bare::read_bare_option
decreases-bare::read_bare_option l = 4 * enough l.context.now.schema true l.index (length l.cursor.now.rest) + 1

abbrev pub decreases-bare::read_bare_newtype : goal.decreases-bare::read_bare_newtype
decreases-bare::read_bare_newtype l = 4 * enough l.context.now.schema true l.content (length l.cursor.now.rest) + 3

abbrev pub decreases-bare::read_closed : goal.decreases-bare::read_closed
decreases-bare::read_closed l = 4 * enough l.context.now.schema true l.index (length l.cursor.now.rest)

-- one step below the value, at the same text
abbrev pub decreases-bare::read_bare_items : goal.decreases-bare::read_bare_items
decreases-bare::read_bare_items l = 4 * enough_for_items l.context.now.schema (length l.cursor.now.rest) + 3

abbrev pub decreases-options::read_option : goal.decreases-options::read_option
decreases-options::read_option l = 4 * enough l.context.now.schema false l.content (length l.cursor.now.rest) + 4

abbrev pub decreases-options::read_some : goal.decreases-options::read_some
decreases-options::read_some l = 4 * enough l.context.now.schema false l.content (length l.cursor.now.rest) + 3

abbrev pub decreases-maps::read_map : goal.decreases-maps::read_map
decreases-maps::read_map l = 4 * enough_for_group l.context.now.schema (length l.cursor.now.rest) + 1

abbrev pub decreases-maps::read_pairs : goal.decreases-maps::read_pairs
decreases-maps::read_pairs l = 4 * enough_for_items l.context.now.schema (length l.cursor.now.rest) + 1

abbrev pub decreases-maps::read_pair : goal.decreases-maps::read_pair
decreases-maps::read_pair l = 4 * enough_for_items l.context.now.schema (length l.cursor.now.rest)

abbrev pub invariant-maps::read_pairs-pairs : goal.invariant-maps::read_pairs-pairs
invariant-maps::read_pairs-pairs l =
    (l.cursor.text ≡ l.initial.cursor.text)
    × PairsRead l.context l.key l.value l.pairs.items l.initial.cursor l.cursor
    × (l.context.source ≡ Some l.initial.cursor.text → All (PairIsSliced l.initial.cursor.rest l.initial.cursor.text) l.pairs.items)
    × CountsTo (chain l.context.schema) 125 l.initial.cursor l.cursor

abbrev pub decreases-maps::read_pairs-pairs : goal.decreases-maps::read_pairs-pairs
decreases-maps::read_pairs-pairs l = length l.cursor.rest

abbrev pub decreases-enums::read_enum : goal.decreases-enums::read_enum
decreases-enums::read_enum l = 4 * enough_for_group l.context.now.schema (length l.cursor.now.rest) + 2

abbrev pub decreases-enums::read_variant_content : goal.decreases-enums::read_variant_content
decreases-enums::read_variant_content l = 4 * enough_for_group l.context.now.schema (length l.cursor.now.rest) + 1
