-- When code reads a value, or a part of one, as the reader function does.
use Rattle.std.specs.Prelude.{ℕ, suc, Bool, true, false, length, map, Result, Vec}
use Rattle.std.specs.declared.alloc.Global.{Global}
use Rattle.ron_spec_words.specs.Characters.{Text}
use Rattle.ron_spec_grammar.specs.Values.Grammar.{read_any}
use Rattle.ron_spec_grammar.specs.Values.Statement.{enough_for_value}
use Rattle.ron_base.specs.declared.error.Error.{Error}
use Rattle.ron_lex.specs.Place.{Place}
use Rattle.ron_value.specs.declared.value.Value.{Value}
use Rattle.ron_value.specs.View.{tree_of, pair_tree}
use Rattle.ron_de_steps.specs.Conditions.{Conditions}
use Rattle.ron_de_steps.specs.Reads.{Reads}
use Rattle.ron_de_steps.specs.Room.{IsRoom}
use Rattle.ron_de_untyped.specs.declared.entries.Keys.{Keys}
use Rattle.ron_de_untyped.specs.declared.groups.Brackets.{Brackets}
use Rattle.ron_de_untyped.specs.Reading.{read_below, read_items, read_sequence, read_key, read_entry, read_entries, read_mapping, read_inside, read_group}
use Rattle.ron_de_untyped.specs.Reading.{read_held, read_some, read_word}
use Rattle.ron_de_untyped.specs.Room.{enough_for_items, enough_for_list, enough_inside}

-- bare content stands in the parentheses of a Some
abbrev pub unwraps : Conditions → Bool
unwraps conditions = conditions.extensions.unwrap_variant_newtypes

-- In each room that the limit leaves, the answer is the reader function's behind the gap that stands before the place.
abbrev pub ReadsAny : Conditions → Bool → Place → Result Value Error → Text → Type 0
ReadsAny conditions bare place result rest =
    (room : ℕ) → IsRoom conditions.limit (enough_for_value bare (length place.rest)) room
    → Reads tree_of result (read_any (unwraps conditions) room bare place.gap place.rest) rest

-- likewise a level deeper
abbrev pub ReadsBelow : Conditions → Place → Result Value Error → Text → Type 0
ReadsBelow conditions place result rest =
    (room : ℕ) → IsRoom conditions.limit (suc (enough_for_value false (length place.rest))) room
    → Reads tree_of result (read_below (unwraps conditions) room place.gap place.rest) rest

-- likewise of a value that begins with a word
abbrev pub ReadsWord : Conditions → Place → Result Value Error → Text → Type 0
ReadsWord conditions place result rest =
    (room : ℕ) → IsRoom conditions.limit (enough_for_value false (length place.rest)) room
    → Reads tree_of result (read_word (unwraps conditions) room place.rest) rest

-- likewise of brackets with what stands in them
abbrev pub ReadsGroup : Brackets → Conditions → Place → Result Value Error → Text → Type 0
ReadsGroup b conditions place result rest =
    (room : ℕ) → IsRoom conditions.limit (enough_for_value false (length place.rest)) room
    → Reads tree_of result (read_group b (unwraps conditions) room place.rest) rest

-- likewise of what stands in them
abbrev pub ReadsInside : Brackets → Conditions → Place → Result Value Error → Text → Type 0
ReadsInside b conditions place result rest =
    (room : ℕ) → IsRoom conditions.limit (enough_inside (length place.rest)) room
    → Reads tree_of result (read_inside b (unwraps conditions) room place.gap place.rest) rest

-- likewise of what a Some holds
abbrev pub ReadsHeld : Conditions → Place → Result Value Error → Text → Type 0
ReadsHeld conditions place result rest =
    (room : ℕ) → IsRoom conditions.limit (enough_for_value true (length place.rest)) room
    → Reads tree_of result (read_held (unwraps conditions) room place.gap place.rest) rest

-- likewise of a Some from behind its word on
abbrev pub ReadsSome : Conditions → Place → Result Value Error → Text → Type 0
ReadsSome conditions place result rest =
    (room : ℕ) → IsRoom conditions.limit (enough_for_value false (length place.rest)) room
    → Reads tree_of result (read_some (unwraps conditions) room place.rest) rest

-- likewise of items
abbrev pub ReadsItems : Conditions → ℕ → Place → Result (Vec Value Global) Error → Text → Type 0
ReadsItems conditions close place result rest =
    (room : ℕ) → IsRoom conditions.limit (enough_for_items (length place.rest)) room
    → Reads (λ vs. map tree_of vs.items) result (read_items (unwraps conditions) room close place.gap place.rest) rest

-- likewise of items as a list
abbrev pub ReadsSequence : Bool → Conditions → ℕ → Place → Result Value Error → Text → Type 0
ReadsSequence several conditions close place result rest =
    (room : ℕ) → IsRoom conditions.limit (enough_for_list (length place.rest)) room
    → Reads tree_of result (read_sequence several (unwraps conditions) room close place.gap place.rest) rest

-- likewise of a key
abbrev pub ReadsKey : Keys → Conditions → Place → Result Value Error → Text → Type 0
ReadsKey keys conditions place result rest =
    (room : ℕ) → IsRoom conditions.limit (enough_for_items (length place.rest)) room
    → Reads tree_of result (read_key keys (unwraps conditions) room place.gap place.rest) rest

-- likewise of a key and its value
abbrev pub ReadsEntry : Keys → Conditions → Place → Result (Value × Value) Error → Text → Type 0
ReadsEntry keys conditions place result rest =
    (room : ℕ) → IsRoom conditions.limit (enough_for_items (length place.rest)) room
    → Reads pair_tree result (read_entry keys (unwraps conditions) room place.gap place.rest) rest

-- likewise of keys and their values
abbrev pub ReadsEntries : Keys → Conditions → Place → Result (Vec (Value × Value) Global) Error → Text → Type 0
ReadsEntries keys conditions place result rest =
    (room : ℕ) → IsRoom conditions.limit (enough_for_items (length place.rest)) room
    → Reads (λ ps. map pair_tree ps.items) result (read_entries keys (unwraps conditions) room place.gap place.rest) rest

-- likewise of keys and their values as a map
abbrev pub ReadsMapping : Keys → Conditions → Place → Result Value Error → Text → Type 0
ReadsMapping keys conditions place result rest =
    (room : ℕ) → IsRoom conditions.limit (enough_for_list (length place.rest)) room
    → Reads tree_of result (read_mapping keys (unwraps conditions) room place.gap place.rest) rest
