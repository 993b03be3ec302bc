-- When code reads a value as the reader function does.
use Rattle.std.specs.Prelude.{◌≡◌, ◌⊎◌, ℕ, Bool, true, false, length, Option, Some, slice_get, Result, Ok, Err, IfErr}
use Rattle.ron_spec_words.specs.Characters.{Text}
use Rattle.ron_spec_words.specs.Reader.{Got, got, failed, bad}
use Rattle.ron_spec_words.specs.Quoted.{String}
use Rattle.ron_spec_grammar.specs.Data as plain
use Rattle.ron_spec_grammar.specs.Schema.{Shape, any_value, str, bytes, any_raw}
use Rattle.ron_spec_grammar.specs.Room.{enough}
use Rattle.ron_spec_grammar.specs.Reading.{read, read_at}
use Rattle.ron_spec_grammar.specs.Values.Grammar.{read_any}
use Rattle.ron_spec_grammar.specs.Values.Statement.{enough_for_value}
use Rattle.ron_value.specs.Tree as tree
use Rattle.ron_value.specs.Tree.{Tree}
use Rattle.ron_base.specs.declared.error.Error.{Error}
use Rattle.ron_base.specs.Class.{class_of}
use Rattle.ron_value_number.specs.declared.number.Number.{Number}
use Rattle.ron_value_number.specs.Number.{number_width, number_value}
use Rattle.ron_lex.specs.Place.{Place, is_at_start}
use Rattle.ron_lex.specs.Quoted.{HoldsEscape}
use Rattle.ron_de_steps.specs.Reads.{IsFaultOf, Reads}
use Rattle.ron_data.specs.declared.data.Data.{Data}
use Rattle.ron_data.specs.Datum.{data_view}
use Rattle.ron_de_parts.specs.Bytes.{ExpectsBytes}
use Rattle.ron_de_parts.specs.Errors.{HasLeafShape}
use Rattle.ron_de_parts.specs.Terms.{Terms, StandsAt}
use Rattle.ron_de_parts.specs.Room.{IsRoom}

-- the data of a number
abbrev pub number_view : Number → plain.Data
number_view n = plain.int_of (number_width n) (number_value n)

-- the same in a shape that the number fills: a value in that of values, an integer in any other
abbrev pub filling : Option Shape → Number → plain.Data
filling (Some any_value) n = plain.value_of (tree.number (number_width n) (number_value n))
filling _ n = number_view n

-- In each room that the limit leaves, the answer is the reader function's of the shape at an index, behind the gap that stands before the place.
abbrev pub ReadsValue : Terms → ℕ → Place → Result Data Error → Text → Type 0
ReadsValue terms i place result rest =
    (room : ℕ) → IsRoom terms.limit (enough terms.schema false i (length place.rest)) room
    → Reads data_view result (read terms.extensions terms.schema room false i place.gap place.rest) rest

-- What is read by a shape, wherever it stands. `read_value`, and what hands on to it, take an index of the table. The
-- functions that it calls for a shape take the shape's parts. Their clauses hold at each index where that shape
-- stands (`ReadsShape`), with the chain of options and newtypes one longer there than at what it holds (`StandsAt`).
--
-- likewise wherever in the table this shape stands
abbrev pub ReadsShape : Terms → Shape → Place → Result Data Error → Text → Type 0
ReadsShape terms shape place result rest = (i : ℕ) → StandsAt terms shape i → ReadsValue terms i place result rest

-- likewise of the shape at an index, where nothing but that gap stands before the place in the text
abbrev pub ReadsFirst : Terms → ℕ → Place → Result Data Error → Text → Type 0
ReadsFirst terms i place result rest =
    (room : ℕ) → IsRoom terms.limit (enough terms.schema false i (length place.rest)) room
    → Reads data_view result (read_at true terms.extensions terms.schema room false i place.gap place.rest) rest

-- likewise of a raw text, wherever the shape stands, at the start of the text or not
abbrev pub ReadsRawShape : Bool → Terms → Place → Result Data Error → Text → Type 0
ReadsRawShape at_start terms place result rest =
    (i : ℕ) → StandsAt terms any_raw i → (room : ℕ) → IsRoom terms.limit (enough terms.schema false i (length place.rest)) room
    → Reads data_view result (read_at at_start terms.extensions terms.schema room false i place.gap place.rest) rest

-- likewise at the start of the text or not, as the place is
abbrev pub ReadsAtPlace : Terms → ℕ → Place → Result Data Error → Text → Type 0
ReadsAtPlace terms i place result rest =
    (room : ℕ) → IsRoom terms.limit (enough terms.schema false i (length place.rest)) room
    → Reads data_view result (read_at (is_at_start place) terms.extensions terms.schema room false i place.gap place.rest) rest

-- likewise wherever this shape stands, where the answer is what is read, seen otherwise
abbrev pub ReadsAs : (Data → plain.Data) → Terms → Shape → Place → Result Data Error → Text → Type 0
ReadsAs view terms shape place result rest =
    (i : ℕ) → StandsAt terms shape i → (room : ℕ) → IsRoom terms.limit (enough terms.schema false i (length place.rest)) room
    → Reads view result (read terms.extensions terms.schema room false i place.gap place.rest) rest

-- Where the shape at an index is an integer or a character, a refusal, also one for want of memory, says that none is read there, in any room.
abbrev pub RefusesLeaf : Terms → ℕ → Place → Result Data Error → Type 0
RefusesLeaf terms i place result =
    HasLeafShape terms.schema i → IfErr result (λ _. (room : ℕ) → read terms.extensions terms.schema room false i place.gap place.rest ≡ failed bad)

-- Where the shape at an index is a string, and slices are taken of the text, a refusal says that none is read there, in any room, or that the string holds an
-- escape or a continuation, for which memory is wanted.
abbrev pub TakesMemoryForEscapes : Terms → ℕ → Place → Result Data Error → Type 0
TakesMemoryForEscapes terms i place result =
    slice_get terms.schema i ≡ Some str → terms.source ≡ Some place.text
    → IfErr result (λ _. HoldsEscape String place.rest ⊎ ((room : ℕ) → read terms.extensions terms.schema room false i place.gap place.rest ≡ failed bad))

-- Where the shape at an index is bytes, and none begin here, the answer is that a byte string is expected.
abbrev pub ExpectsBytesAt : Terms → ℕ → Place → Result Data Error → Type 0
ExpectsBytesAt terms i place result = slice_get terms.schema i ≡ Some bytes → ExpectsBytes place.rest result

-- a value of any form is read, and dropped
abbrev pub IsDropped : Result (Unit {0}) Error → Got Tree → Text → Type 0
IsDropped (Ok done) answer rest = (t : Tree) × (answer ≡ got t rest)
IsDropped (Err e) answer rest = IsFaultOf (class_of e) answer

-- likewise in each room that the limit leaves
abbrev pub SkipsValue : Terms → Place → Result (Unit {0}) Error → Text → Type 0
SkipsValue terms place result rest =
    (room : ℕ) → IsRoom terms.limit (enough_for_value false (length place.rest)) room
    → IsDropped result (read_any terms.extensions.unwrap_variant_newtypes room false place.gap place.rest) rest
