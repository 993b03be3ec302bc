-- When code reads bytes as the reader function does.
use Rattle.std.specs.Prelude.{◌≡◌, ℕ, suc, Bool, false, ◌||◌, codes, length, [], ◌∷◌, Result, Ok, Err, Vec}
use Rattle.std.specs.declared.alloc.Global.{Global}
use Rattle.ron_spec_words.specs.Characters.{Text, left_bracket, right_bracket}
use Rattle.ron_spec_words.specs.Runs.{is_at, begins_with}
use Rattle.ron_spec_words.specs.Reader.{Reader, Got, given, means}
use Rattle.ron_spec_words.specs.Quoted.{byte_string}
use Rattle.ron_spec_grammar.specs.Data.{Data}
use Rattle.ron_spec_grammar.specs.Shapes.Bytes.{bytes_data, byte_item, read_bytes}
use Rattle.ron_spec_grammar.specs.Turns.{read_bytes_from}
use Rattle.ron_base.specs.declared.error.Error.{Error}
use Rattle.ron_base.specs.declared.error.Error.TheVariants.{ExpectedByteString}
use Rattle.ron_base.specs.Class.{class_of}
use Rattle.ron_lex.specs.Place.{Place}
use Rattle.ron_de_steps.specs.Reads.{IsFaultOf, Reads}
use Rattle.ron_de_parts.specs.Terms.{Terms}
use Rattle.ron_data.specs.declared.data.Data.{Data as CodeData}
use Rattle.ron_data.specs.Datum.{data_view}
use Rattle.ron_de_parts.specs.Room.{IsRoom, enough_for_items, enough_for_group}

-- a byte string begins here, raw or not
abbrev pub begins_byte_string : Text → Bool
begins_byte_string s = begins_with (codes "b\"") s || begins_with (codes "br") s

-- bytes begin here: a list of them, or a byte string
abbrev pub begins_bytes : Text → Bool
begins_bytes s = is_at left_bracket s || begins_byte_string s

-- Where no bytes begin, the answer is that a byte string is expected, and never want of memory.
abbrev pub ExpectsBytes : Text → Result CodeData Error → Type 0
ExpectsBytes s result = begins_bytes s ≡ false → result ≡ Err ExpectedByteString

-- the reader function of bytes where no bracket stands
abbrev pub read_quoted : Reader Data
read_quoted = means byte_string bytes_data

-- In each room that the limit leaves, the answer is the reader function's of bytes.
abbrev pub ReadsBytes : Terms → Place → Result CodeData Error → Text → Type 0
ReadsBytes terms place result rest =
    (room : ℕ) → IsRoom terms.limit (enough_for_group terms.schema (length place.rest)) room → Reads data_view result (read_bytes room false place.rest) rest

-- In each room that the limit leaves to the items of a list, a byte is read as the reader function reads it.
abbrev pub ReadsByte : Terms → Place → Result ℕ Error → Text → Type 0
ReadsByte terms place result rest =
    (room : ℕ) → IsRoom terms.limit (enough_for_items terms.schema (length place.rest)) room → Reads (λ b. b) result (byte_item (suc room) place.rest) rest

-- the bytes at the closing bracket are what reading the list answers
abbrev pub IsByteList : Result (Vec ℕ Global) Error → Got Data → Text → Type 0
IsByteList (Ok bytes) answer rest = (u : Text) × (rest ≡ right_bracket ∷ u) × (answer ≡ given (bytes_data bytes.items) u)
IsByteList (Err e) answer rest = IsFaultOf (class_of e) answer

-- likewise in each room that the limit leaves to the items of a list
abbrev pub ReadsByteList : Terms → Place → Result (Vec ℕ Global) Error → Text → Type 0
ReadsByteList terms place result rest =
    (room : ℕ) → IsRoom terms.limit (enough_for_items terms.schema (length place.rest)) room
    → IsByteList result (read_bytes_from (suc room) [] place.gap place.rest) rest
