-- When code converts as the definitions do.
use Rattle.std.specs.Prelude.{◌≡◌, ℕ, Bool, true, false, List, map, Option, Some, None, option_map, Result, IsOk, IfOk, MatchResult}
use Rattle.std.specs.Borrow.{Bor}
use Rattle.ron_spec_grammar.specs.Schema as plain
use Rattle.ron_spec_grammar.specs.Data as datum
use Rattle.ron_spec_grammar.specs.Values.Conversion.{into}
use Rattle.ron_base.specs.declared.error.Error.{Error}
use Rattle.ron_base.specs.declared.error.Error.TheVariants.{OutOfMemory, InvalidValueForType, ExpectedDifferentLength, NoSuchStructField, MissingStructField}
use Rattle.ron_base.specs.declared.error.Error.TheVariants.{DuplicateStructField, ExpectedRawValue}
use Rattle.ron_value.specs.declared.value.Value.{Value}
use Rattle.ron_value.specs.Tree.{Tree, text, bytes, Items, Pairs, items_from, pairs_from}
use Rattle.ron_value.specs.View.{tree_of, pair_tree}
use Rattle.ron_lex_text.specs.Parsed.{is_slice, is_byte_slice}
use Rattle.ron_de_raw.specs.Raw.{is_borrowed}
use Rattle.ron_data.specs.declared.data.Data.{Data}
use Rattle.ron_data.specs.declared.data.Data.TheVariants.{Str, Bytes, Raw}
use Rattle.ron_data.specs.Datum.{data_view}
use Rattle.ron_data_schema.specs.declared.schema.Shape.{Shape}
use Rattle.ron_data_schema.specs.Shapes.{shape_view}
use Rattle.ron_data_convert.specs.Misfits.{Misfit, misfit, kind_differs, length_differs, not_raw, names_no_field, names_field_again, lacks_field}

-- want of memory, the error of a misfit, and any other error
pub data Refusal : Type 0 where
  memory : Refusal
  tells : Misfit → Refusal
  foreign : Refusal

-- which misfit an error tells
abbrev pub refusal_of : Error → Refusal
refusal_of OutOfMemory = memory
refusal_of (InvalidValueForType expected found) = tells kind_differs
refusal_of (ExpectedDifferentLength expected found) = tells length_differs
refusal_of ExpectedRawValue = tells not_raw
refusal_of (NoSuchStructField expected found outer) = tells names_no_field
refusal_of (DuplicateStructField field outer) = tells names_field_again
refusal_of (MissingStructField field outer) = tells lacks_field
refusal_of _ = foreign

abbrev pub IsMemoryOrTold : Misfit → Type 0 → Refusal → Type 0
IsMemoryOrTold m P memory = Unit {0}
IsMemoryOrTold m P (tells k) = (k ≡ m) × P
IsMemoryOrTold m P foreign = ⊥

-- The error is want of memory; or it is that of this misfit, and P holds.
abbrev pub IsMemoryOr : Misfit → Type 0 → Error → Type 0
IsMemoryOr m P e = IsMemoryOrTold m P (refusal_of e)

-- What is answered is this, seen so; or there is no answer, and the error is that of this misfit; or there is no memory.
abbrev pub Becomes : {A B : Type 0} → (A → B) → Option B → Misfit → Result A Error → Type 0
Becomes view answer m result = MatchResult result (λ a. answer ≡ Some (view a)) (IsMemoryOr m (answer ≡ None))

-- a refusal by this misfit, whatever is asked
abbrev pub Refuses : {A : Type 0} → Misfit → Result A Error → Type 0
Refuses m result = MatchResult result (λ _. ⊥) (IsMemoryOr m (Unit {0}))

-- the shape that code has found, if there is one
abbrev pub shape_seen : Option (Bor Shape) → Option plain.Shape
shape_seen shape = option_map (λ s. shape_view s.now) shape

-- the shape that is whatever a value may be
abbrev pub is_any_value : Option plain.Shape → Bool
is_any_value (Some plain.any_value) = true
is_any_value _ = false

-- the trees of some values, and of some keys with their values
abbrev pub items_tree : List Value → Items
items_tree values = items_from (map tree_of values)

abbrev pub pairs_tree : List (Value × Value) → Pairs
pairs_tree entries = pairs_from (map pair_tree entries)

abbrev pub is_text : Tree → Bool
is_text (text bs) = true
is_text _ = false

abbrev pub is_bytes : Tree → Bool
is_bytes (bytes bs) = true
is_bytes _ = false

-- The value moves into the data that it becomes, which takes no memory: the data holds no others and no name, and if it is bytes, so is the value.
abbrev pub moves_into : Tree → datum.Data → Bool
moves_into t (datum.bool_of b) = true
moves_into t (datum.int_of w n) = true
moves_into t (datum.char_of c) = true
moves_into t (datum.str_of s) = true
moves_into t (datum.bytes_of bs) = is_bytes t
moves_into t datum.the_unit = true
moves_into t datum.the_none = true
moves_into t (datum.value_of u) = true
moves_into t _ = false

-- data that the value moves into is not refused
abbrev pub IsMovedInto : {A : Type 0} → Tree → Option datum.Data → Result A Error → Type 0
IsMovedInto t answer result = (d : datum.Data) → answer ≡ Some d → moves_into t d ≡ true → IsOk result

-- A text, bytes or a raw text are its own, and no slice of another.
abbrev pub IsOwn : Data → Type 0
IsOwn (Str s) = is_slice s ≡ false
IsOwn (Bytes bs) = is_byte_slice bs ≡ false
IsOwn (Raw r) = is_borrowed r ≡ false
IsOwn _ = Unit {0}

-- What is answered is the data that a value becomes by a schema, which borrows no text; or the error is that of the value's first misfit; or there is no
-- memory.
pub record Converts (schema : List plain.Shape) (root : ℕ) (t : Tree) (result : Result Data Error) : Type 0 where
  pub value : Becomes data_view (into schema root t) (misfit schema root t) result
  pub own : IfOk result IsOwn
