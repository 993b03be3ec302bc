-- The reader function of the grammar.
use Rattle.std.specs.Prelude.{ℕ, Bool, false, List, Option, Some, None, slice_get}
use Rattle.ron_spec_words.specs.Characters.{Text}
use Rattle.ron_spec_words.specs.Reader.{Reader, fail, deep, bad}
use Rattle.ron_spec_grammar.specs.Data.{Data}
use Rattle.ron_spec_grammar.specs.Schema.{Shape, bool, int, char, str, bytes, unit, optional, unit_struct, seq, tuple, tuple_struct, map, newtype, struct, enum}
use Rattle.ron_spec_grammar.specs.Schema.{any_value, any_raw}
use Rattle.ron_spec_grammar.specs.Rule.{Extensions, Readers, inside, below}
use Rattle.ron_spec_grammar.specs.Shapes.Bool.{read_bool}
use Rattle.ron_spec_grammar.specs.Shapes.Int.{read_int}
use Rattle.ron_spec_grammar.specs.Shapes.Char.{read_char}
use Rattle.ron_spec_grammar.specs.Shapes.Str.{read_str}
use Rattle.ron_spec_grammar.specs.Shapes.Bytes.{read_bytes}
use Rattle.ron_spec_grammar.specs.Shapes.Unit.{read_unit}
use Rattle.ron_spec_grammar.specs.Shapes.UnitStruct.{read_unit_struct}
use Rattle.ron_spec_grammar.specs.Shapes.Seq.{read_seq}
use Rattle.ron_spec_grammar.specs.Shapes.Tuple.{read_tuple, read_tuple_struct}
use Rattle.ron_spec_grammar.specs.Shapes.Map.{read_map}
use Rattle.ron_spec_grammar.specs.Shapes.Option.{read_option}
use Rattle.ron_spec_grammar.specs.Shapes.Newtype.{read_newtype}
use Rattle.ron_spec_grammar.specs.Shapes.Enum.{read_enum}
use Rattle.ron_spec_grammar.specs.Shapes.Struct.{read_struct}
use Rattle.ron_spec_grammar.specs.Shapes.Value.{read_any_value}
use Rattle.ron_spec_grammar.specs.Shapes.Raw.{read_raw}

-- the reader function of a shape
abbrev pub read_shape : Extensions → List Shape → ℕ → (ℕ → Bool → Readers) → Bool → Bool → Text → Option Shape → Reader Data
read_shape x schema room sub at_start bare before None = fail bad
read_shape x schema room sub at_start bare before (Some bool) = read_bool bare
read_shape x schema room sub at_start bare before (Some (int w)) = read_int w bare
read_shape x schema room sub at_start bare before (Some char) = read_char bare
read_shape x schema room sub at_start bare before (Some str) = read_str bare
read_shape x schema room sub at_start bare before (Some bytes) = read_bytes room bare
read_shape x schema room sub at_start bare before (Some unit) = read_unit bare
read_shape x schema room sub at_start bare before (Some (optional j)) = read_option x j (inside sub) (sub 0 at_start) bare before
read_shape x schema room sub at_start bare before (Some (unit_struct name)) = read_unit_struct x.explicit_struct_names name bare
read_shape x schema room sub at_start bare before (Some (seq j)) = read_seq j room (inside sub) bare
read_shape x schema room sub at_start bare before (Some (tuple js)) = read_tuple js room (inside sub) bare before
read_shape x schema room sub at_start bare before (Some (tuple_struct name js)) =
    read_tuple_struct x.explicit_struct_names name js room (inside sub) bare before
read_shape x schema room sub at_start bare before (Some (map k v)) = read_map k v room (inside sub) bare
read_shape x schema room sub at_start bare before (Some (newtype name j)) =
    read_newtype x.explicit_struct_names x.unwrap_newtypes name j (inside sub) (sub 0 at_start) bare before
read_shape x schema room sub at_start bare before (Some (struct name list)) = read_struct x schema name list room (inside sub) bare before
read_shape x schema room sub at_start bare before (Some (enum name variants)) = read_enum x name variants room (inside sub) bare
read_shape x schema room sub at_start bare before (Some any_value) = read_any_value x room bare before
read_shape x schema room sub at_start bare before (Some any_raw) = read_raw x room at_start bare before

-- the same for the shape at an index
abbrev pub rule : Extensions → List Shape → ℕ → (ℕ → Bool → Readers) → Bool → Readers
rule x schema room sub at_start bare i before = read_shape x schema room sub at_start bare before (slice_get schema i)

-- what is answered where no level is left
abbrev pub too_deep : Bool → Readers
too_deep at_start bare i before = fail deep

-- reads with so much room
unfoldable pub read_at : Bool → Extensions → List Shape → ℕ → Readers
read_at at_start x schema room = rule x schema room (below (rule x schema) too_deep room) at_start

-- where more than a gap stands before it
abbrev pub read : Extensions → List Shape → ℕ → Readers
read = read_at false
