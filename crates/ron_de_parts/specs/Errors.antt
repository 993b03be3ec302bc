-- The errors of reading a value.
--
-- An integer takes memory only to be refused. The error of another width's suffix holds two texts, so its making may
-- want memory. `read_value` therefore says that an integer's refusal, whichever it is, stands only where the reader
-- function reads none. So a refusal of `read` and of `from_str_seed` says that the text spells no data where the
-- schema's root is an integer, also where it is `OutOfMemory`.
use Rattle.std.specs.Prelude.{◌≡◌, ◌⊎◌, ℕ, List, Some, slice_get}
use Rattle.ron_value_number.specs.declared.width.Width.{Width}
use Rattle.ron_spec_grammar.specs.Schema.{Shape, bool, int, char, unit}
pub use Rattle.ron_de_steps.specs.Errors.{IsOfReading, IsOfText, IsMemoryOrClass, IsMemoryOr, IsMemoryOrText}

-- The shape at an index is a boolean, an integer of some width, a character or the unit. Reading it takes no level, and memory only to tell of an integer that
-- is refused.
abbrev pub HasLeafShape : List Shape → ℕ → Type 0
HasLeafShape schema i = (slice_get schema i ≡ Some bool)
    ⊎ (((w : Width) × (slice_get schema i ≡ Some (int w))) ⊎ ((slice_get schema i ≡ Some char) ⊎ (slice_get schema i ≡ Some unit)))
