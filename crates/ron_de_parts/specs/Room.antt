-- The room that a limit leaves.
use Rattle.std.specs.Prelude.{ℕ, ◌+◌, ◌*◌, List, length}
use Rattle.ron_spec_grammar.specs.Schema.{Shape}
use Rattle.ron_spec_grammar.specs.Room.{step}
pub use Rattle.ron_de_steps.specs.Room.{IsRoom}

-- levels that are enough for items, whatever their shapes, on a text of so many characters
unfoldable pub enough_for_items : List Shape → ℕ → ℕ
enough_for_items schema characters = characters * step schema + length schema + 3

-- levels that are enough for what stands in brackets, the bracket's own level among them, on a text of so many characters
unfoldable pub enough_for_group : List Shape → ℕ → ℕ
enough_for_group schema characters = characters * step schema + 1
