-- Levels that are enough for a text.
use Rattle.std.specs.Prelude.{ℕ, zero, suc, ◌+◌, ◌*◌, Bool, if◌then◌else◌, List, length, Option, Some, None, max}
use Rattle.ron_spec_grammar.specs.Schema.{Shape, content_at}

-- the levels that a character may take: those of a bracket, and of the options and newtypes around what stands in it
unfoldable pub step : List Shape → ℕ
step schema = 2 * length schema + 8

-- the length of the chain of options and newtypes that goes on at an index, followed for so many members
abbrev pub chain_from : List Shape → ℕ → Option ℕ → ℕ
chain_from schema n None = 0
chain_from schema zero (Some j) = 0
chain_from schema (suc n) (Some j) = suc (chain_from schema n (content_at schema j))

-- the length of the chain of options and newtypes at a shape, each of which may take a level and no text
unfoldable pub rank : List Shape → ℕ → ℕ
rank schema i = chain_from schema (length schema) (content_at schema i)

-- the longest of the chains at the first n indices
abbrev pub longest_of : List Shape → ℕ → ℕ
longest_of schema zero = 0
longest_of schema (suc n) = max (rank schema n) (longest_of schema n)

-- the length of the longest chain of options and newtypes
abbrev pub chain : List Shape → ℕ
chain schema = longest_of schema (length schema)

-- Enough room by a well-formed schema alone. An option or a newtype takes a level and, unwrapped, no character. So
-- the room that a text's length gives suffices only where no chain of them comes back to itself, and the laws that
-- speak of `enough` ask for a well-formed schema. The others hold of every table. The levels that are enough depend
-- on the text's length, on the number of shapes, and on the chain at the index (`rank`). `Schema::new` refuses a
-- cycle, and finds the longest chain on the way (`Schema::chain`). The code's recursion is measured by four times
-- that number.
--
-- levels that are enough for the shape at an index, bare or not, on a text of so many characters
unfoldable pub enough : List Shape → Bool → ℕ → ℕ → ℕ
enough schema bare i characters = 2 + (characters * step schema + rank schema i + (if bare then length schema + 2 else 0))
