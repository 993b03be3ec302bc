-- Chains of options and newtypes, as they are measured.
use Rattle.std.specs.Prelude.{◌≡◌, ◌<◌, ℕ, zero, suc, Bool, true, false, List, length, Option, Some, None, slice_index}
use Rattle.std.specs.List.{list_all}
use Rattle.ron_spec_grammar.specs.Schema.{Shape, holds_below, content_at}

-- each index that a shape holds lies in the table
abbrev pub HoldsIndices : List Shape → Type 0
HoldsIndices table = list_all (holds_below (length table)) table ≡ true

-- The chain of options and newtypes that goes on at an index has just so many members.
abbrev pub is_of_length : List Shape → ℕ → Option ℕ → Bool
is_of_length table zero None = true
is_of_length table zero (Some j) = false
is_of_length table (suc n) None = false
is_of_length table (suc n) (Some j) = is_of_length table n (content_at table j)

-- each number but 0 is the length of the chain at its index
abbrev pub AreRanks : List Shape → List ℕ → Type 0
AreRanks table ranks = (i : ℕ) → 0 < slice_index ranks i → is_of_length table (slice_index ranks i) (content_at table i) ≡ true
