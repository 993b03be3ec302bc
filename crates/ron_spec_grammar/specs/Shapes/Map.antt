-- The shape of maps.
use Rattle.std.specs.Prelude.{ℕ, Bool, false, List, Option, Some}
use Rattle.ron_spec_words.specs.Characters.{Text, left_brace, right_brace, colon}
use Rattle.ron_spec_words.specs.Lang.{Lang, done, Mark, Then, Means, Items, Group, Needs}
use Rattle.ron_spec_words.specs.Reader.{Reader, mark, in_sequence, means, items, group, needs}
use Rattle.ron_spec_grammar.specs.Data.{Data, map_of}
use Rattle.ron_spec_grammar.specs.Equal.{folded}
use Rattle.ron_spec_grammar.specs.Rule.{Langs, Readers, Plain, plain}

-- the pair of a key and this value
abbrev pub pair_with : Data → Data → Option (Data × Data)
pair_with key d = Some (key, d)

-- The map of these pairs, whichever they are. A key that comes again keeps its first place and takes the last value.
abbrev pub map_data : List (Data × Data) → Option Data
map_data ps = Some (map_of (folded ps))

-- ---- the text

-- a key, `:` and its value
abbrev pub PairItem : ℕ → ℕ → Langs → Text → Lang (Data × Data)
PairItem k v L before = Then (L false k before) (λ key _. Then (Mark colon done) (λ _ gap. Means (L false v gap) (pair_with key)))

-- `{`, pairs with a comma between neighbours and perhaps a last comma, and `}`. Entering the map takes one level, and in it each key and each value one: `sub
-- k` may stand k + 1 levels deeper.
abbrev pub MapText : ℕ → ℕ → ℕ → (ℕ → Langs) → Bool → Lang Data
MapText k v room sub bare = Plain bare (Group left_brace right_brace (λ gap. Needs 1 room (Means (Items (λ seen. PairItem k v (sub 1)) gap) map_data)))

-- ---- its reader function

-- a pair
abbrev pub pair_item : ℕ → ℕ → Readers → Text → Reader (Data × Data)
pair_item k v r before = in_sequence (r false k before) (λ key _. in_sequence (mark colon done) (λ _ gap. means (r false v gap) (pair_with key)))

-- the map
abbrev pub read_map : ℕ → ℕ → ℕ → (ℕ → Readers) → Bool → Reader Data
read_map k v room sub bare =
    plain bare (group left_brace right_brace (λ gap. needs 1 room (means (items (λ seen. pair_item k v (sub 1)) right_brace gap) map_data)))
