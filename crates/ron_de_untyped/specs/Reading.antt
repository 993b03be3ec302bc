-- The reader function of values, part by part, for code that reads so.
use Rattle.std.specs.Prelude.{ℕ, Bool, true, false, List, Some, encode_utf8_all}
use Rattle.ron_spec_words.specs.Characters.{Text, left_parenthesis, right_parenthesis, right_brace, right_bracket}
use Rattle.ron_spec_words.specs.Lookahead.{opens_field}
use Rattle.ron_spec_words.specs.Name.{name}
use Rattle.ron_spec_words.specs.Reader.{Reader, means, items, group, needs, pick}
use Rattle.std.specs.Prelude.{Option}
use Rattle.ron_value.specs.Tree.{Tree}
use Rattle.ron_value.specs.Tree as tree
use Rattle.ron_spec_grammar.specs.Rule.{below}
use Rattle.ron_spec_grammar.specs.Values.Trees.{Entry}
use Rattle.ron_spec_grammar.specs.Values.Grammar.{ValueReaders, value_rule, value_too_deep, field_entry, pair_entry, list_value, several_value, map_value}
use Rattle.ron_spec_grammar.specs.Values.Grammar.{some_value, some_content, items_inside, fields_inside, word_value, read_any, entry_with}
use Rattle.ron_de_untyped.specs.declared.entries.Keys.{Keys}
use Rattle.ron_de_untyped.specs.declared.entries.Keys.TheVariants.{Names, Values}
use Rattle.ron_de_untyped.specs.declared.groups.Brackets as brackets
use Rattle.ron_de_untyped.specs.declared.groups.Brackets.TheVariants as brackets_
use Rattle.ron_de_untyped.specs.Group.{open_mark, close_mark}
use Rattle.ron_de_untyped.specs.Keys.{close_of}

-- what reads values below so many levels
abbrev pub below_levels : Bool → ℕ → ℕ → ValueReaders
below_levels unwraps room = below (value_rule unwraps) value_too_deep room

-- a value one level deeper
unfoldable pub read_below : Bool → ℕ → Text → Reader Tree
read_below unwraps room before s = below_levels unwraps room 0 false before s

-- items of a list for whose items so many levels are left
unfoldable pub read_items : Bool → ℕ → ℕ → Text → Reader (List Tree)
read_items unwraps room close before s = items (λ _ gap. read_below unwraps room gap) close before s

-- what items make: a list, of two at least where several are wanted
abbrev pub items_value : Bool → List Tree → Option Tree
items_value true = several_value
items_value false = list_value

-- items as a list, with the level that it takes
unfoldable pub read_sequence : Bool → Bool → ℕ → ℕ → Text → Reader Tree
read_sequence several unwraps room close before s = needs 1 room (items_inside (items_value several) close (below_levels unwraps room 1) before) s

-- a field's name, as a text
abbrev pub name_key : Reader Tree
name_key = means name (λ n. Some (tree.text (encode_utf8_all n)))

-- a key
abbrev pub read_key : Keys → Bool → ℕ → Text → Reader Tree
read_key Names unwraps room before = name_key
read_key Values unwraps room before = read_below unwraps room before

-- a key and its value
abbrev pub key_and_value : Keys → ValueReaders → Text → Reader Entry
key_and_value Names r before = field_entry r
key_and_value Values r before = pair_entry r before

unfoldable pub read_entry : Keys → Bool → ℕ → Text → Reader Entry
read_entry keys unwraps room before s = key_and_value keys (below_levels unwraps room 0) before s

-- behind a key: the colon and the key's value
abbrev pub value_of : Bool → ℕ → Tree → Text → Reader Entry
value_of unwraps room key gap = means (read_below unwraps room gap) (entry_with key)

unfoldable pub read_entries : Keys → Bool → ℕ → Text → Reader (List Entry)
read_entries keys unwraps room before s = items (λ _ gap. read_entry keys unwraps room gap) (close_of keys) before s

-- keys and values as a map, with the level that it takes
abbrev pub mapping_inside : Keys → ValueReaders → Text → Reader Tree
mapping_inside Names r before = fields_inside r before
mapping_inside Values r before = means (items (λ _. pair_entry r) right_brace before) map_value

unfoldable pub read_mapping : Keys → Bool → ℕ → Text → Reader Tree
read_mapping keys unwraps room before s = needs 1 room (mapping_inside keys (below_levels unwraps room 1) before) s

-- what stands in brackets
abbrev pub inside : brackets.Brackets → Bool → ℕ → Text → Reader Tree
inside brackets_.List unwraps room gap = needs 1 room (items_inside list_value right_bracket (below_levels unwraps room 1) gap)
inside brackets_.Map unwraps room gap = needs 1 room (means (items (λ _. pair_entry (below_levels unwraps room 1)) right_brace gap) map_value)
inside brackets_.Group unwraps room gap = needs 1 room
    (pick opens_field (fields_inside (below_levels unwraps room 1) gap) (items_inside list_value right_parenthesis (below_levels unwraps room 1) gap))

unfoldable pub read_inside : brackets.Brackets → Bool → ℕ → Text → Reader Tree
read_inside b unwraps room before s = inside b unwraps room before s

unfoldable pub read_group : brackets.Brackets → Bool → ℕ → Reader Tree
read_group b unwraps room s = group (open_mark b) (close_mark b) (λ gap. read_inside b unwraps room gap) s

-- what a Some holds, where so many levels are left for it
unfoldable pub read_held : Bool → ℕ → Text → Reader Tree
read_held unwraps room before s = some_content unwraps (read_any unwraps room) before s

-- a Some from behind its word on: what it holds, a level deeper, in parentheses
unfoldable pub read_some : Bool → ℕ → Reader Tree
read_some unwraps room s = means (group left_parenthesis right_parenthesis (some_content unwraps (below_levels unwraps room 0))) some_value s

-- a value that begins with a word
unfoldable pub read_word : Bool → ℕ → Reader Tree
read_word unwraps room s = word_value unwraps room (below_levels unwraps room) s
