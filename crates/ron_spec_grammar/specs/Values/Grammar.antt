-- Values without a schema: what a value begins with, the grammar, and its reader function.
use Rattle.std.specs.Prelude.{ℕ, Bool, true, false, not, ◌==◌, if◌then◌else◌, List, [], ◌∷◌, codes, Option, Some, None, option_map, encode_utf8_all}
use Rattle.ron_spec_words.specs.Characters.{Text, single_quote, left_parenthesis, right_parenthesis, left_bracket, right_bracket, left_brace, right_brace}
use Rattle.ron_spec_words.specs.Characters.{colon}
use Rattle.ron_spec_words.specs.Runs.{is_at, begins_with}
use Rattle.ron_spec_words.specs.Lang.{Lang, done, Nothing, Empty, Mark, Then, Means, Or, When, Items, Group, WithComma, Needs}
use Rattle.ron_spec_words.specs.Reader.{deep, Reader, fail, give, mark, in_sequence, means, pick, items, group, with_comma, needs}
use Rattle.ron_spec_words.specs.Directly.{FixedWord, stands, fixed_word}
use Rattle.ron_spec_words.specs.Name.{Name, name, UntypedName, untyped_name}
use Rattle.ron_spec_words.specs.Number.{Numeral, numeral_value}
use Rattle.ron_spec_words.specs.Range.{Interval, one, range, opens_interval, NumberOrRange, number_or_range}
use Rattle.ron_spec_words.specs.Quoted.{Char, char, String, string, ByteString, byte_string}
use Rattle.ron_spec_words.specs.Scan.{opens_string, opens_byte_string}
use Rattle.ron_spec_words.specs.Lookahead.{opens_field, opens_named_group, holds_several}
use Rattle.std.specs.Option.{option_and_then}
use Rattle.ron_value_number.specs.Smallest.{written_width}
use Rattle.ron_value.specs.Tree.{Tree, items_from}
use Rattle.ron_value.specs.Tree as tree
use Rattle.ron_spec_grammar.specs.Rule.{below}
use Rattle.ron_spec_grammar.specs.Shapes.Int.{suffix_width}
use Rattle.ron_spec_grammar.specs.Shapes.Unit.{EmptyBrackets, empty_brackets}
use Rattle.ron_spec_grammar.specs.Values.Trees.{Entry, mapped}

-- ---- what a value begins with

-- the kinds of what may stand first
pub data Form : Type 0 where
  a_character : Form
  a_string : Form
  a_byte_string : Form
  a_list : Form
  a_map : Form
  a_group : Form
  a_number : Form
  a_word : Form

-- Forms in an order. The grammar of values lists its forms beside one another, with the one test that `()` is the
-- unit and no group; the reader function asks what stands first (`form`). A list beside a single value in bare
-- content has to have two items or more (`several_value`), else both would spell `1`.
--
-- what the text begins with; what is nothing else may be a word
unfoldable pub form : Text → Form
form s =
    if is_at single_quote s then a_character else
    if opens_string s then a_string else
    if opens_byte_string s then a_byte_string else
    if is_at left_bracket s then a_list else
    if is_at left_brace s then a_map else
    if is_at left_parenthesis s then a_group else
    if opens_interval s then a_number else a_word

-- a form's place among the eight
abbrev pub form_place : Form → ℕ
form_place a_character = 0
form_place a_string = 1
form_place a_byte_string = 2
form_place a_list = 3
form_place a_map = 4
form_place a_group = 5
form_place a_number = 6
form_place a_word = 7

-- the text begins with this form
abbrev pub begins_as : Form → Text → Bool
begins_as f s = form_place (form s) == form_place f

-- ---- meanings

-- a character, a text, bytes, and a Some around a value
abbrev pub character_value : ℕ → Option Tree
character_value c = Some (tree.character c)

abbrev pub text_value : Text → Option Tree
text_value t = Some (tree.text (encode_utf8_all t))

abbrev pub bytes_value : List ℕ → Option Tree
bytes_value bs = Some (tree.bytes bs)

abbrev pub some_value : Tree → Option Tree
some_value t = Some (tree.some t)

-- the unit, whatever stood for it
abbrev pub unit_value : {A : Type 0} → A → Option Tree
unit_value a = Some tree.unit

-- The number has its suffix's width, or else the smallest width that holds it: with a sign behind a minus, and without one else.
abbrev pub number_tree : Numeral → Option Tree
number_tree n = option_map (λ w. tree.number w (numeral_value n)) (written_width (option_map suffix_width n.suffix) n.minus (numeral_value n))

-- a range as a map: the keys of its start and its end
abbrev pub start_key : Tree
start_key = tree.text (encode_utf8_all (codes "start"))

abbrev pub end_key : Tree
end_key = tree.text (encode_utf8_all (codes "end"))

-- the map of these, where each is a number
abbrev pub from_start : Option Tree → Option Tree
from_start a = option_map (λ u. mapped ((start_key, u) ∷ [])) a

abbrev pub to_end : Option Tree → Option Tree
to_end b = option_map (λ v. mapped ((end_key, v) ∷ [])) b

abbrev pub from_to : Option Tree → Option Tree → Option Tree
from_to a b = option_and_then (λ u. option_map (λ v. mapped ((start_key, u) ∷ (end_key, v) ∷ [])) b) a

-- a number, a map of what stands before and behind the range, and the unit where nothing does
abbrev pub interval_value : Interval → Option Tree
interval_value (one n) = number_tree n
interval_value (range None closed None) = Some tree.unit
interval_value (range (Some a) closed None) = from_start (number_tree a)
interval_value (range None closed (Some b)) = to_end (number_tree b)
interval_value (range (Some a) closed (Some b)) = from_to (number_tree a) (number_tree b)

-- a list of these items, and one where they are two or more
abbrev pub list_value : List Tree → Option Tree
list_value ts = Some (tree.sequence (items_from ts))

abbrev pub several_value : List Tree → Option Tree
several_value [] = None
several_value (t ∷ []) = None
several_value (t ∷ u ∷ ts) = list_value (t ∷ u ∷ ts)

-- a map of these pairs, and one of fields where there is a field
abbrev pub map_value : List Entry → Option Tree
map_value ps = Some (mapped ps)

abbrev pub fields_value : List Entry → Option Tree
fields_value [] = None
fields_value (p ∷ ps) = map_value (p ∷ ps)

-- a key and this value
abbrev pub entry_with : Tree → Tree → Option Entry
entry_with key t = Some (key, t)

-- ---- the grammar

-- what values are spelled behind a gap; with `true` bare, as for shapes
abbrev pub Values : Type 1
Values = Bool → Text → Lang Tree

-- a field: a name, `:` and a value, whose key is the name as a text
abbrev pub FieldEntry : Values → Lang Entry
FieldEntry V = Then Name (λ n _. Then (Mark colon done) (λ _ gap. Means (V false gap) (entry_with (tree.text (encode_utf8_all n)))))

-- a pair: a key, `:` and its value
abbrev pub PairEntry : Values → Text → Lang Entry
PairEntry V before = Then (V false before) (λ key _. Then (Mark colon done) (λ _ gap. Means (V false gap) (entry_with key)))

-- fields, of which there is one at least, as a map
abbrev pub FieldsInside : Values → Text → Lang Tree
FieldsInside V before = Means (Items (λ _ _. FieldEntry V) before) fields_value

-- items with this meaning
abbrev pub ItemsInside : (List Tree → Option Tree) → Values → Text → Lang Tree
ItemsInside f V before = Means (Items (λ _ gap. V false gap) before) f

-- `(`, fields or items, and `)`
abbrev pub RoundGroup : ℕ → Values → Lang Tree
RoundGroup room V = Group left_parenthesis right_parenthesis (λ gap. Needs 1 room (Or (FieldsInside V gap) (ItemsInside list_value V gap)))

-- what stands in the parentheses of a Some: bare under unwrap_variant_newtypes, and else a value and perhaps one comma
abbrev pub SomeContent : Bool → Values → Text → Lang Tree
SomeContent false V gap = WithComma (V false gap)
SomeContent true V gap = V true gap

-- the word of a boolean, `None`, `Some` and its content, a name before a group, or a name alone
abbrev pub WordValue : Bool → ℕ → (ℕ → Values) → Lang Tree
WordValue unwrap room sub =
    Or (FixedWord (codes "true") (tree.boolean true))
    (Or (FixedWord (codes "false") (tree.boolean false))
    (Or (FixedWord (codes "None") tree.none)
    (Or (Then (FixedWord (codes "Some") done) (λ _ _. Means (Group left_parenthesis right_parenthesis (SomeContent unwrap (sub 0))) some_value))
    (Or (Then UntypedName (λ _ _. RoundGroup room (sub 1)))
    (Means UntypedName unit_value)))))

-- A value. A Some takes one level; so does entering a list, a map or a group, and in it each item, key and value: `sub k` may stand k + 1 levels deeper. `()`
-- with no gap within is the unit.
abbrev pub OneValue : Bool → ℕ → (ℕ → Values) → Lang Tree
OneValue unwrap room sub =
    Or (Means Char character_value)
    (Or (Means String text_value)
    (Or (Means ByteString bytes_value)
    (Or (Group left_bracket right_bracket (λ gap. Needs 1 room (ItemsInside list_value (sub 1) gap)))
    (Or (Group left_brace right_brace (λ gap. Needs 1 room (Means (Items (λ _. PairEntry (sub 1)) gap) map_value)))
    (Or (Or (Means EmptyBrackets unit_value) (When (λ s. not (begins_with (codes "()") s)) (RoundGroup room (sub 1))))
    (Or (Means NumberOrRange interval_value)
    (WordValue unwrap room sub)))))))

-- Bare: nothing is the unit, fields are a map, two or more items are a list, and one item is that value with perhaps a comma behind it.
abbrev pub BareValue : Bool → ℕ → (ℕ → Values) → Text → Lang Tree
BareValue unwrap room sub before =
    Or (Empty tree.unit)
    (Or (Needs 1 room (FieldsInside (sub 1) before))
    (Or (Needs 1 room (ItemsInside several_value (sub 1) before))
    (WithComma (OneValue unwrap room sub))))

-- the rule of values
abbrev pub ValueRule : Bool → ℕ → (ℕ → Values) → Values
ValueRule unwrap room sub false before = OneValue unwrap room sub
ValueRule unwrap room sub true before = BareValue unwrap room sub before

-- what is spelled where no level is left
abbrev pub no_value : Values
no_value bare before = Nothing

-- With so much room, and bare content of a Some where it is unwrapped, the stretch spells the value.
unfoldable pub AnySpells : Bool → ℕ → Values
AnySpells unwrap room = ValueRule unwrap room (below (ValueRule unwrap) no_value room)

-- the same k + 1 levels deeper than where so much room is
unfoldable pub AnyBelow : Bool → ℕ → ℕ → Text → Lang Tree
AnyBelow unwrap room k = below (ValueRule unwrap) no_value room k false

-- ---- its reader function

abbrev pub ValueReaders : Type 0
ValueReaders = Bool → Text → Reader Tree

-- a field
abbrev pub field_entry : ValueReaders → Reader Entry
field_entry r = in_sequence name (λ n _. in_sequence (mark colon done) (λ _ gap. means (r false gap) (entry_with (tree.text (encode_utf8_all n)))))

-- a pair
abbrev pub pair_entry : ValueReaders → Text → Reader Entry
pair_entry r before = in_sequence (r false before) (λ key _. in_sequence (mark colon done) (λ _ gap. means (r false gap) (entry_with key)))

-- fields, and items with a meaning, up to `)`
abbrev pub fields_inside : ValueReaders → Text → Reader Tree
fields_inside r before = means (items (λ _ _. field_entry r) right_parenthesis before) fields_value

abbrev pub items_inside : (List Tree → Option Tree) → ℕ → ValueReaders → Text → Reader Tree
items_inside f close r before = means (items (λ _ gap. r false gap) close before) f

-- fields or items in parentheses
abbrev pub round_group : ℕ → ValueReaders → Reader Tree
round_group room r =
    group left_parenthesis right_parenthesis (λ gap. needs 1 room (pick opens_field (fields_inside r gap) (items_inside list_value right_parenthesis r gap)))

-- what stands in the parentheses of a Some
abbrev pub some_content : Bool → ValueReaders → Text → Reader Tree
some_content false r gap = with_comma (r false gap)
some_content true r gap = r true gap

-- a value that begins with a word
abbrev pub word_value : Bool → ℕ → (ℕ → ValueReaders) → Reader Tree
word_value unwrap room sub =
    pick (stands (codes "true")) (fixed_word (codes "true") (tree.boolean true))
    (pick (stands (codes "false")) (fixed_word (codes "false") (tree.boolean false))
    (pick (stands (codes "None")) (fixed_word (codes "None") tree.none)
    (pick (stands (codes "Some"))
    (in_sequence (fixed_word (codes "Some") done) (λ _ _. means (group left_parenthesis right_parenthesis (some_content unwrap (sub 0))) some_value))
    (pick opens_named_group (in_sequence untyped_name (λ _ _. round_group room (sub 1)))
    (means untyped_name unit_value)))))

-- a value
abbrev pub one_value : Bool → ℕ → (ℕ → ValueReaders) → Reader Tree
one_value unwrap room sub =
    pick (begins_as a_character) (means char character_value)
    (pick (begins_as a_string) (means string text_value)
    (pick (begins_as a_byte_string) (means byte_string bytes_value)
    (pick (begins_as a_list) (group left_bracket right_bracket (λ gap. needs 1 room (items_inside list_value right_bracket (sub 1) gap)))
    (pick (begins_as a_map) (group left_brace right_brace (λ gap. needs 1 room (means (items (λ _. pair_entry (sub 1)) right_brace gap) map_value)))
    (pick (begins_as a_group) (pick (begins_with (codes "()")) (means empty_brackets unit_value) (round_group room (sub 1)))
    (pick (begins_as a_number) (means number_or_range interval_value)
    (word_value unwrap room sub)))))))

-- a bare one: told by what stands there
abbrev pub bare_value : Bool → ℕ → (ℕ → ValueReaders) → Text → Reader Tree
bare_value unwrap room sub before =
    pick (is_at right_parenthesis) (give tree.unit)
    (pick opens_field (needs 1 room (fields_inside (sub 1) before))
    (pick holds_several (needs 1 room (items_inside several_value right_parenthesis (sub 1) before))
    (with_comma (one_value unwrap room sub))))

-- the rule of readers of values
abbrev pub value_rule : Bool → ℕ → (ℕ → ValueReaders) → ValueReaders
value_rule unwrap room sub false before = one_value unwrap room sub
value_rule unwrap room sub true before = bare_value unwrap room sub before

-- what is answered where no level is left
abbrev pub value_too_deep : ValueReaders
value_too_deep bare before = fail deep

-- reads a value with so much room
unfoldable pub read_any : Bool → ℕ → ValueReaders
read_any unwrap room = value_rule unwrap room (below (value_rule unwrap) value_too_deep room)

-- the same k + 1 levels deeper than where so much room is
unfoldable pub read_any_below : Bool → ℕ → ℕ → Text → Reader Tree
read_any_below unwrap room k = below (value_rule unwrap) value_too_deep room k false
