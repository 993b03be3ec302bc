-- Worked texts of values without a schema, each answered by computing the reader function.
use Rattle.std.proofs.Common.{◌≡◌, ℕ, zero, suc, pos, Bool, true, false, List, [], ◌∷◌, ◌++◌, codes, refl}
use Rattle.ron_spec_words.specs.Characters.{Text}
use Rattle.ron_spec_words.specs.Reader.{deep, bad, Got, got, failed}
use Rattle.ron_value.specs.Tree.{Tree, items_from, pairs_from}
use Rattle.ron_value.specs.Tree as tree
use Rattle.ron_value_number.specs.declared.width.Width.TheVariants.{I8, U8, U16, U128}
use Rattle.ron_spec_grammar.specs.Values.Grammar.{read_any}
use Rattle.ron_spec_grammar.proofs.Computing.{reading}

-- what is read of a text, with bare content of a Some where it is unwrapped
record Reads (unwrap : Bool) (room : ℕ) (s : Text) (o : Got Tree) : Type 0 where
  is : read_any unwrap room false [] s ≡ o

-- a number of eight bits
abbrev small : ℕ → Tree
small n = tree.number U8 (pos n)

abbrev list : List Tree → Tree
list ts = tree.sequence (items_from ts)

-- what `a:42` is in brackets
abbrev field_a : Tree
field_a = tree.mapping (pairs_from ((tree.text (97 ∷ []), small 42) ∷ []))

-- ---- the unit, which holds no gap

unit : Reads false 9 (codes "()") (got tree.unit [])
unfolding reading
unit = record { is = refl }

brackets_with_gap : Reads false 9 (codes "( )") (got (list []) [])
unfolding reading
brackets_with_gap = record { is = refl }

-- ---- literals, words and lists

a_character : Reads false 0 (codes "'a'") (got (tree.character 97) [])
unfolding reading
a_character = record { is = refl }

a_text : Reads false 0 (codes "\"a\"") (got (tree.text (97 ∷ [])) [])
unfolding reading
a_text = record { is = refl }

some_bytes : Reads false 0 (codes "b\"a\"") (got (tree.bytes (97 ∷ [])) [])
unfolding reading
some_bytes = record { is = refl }

a_boolean : Reads false 0 (codes "true") (got (tree.boolean true) [])
unfolding reading
a_boolean = record { is = refl }

last_comma : Reads false 2 (codes "[1,]") (got (list (small 1 ∷ [])) [])
unfolding reading
last_comma = record { is = refl }

two_commas : Reads false 2 (codes "[1,,2]") (failed bad)
unfolding reading
two_commas = record { is = refl }

-- ---- numbers

minus_zero : Reads false 9 (codes "-0") (got (tree.number I8 (pos 0)) [])
unfolding reading
minus_zero = record { is = refl }

width_by_value : Reads false 9 (codes "256") (got (tree.number U16 (pos 256)) [])
unfolding reading
width_by_value = record { is = refl }

with_suffix : Reads false 9 (codes "5i8") (got (tree.number I8 (pos 5)) [])
unfolding reading
with_suffix = record { is = refl }

outside_of_suffix : Reads false 9 (codes "256u8") (failed bad)
unfolding reading
outside_of_suffix = record { is = refl }

greatest : Reads false 9 (codes "340282366920938463463374607431768211455") (got (tree.number U128 (pos 340282366920938463463374607431768211455)) [])
unfolding reading
greatest = record { is = refl }

one_past_greatest : Reads false 9 (codes "340282366920938463463374607431768211456") (failed bad)
unfolding reading
one_past_greatest = record { is = refl }

exponent : Reads false 9 (codes "1e5") (failed bad)
unfolding reading
exponent = record { is = refl }

fraction : Reads false 9 (codes "1.5") (failed bad)
unfolding reading
fraction = record { is = refl }

infinity : Reads false 9 (codes "inf") (failed bad)
unfolding reading
infinity = record { is = refl }

infinity_as_name : Reads false 9 (codes "inf(1)") (failed bad)
unfolding reading
infinity_as_name = record { is = refl }

no_number : Reads false 9 (codes "NaNf64") (failed bad)
unfolding reading
no_number = record { is = refl }

-- ---- groups

comma_alone : Reads false 9 (codes "(,)") (failed bad)
unfolding reading
comma_alone = record { is = refl }

one_item : Reads false 9 (codes "(1)") (got (list (small 1 ∷ [])) [])
unfolding reading
one_item = record { is = refl }

level_missing : Reads false 1 (codes "(1)") (failed deep)
unfolding reading
level_missing = record { is = refl }

two_levels : Reads false 2 (codes "(1)") (got (list (small 1 ∷ [])) [])
unfolding reading
two_levels = record { is = refl }

commas_as_bytes : Reads false 9 (codes "(b',',b',')") (got (list (small 44 ∷ small 44 ∷ [])) [])
unfolding reading
commas_as_bytes = record { is = refl }

-- ---- maps

no_pairs : Reads false 1 (codes "{}") (got (tree.mapping (pairs_from [])) [])
unfolding reading
no_pairs = record { is = refl }

no_pairs_in_room_0 : Reads false 0 (codes "{}") (failed deep)
unfolding reading
no_pairs_in_room_0 = record { is = refl }

equal_keys : Reads false 9 (codes "{1:2,1:3}") (got (tree.mapping (pairs_from ((small 1, small 3) ∷ []))) [])
unfolding reading
equal_keys = record { is = refl }

-- ---- names

name_alone : Reads false 9 (codes "r") (got tree.unit [])
unfolding reading
name_alone = record { is = refl }

name_and_brackets : Reads false 9 (codes "r()") (got (list []) [])
unfolding reading
name_and_brackets = record { is = refl }

name_and_item : Reads false 9 (codes "r(42)") (got (list (small 42 ∷ [])) [])
unfolding reading
name_and_item = record { is = refl }

name_and_field : Reads false 9 (codes "r(a:42)") (got field_a [])
unfolding reading
name_and_field = record { is = refl }

raw_field : Reads false 9 (codes "(r#a:42)") (got field_a [])
unfolding reading
raw_field = record { is = refl }

equal_fields : Reads false 9 (codes "(a:1,a:42)") (got field_a [])
unfolding reading
equal_fields = record { is = refl }

word_as_field : Reads false 9 (codes "(true:1)") (got (tree.mapping (pairs_from ((tree.text (codes "true"), small 1) ∷ []))) [])
unfolding reading
word_as_field = record { is = refl }

raw_field_without_name : Reads false 9 (codes "(r#:42)") (failed bad)
unfolding reading
raw_field_without_name = record { is = refl }

slash_as_character : Reads false 9 (codes "A('/')") (got (list (tree.character 47 ∷ [])) [])
unfolding reading
slash_as_character = record { is = refl }

name_before_colon : Reads false 9 (codes "Foo:") (got tree.unit (codes ":"))
unfolding reading
name_before_colon = record { is = refl }

word_and_more : Reads false 9 (codes "truest") (got tree.unit [])
unfolding reading
word_and_more = record { is = refl }

raw_word : Reads false 9 (codes "r#true") (got tree.unit [])
unfolding reading
raw_word = record { is = refl }

-- ---- Somes

none : Reads false 9 (codes "None") (got tree.none [])
unfolding reading
none = record { is = refl }

some_without_brackets : Reads false 9 (codes "Some 5") (failed bad)
unfolding reading
some_without_brackets = record { is = refl }

three_somes : Reads false 3 (codes "Some(Some(Some(1)))") (got (tree.some (tree.some (tree.some (small 1)))) [])
unfolding reading
three_somes = record { is = refl }

-- so many Somes around 1, and the text of it
abbrev somes : ℕ → Tree
somes zero = small 1
somes (suc n) = tree.some (somes n)

abbrev in_somes : ℕ → Text
in_somes zero = codes "1"
in_somes (suc n) = codes "Some(" ++ (in_somes n ++ codes ")")

as_many_as_the_limit : Reads false 128 (in_somes 128) (got (somes 128) [])
unfolding reading
as_many_as_the_limit = record { is = refl }

one_more_than_the_limit : Reads false 128 (in_somes 129) (failed deep)
unfolding reading
one_more_than_the_limit = record { is = refl }

three_somes_in_room_2 : Reads false 2 (codes "Some(Some(Some(1)))") (failed deep)
unfolding reading
three_somes_in_room_2 = record { is = refl }

some_of_comma : Reads false 9 (codes "Some(,)") (failed bad)
unfolding reading
some_of_comma = record { is = refl }

bare_comma : Reads true 9 (codes "Some(,)") (failed bad)
unfolding reading
bare_comma = record { is = refl }

some_of_nothing : Reads false 9 (codes "Some()") (failed bad)
unfolding reading
some_of_nothing = record { is = refl }

bare_unit : Reads true 9 (codes "Some()") (got (tree.some tree.unit) [])
unfolding reading
bare_unit = record { is = refl }

bare_item : Reads true 9 (codes "Some(1,)") (got (tree.some (small 1)) [])
unfolding reading
bare_item = record { is = refl }

several : Reads false 9 (codes "Some(1,2)") (failed bad)
unfolding reading
several = record { is = refl }

bare_items : Reads true 9 (codes "Some(1,2)") (got (tree.some (list (small 1 ∷ small 2 ∷ []))) [])
unfolding reading
bare_items = record { is = refl }

bare_field : Reads true 9 (codes "Some(a:42)") (got (tree.some field_a) [])
unfolding reading
bare_field = record { is = refl }
