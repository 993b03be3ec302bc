-- The orders of a map's keys, by their data.
use Rattle.std.specs.Prelude.{◌≡◌, ℕ, ℤ, pos, Bool, false, List, [], ◌∷◌, Option, Some, None}
use Rattle.std.specs.declared.cmp.Ordering.{Ordering}
use Rattle.std.specs.declared.cmp.Ordering.TheVariants.{Equal}
use Rattle.std.specs.Ordering.{on, nat_cmp, int_cmp, bool_cmp, ordering_then}
use Rattle.std.specs.Option.{option_cmp}
use Rattle.std.specs.Cmp.Lexicographic.{slice_cmp}
use Rattle.ron_value.specs.Tree.{Tree, unit}
use Rattle.ron_value.specs.Order.{tree_cmp}
use Rattle.ron_spec_grammar.specs.Data.{Data, bool_of, int_of, char_of, str_of, some_of, list_of, tuple_of, value_of, Datas, no_datas, data_and}
use Rattle.ron_types.specs.Texts.{bytes_of_text}

-- what a key holds
abbrev pub bool_in : Data → Bool
bool_in (bool_of b) = b
bool_in _ = false

abbrev pub number_in : Data → ℤ
number_in (int_of w n) = n
number_in _ = pos 0

abbrev pub char_in : Data → ℕ
char_in (char_of c) = c
char_in _ = 0

abbrev pub bytes_in : Data → List ℕ
bytes_in (str_of t) = bytes_of_text t
bytes_in _ = []

-- booleans, false first; numbers by value; characters by code; texts by their bytes
abbrev pub bool_key_cmp : Data → Data → Ordering
bool_key_cmp = on bool_in bool_cmp

abbrev pub number_key_cmp : Data → Data → Ordering
number_key_cmp = on number_in int_cmp

abbrev pub char_key_cmp : Data → Data → Ordering
char_key_cmp = on char_in nat_cmp

abbrev pub text_key_cmp : Data → Data → Ordering
text_key_cmp = on bytes_in (slice_cmp nat_cmp)

-- a unit has nothing to compare
abbrev pub unit_key_cmp : Data → Data → Ordering
unit_key_cmp c d = Equal

-- values without a schema, in their own order
abbrev pub tree_in : Data → Tree
tree_in (value_of t) = t
tree_in _ = unit

abbrev pub value_key_cmp : Data → Data → Ordering
value_key_cmp = on tree_in tree_cmp

-- ---- keys that hold keys

-- what an optional value holds
abbrev pub content_in : Data → Option Data
content_in (some_of d) = Some d
content_in _ = None

-- none first, and two by what they hold
abbrev pub option_key_cmp : (Data → Data → Ordering) → Data → Data → Ordering
option_key_cmp R = on content_in (option_cmp R)

-- the items of a list or a tuple
abbrev pub items_of : Datas → List Data
items_of no_datas = []
items_of (data_and d ds) = d ∷ items_of ds

abbrev pub items_in : Data → List Data
items_in (list_of ds) = items_of ds
items_in (tuple_of ds) = items_of ds
items_in _ = []

-- lists by the first items that differ, and else the shorter one first
abbrev pub list_key_cmp : (Data → Data → Ordering) → Data → Data → Ordering
list_key_cmp R = on items_in (slice_cmp R)

-- tuples by the first items that differ, each by the order of its own type; those before them have told o
abbrev pub items_cmp : Ordering → List (Data → Data → Ordering) → List Data → List Data → Ordering
items_cmp o [] cs ds = o
items_cmp o (R ∷ Rs) [] ds = o
items_cmp o (R ∷ Rs) (c ∷ cs) [] = o
items_cmp o (R ∷ Rs) (c ∷ cs) (d ∷ ds) = items_cmp (ordering_then o (R c d)) Rs cs ds

abbrev pub tuple_key_cmp : List (Data → Data → Ordering) → Data → Data → Ordering
tuple_key_cmp Rs = on items_in (items_cmp Equal Rs)
