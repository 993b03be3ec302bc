-- Which data has pending Somes written out around it.
use Rattle.std.specs.Prelude.{◌≡◌, ℕ, Bool, true, false, not, ◌&&◌, ◌||◌}
use Rattle.ron_spec_words.specs.Characters.{Text}
use Rattle.ron_value.specs.Tree.{Tree}
use Rattle.ron_value.specs.Tree as tree
use Rattle.ron_spec_grammar.specs.Data.{Data, the_none, some_of, tuple_of, tuple_struct_of, newtype_of, value_of, raw_of, Datas, Fields}
use Rattle.ron_spec_grammar.specs.Raw.{raw_valid}
use Rattle.ron_spec_grammar.specs.Rule.{Extensions}
use Rattle.ron_spec_layout.specs.Brackets.{opens_as_option}
use Rattle.ron_spec_layout.specs.Config.{Docs, no_docs, Config, no_config, spacing, inner_level, spaced}
use Rattle.ron_spec_layout.specs.Layout.{item_texts, field_texts}

-- the text of a tuple's items
abbrev pub tuple_inside : Config → Extensions → ℕ → Docs → Datas → Text
tuple_inside c x level docs ds =
    spaced (spacing c (not c.separate_tuple_members) level) (item_texts c x (inner_level (not c.separate_tuple_members) level) docs ds)

-- the text of a struct's fields
abbrev pub fields_inside : Config → Extensions → ℕ → Docs → Fields → Text
fields_inside c x level docs ds = spaced (spacing c c.compact_structs level) (field_texts c x (inner_level c.compact_structs level) docs ds)

-- in a value around `None`
abbrev pub value_keeps : Tree → Bool
value_keeps tree.none = true
value_keeps (tree.some t) = value_keeps t
value_keeps _ = false

-- Pending Somes are written out: around `None`, a raw text, and a bare tuple that would be taken for an option; around a Some or a newtype alone as around its
-- content.
abbrev pub keeps : Config → Extensions → ℕ → Docs → Bool → Data → Bool
keeps c x level docs bare the_none = true
keeps c x level docs bare (some_of d) = keeps c x level docs bare d
keeps c x level docs bare (tuple_of ds) = bare && opens_as_option (tuple_inside c x level docs ds)
keeps c x level docs bare (tuple_struct_of name ds) = bare && opens_as_option (tuple_inside c x level docs ds)
keeps c x level docs bare (newtype_of name d) = (bare || x.unwrap_newtypes) && keeps c x level docs false d
keeps c x level docs bare (value_of t) = value_keeps t
keeps c x level docs bare (raw_of t) = true
keeps c x level docs bare _ = false

-- Around data that is not bare, which is the same under every configuration.
abbrev pub is_kept : Extensions → Data → Bool
is_kept x d = keeps no_config x 0 no_docs false d

-- Whether the text of data that is not bare begins as an option. Somes are written out around raw texts, whose own text may begin as it likes.
abbrev pub leads : Extensions → Data → Bool
leads x (raw_of t) = opens_as_option t
leads x (newtype_of name d) = x.unwrap_newtypes && leads x d
leads x d = is_kept x d

-- a raw text that stands first, as the content of newtypes too, is valid
abbrev pub IsValidFirst : Data → Type 0
IsValidFirst (raw_of t) = raw_valid t ≡ true
IsValidFirst (newtype_of name d) = IsValidFirst d
IsValidFirst d = Unit {0}
