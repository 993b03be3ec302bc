-- The layout: the text that is written of data under a configuration.
use Rattle.std.specs.Prelude.{ℕ, suc, Bool, false, not, ◌||◌, if◌then◌else◌, List, [], ◌∷◌, ◌++◌, codes, chars}
use Rattle.std.specs.List.{flat_map}
use Rattle.std.specs.Option.{unwrap_or}
use Rattle.ron_spec_words.specs.Characters.{Text}
use Rattle.ron_value.specs.Tree.{Tree}
use Rattle.ron_value.specs.Tree as tree
use Rattle.ron_base.specs.Extensions.{union, difference}
use Rattle.ron_spec_grammar.specs.Data.{Data, bool_of, int_of, char_of, str_of, bytes_of, the_unit, the_none, some_of, unit_struct_of, list_of, tuple_of}
use Rattle.ron_spec_grammar.specs.Data.{tuple_struct_of, map_of, newtype_of, struct_of, unit_variant_of, newtype_variant_of, tuple_variant_of}
use Rattle.ron_spec_grammar.specs.Data.{struct_variant_of, value_of, Datas, no_datas, data_and, Pairs, no_pairs, pair_and, Fields, no_fields, field_and, raw_of}
use Rattle.ron_spec_grammar.specs.Rule.{Extensions}
use Rattle.ron_spec_layout.specs.Name.{written_name}
use Rattle.ron_spec_layout.specs.Literals.{written_char, number_text}
use Rattle.ron_spec_layout.specs.Brackets.{bracketed, written_bool, unit_struct_text, behind_name, in_some, in_somes, tuple_text}
use Rattle.ron_spec_layout.specs.Config.{Docs, Config, spacing, inner_level, spaced, item_comment}
use Rattle.ron_spec_layout.specs.Ranges.{compact_range}
use Rattle.ron_spec_layout.specs.Docs.{docs_within, doc_comment}
use Rattle.ron_spec_layout.specs.Unescaped.{string_text, bytes_text}

-- what is written before a field's or a pair's value
abbrev pub colon : Config → Text
colon c = codes ":" ++ c.separator

-- The layout of a value without a schema at a level, within so many pending Somes, which is that of its data.
unfoldable mutual
  pub value_layout : Config → Extensions → ℕ → Bool → ℕ → Tree → Text
  value_layout c x level bare n (tree.boolean b) = written_bool b
  value_layout c x level bare n (tree.character a) = written_char a
  value_layout c x level bare n (tree.mapping ps) =
      codes "{" ++ (spaced (spacing c c.compact_maps level) (entry_texts c x (inner_level c.compact_maps level) ps) ++ codes "}")
  value_layout c x level bare n (tree.number w i) = number_text c.number_suffixes w i
  value_layout c x level bare n tree.none = in_somes n (codes "None")
  value_layout c x level bare n (tree.some t) =
      if x.implicit_some then value_layout c x level bare (suc n) t else in_some (value_layout c x level x.unwrap_variant_newtypes 0 t)
  value_layout c x level bare n (tree.text bs) = string_text c.escape_strings (chars bs)
  value_layout c x level bare n (tree.bytes bs) = bytes_text c.escape_strings bs
  value_layout c x level bare n (tree.sequence ts) =
      codes "[" ++ (spaced (spacing c c.compact_arrays level) (value_texts c x (inner_level c.compact_arrays level) 0 ts) ++ codes "]")
  value_layout c x level bare n tree.unit = bracketed bare []

  -- each item behind its comment, at their level; the first has this number
  pub value_texts : Config → Extensions → ℕ → ℕ → tree.Items → List Text
  value_texts c x level k tree.no_items = []
  value_texts c x level k (tree.item_and t ts) = (item_comment c level k ++ value_layout c x level false 0 t) ∷ value_texts c x level (suc k) ts

  -- each key and value
  pub entry_texts : Config → Extensions → ℕ → tree.Pairs → List Text
  entry_texts c x level tree.no_pairs = []
  entry_texts c x level (tree.pair_and k t ps) = (value_layout c x level false 0 k ++ (colon c ++ value_layout c x level false 0 t)) ∷ entry_texts c x level ps

-- The layout of data at a level, where these are the docs of the fields within, and so many Somes are pending. With `true` the data is bare: what stands
-- between `(` and `)`.
-- Under implicit_some a Some is not written, but pending. It is written out around `None`, around a raw text, and around a bare tuple that would be taken for
-- an option; all else tells without it that there is a value.
-- A newtype's content stands alone under unwrap_newtypes and where the newtype is bare. A struct's name is written where names are asked for and the struct is
-- neither bare nor unwrapped, a variant's always, and an enum's never. A compact range takes no name and no brackets, bare or not.
-- Options, newtypes and variants keep the level and the docs, and containers the docs, but for a field, within which those of its name stand.
unfoldable mutual
  pub layout_within : Config → Extensions → ℕ → Docs → Bool → ℕ → Data → Text
  layout_within c x level docs bare n (bool_of b) = written_bool b
  layout_within c x level docs bare n (int_of w i) = number_text c.number_suffixes w i
  layout_within c x level docs bare n (char_of a) = written_char a
  layout_within c x level docs bare n (str_of t) = string_text c.escape_strings t
  layout_within c x level docs bare n (bytes_of bs) = bytes_text c.escape_strings bs
  layout_within c x level docs bare n the_unit = bracketed bare []
  layout_within c x level docs bare n the_none = in_somes n (codes "None")
  layout_within c x level docs bare n (some_of d) =
      if x.implicit_some then layout_within c x level docs bare (suc n) d else in_some (layout_within c x level docs x.unwrap_variant_newtypes 0 d)
  layout_within c x level docs bare n (unit_struct_of name) =
      unwrap_or (compact_range c (unit_struct_of name)) (unit_struct_text (c.struct_names || x.explicit_struct_names) bare name)
  layout_within c x level docs bare n (list_of ds) =
      codes "[" ++ (spaced (spacing c c.compact_arrays level) (numbered_texts c x (inner_level c.compact_arrays level) docs 0 ds) ++ codes "]")
  layout_within c x level docs bare n (tuple_of ds) =
      tuple_text bare n (spaced (spacing c (not c.separate_tuple_members) level) (item_texts c x (inner_level (not c.separate_tuple_members) level) docs ds))
  layout_within c x level docs bare n (tuple_struct_of name ds) = behind_name (c.struct_names || x.explicit_struct_names) bare name
      (tuple_text bare n (spaced (spacing c (not c.separate_tuple_members) level) (item_texts c x (inner_level (not c.separate_tuple_members) level) docs ds)))
  layout_within c x level docs bare n (map_of ps) =
      codes "{" ++ (spaced (spacing c c.compact_maps level) (pair_texts c x (inner_level c.compact_maps level) docs ps) ++ codes "}")
  layout_within c x level docs bare n (newtype_of name d) = if bare || x.unwrap_newtypes then layout_within c x level docs false n d
      else behind_name (c.struct_names || x.explicit_struct_names) false name (bracketed false (layout_within c x level docs false 0 d))
  layout_within c x level docs bare n (struct_of name fields) =
      unwrap_or (compact_range c (struct_of name fields)) (behind_name (c.struct_names || x.explicit_struct_names) bare name
      (bracketed bare (spaced (spacing c c.compact_structs level) (field_texts c x (inner_level c.compact_structs level) docs fields))))
  layout_within c x level docs bare n (unit_variant_of name v) = written_name v
  layout_within c x level docs bare n (newtype_variant_of name v d) =
      written_name v ++ bracketed false (layout_within c x level docs x.unwrap_variant_newtypes 0 d)
  layout_within c x level docs bare n (tuple_variant_of name v ds) = written_name v
      ++ bracketed false (spaced (spacing c (not c.separate_tuple_members) level) (item_texts c x (inner_level (not c.separate_tuple_members) level) docs ds))
  layout_within c x level docs bare n (struct_variant_of name v fields) =
      written_name v ++ bracketed false (spaced (spacing c c.compact_structs level) (field_texts c x (inner_level c.compact_structs level) docs fields))
  layout_within c x level docs bare n (value_of t) = value_layout c x level bare n t
  layout_within c x level docs bare n (raw_of t) = in_somes n t

  -- each item of a list behind its comment, at their level; the first has this number
  pub numbered_texts : Config → Extensions → ℕ → Docs → ℕ → Datas → List Text
  numbered_texts c x level docs k no_datas = []
  numbered_texts c x level docs k (data_and d ds) =
      (item_comment c level k ++ layout_within c x level docs false 0 d) ∷ numbered_texts c x level docs (suc k) ds

  -- each item of a tuple, at their level
  pub item_texts : Config → Extensions → ℕ → Docs → Datas → List Text
  item_texts c x level docs no_datas = []
  item_texts c x level docs (data_and d ds) = layout_within c x level docs false 0 d ∷ item_texts c x level docs ds

  -- each key and value, at their level
  pub pair_texts : Config → Extensions → ℕ → Docs → Pairs → List Text
  pair_texts c x level docs no_pairs = []
  pair_texts c x level docs (pair_and key d ps) =
      (layout_within c x level docs false 0 key ++ (colon c ++ layout_within c x level docs false 0 d)) ∷ pair_texts c x level docs ps

  -- each field's doc comment, name and value, at their level
  pub field_texts : Config → Extensions → ℕ → Docs → Fields → List Text
  field_texts c x level docs no_fields = []
  field_texts c x level docs (field_and name d fields) = (doc_comment c level docs name
      ++ (written_name name ++ (colon c ++ layout_within c x level (docs_within docs name) false 0 d))) ∷ field_texts c x level docs fields

-- The layout's arguments. `layout` takes the extensions in force and bareness, as `Spells` does, so that a law reads
-- the same on both sides. `layout_within` takes besides how many `Some`s are pending, which `implicit_some` leaves
-- out until something would be taken for an option. The law is proved where none is pending: the layout within n
-- pending `Some`s is that of the data inside n `Some`s (clause `pending`). The configuration, the level and the doc
-- comments of the fields within stand beside them.
--
-- the layout of data, where no Some is pending
abbrev pub layout : Config → Extensions → ℕ → Docs → Bool → Data → Text
layout c x level docs bare d = layout_within c x level docs bare 0 d

-- ---- whole texts

-- an attribute that announces the extension of a name
abbrev pub attribute_of : Text → Text
attribute_of name = codes "#![enable(" ++ (name ++ codes ")]")

-- with the name first where it is taken
abbrev pub with_name_if : Bool → Text → List Text → List Text
with_name_if taken name names = if taken then name ∷ names else names

-- the names of the extensions of a set
abbrev pub names_of_extensions : Extensions → List Text
names_of_extensions x = with_name_if x.unwrap_newtypes (codes "unwrap_newtypes") (with_name_if x.implicit_some (codes "implicit_some")
    (with_name_if x.unwrap_variant_newtypes (codes "unwrap_variant_newtypes") (with_name_if x.explicit_struct_names (codes "explicit_struct_names") [])))

-- an attribute for each of the names, with a new line behind it
abbrev pub announcements_of : Config → List Text → Text
announcements_of c names = flat_map (λ name. attribute_of name ++ c.new_line) names

-- those of the extensions of a configuration that are no defaults
abbrev pub announcements : Extensions → Config → Text
announcements defaults c = announcements_of c (names_of_extensions (difference c.extensions defaults))

-- in force are the defaults and the configuration's
abbrev pub extensions_under : Extensions → Config → Extensions
extensions_under defaults c = union defaults c.extensions

-- the announcements, and the layout at level 0
abbrev pub full_layout : Extensions → Config → Data → Text
full_layout defaults c d = announcements defaults c ++ layout c (extensions_under defaults c) 0 c.docs false d
