-- Configurations, and what stands around the items of a container.
--
-- Values are laid out as data. One layout serves both: a value is the data that it is without a name (`lift`), and
-- its own law says what that text spells without a schema.
--
-- Levels past the limit are all laid out alike (clause `past`), so code need not count them.
--
-- Doc comments are those of the fields within the data: the root's own is never written, and no fields and empty
-- fields are one. The premise on them is exact (`is_documented`): only where some line is really written must a new
-- line end it.
--
-- A container is its spacing (`Spacing`): what stands before the first item, between two, and behind the last, on
-- lines or in a row. Lists, tuples, maps, fields and variants differ in their items alone.
--
-- No configuration is one. Depth limit 0, three empty texts, strings escaped, all else off. Nothing then stands on a
-- line of its own, and no blank is written, so there is one layout and one law. The limit is needed: empty texts
-- alone give `(x:3,y:-4,)`.
use Rattle.std.specs.Prelude.{ℕ, zero, suc, Bool, true, false, not, ◌&&◌, ◌==◌, ◌-◌, ◌^◌, nat_lt, nat_le, if◌then◌else◌, List, [], ◌∷◌, ◌++◌, codes}
use Rattle.std.specs.List.{list_all, list_any}
use Rattle.std.specs.Fmt.{decimal}
use Rattle.ron_spec_words.specs.Characters.{Text, is_blank, line_feed}
use Rattle.ron_base.specs.Extensions.{no_extensions}
use Rattle.ron_spec_grammar.specs.Rule.{Extensions}
use Rattle.ron_spec_layout.specs.Brackets.{joined}

-- ---- doc comments

-- The doc comments of fields by their names, each with those of the fields within it. Of a name that stands twice the first counts.
pub data Docs : Type 0 where
  no_docs : Docs
  doc_and : (name doc : Text) → (within : Docs) → Docs → Docs

-- ---- configurations

-- What a text is laid out by: how many levels of items stand on lines of their own, the texts of a new line, of an indentation and of a separator, switches,
-- the extensions that are announced, and doc comments.
pub record Config : Type 0 where
  pub depth_limit : ℕ
  pub new_line : Text
  pub indentor : Text
  pub separator : Text
  pub struct_names : Bool
  pub separate_tuple_members : Bool
  pub enumerate_arrays : Bool
  pub escape_strings : Bool
  pub compact_arrays : Bool
  pub compact_structs : Bool
  pub compact_maps : Bool
  pub number_suffixes : Bool
  pub compact_ranges : Bool
  pub extensions : Extensions
  pub docs : Docs

-- No configuration is one: nothing stands on a line of its own, and no blank is written.
abbrev pub no_config : Config
no_config = record {
  depth_limit = 0;
  new_line = [];
  indentor = [];
  separator = [];
  struct_names = false;
  separate_tuple_members = false;
  enumerate_arrays = false;
  escape_strings = true;
  compact_arrays = false;
  compact_structs = false;
  compact_maps = false;
  number_suffixes = false;
  compact_ranges = false;
  extensions = no_extensions;
  docs = no_docs;
}

-- The default one: items stand on lines of their own however deep, each level four spaces further in, and a space stands behind colons and commas on a line.
abbrev pub default_config : Config
default_config = record {
  depth_limit = 2 ^ 64 - 1;
  new_line = codes "\n";
  indentor = codes "    ";
  separator = codes " ";
  struct_names = false;
  separate_tuple_members = false;
  enumerate_arrays = false;
  escape_strings = true;
  compact_arrays = false;
  compact_structs = false;
  compact_maps = false;
  number_suffixes = false;
  compact_ranges = false;
  extensions = no_extensions;
  docs = no_docs;
}

-- the three texts of the layout hold blanks, or nothing
abbrev pub blank : Config → Bool
blank c = list_all is_blank c.new_line && (list_all is_blank c.indentor && list_all is_blank c.separator)

-- a new line ends a line comment
abbrev pub ends_lines : Config → Bool
ends_lines c = list_any (λ n. n == line_feed) c.new_line

-- ---- what stands around the items of a container

-- so many of the text in a row
abbrev pub times : ℕ → Text → Text
times zero t = []
times (suc n) t = t ++ times n t

-- what stands before the first item, before each other, and behind the last
pub record Spacing : Type 0 where
  pub first : Text
  pub between : Text
  pub last : Text

-- a new line, and the indentation of a level
abbrev pub line_at : Config → ℕ → Text
line_at c level = c.new_line ++ times level c.indentor

-- each item on a line of its own, one level further in, with a comma behind it
abbrev pub on_lines : Config → ℕ → Spacing
on_lines c level = record { first = line_at c (suc level); between = line_at c (suc level); last = codes "," ++ line_at c level }

-- all items on one line, with the separator between them
abbrev pub in_a_row : Config → Spacing
in_a_row c = record { first = []; between = c.separator; last = [] }

-- Items stand on lines of their own where the container is not compact and their level is within the limit.
abbrev pub spacing : Config → Bool → ℕ → Spacing
spacing c compact level = if not compact && nat_lt level c.depth_limit then on_lines c level else in_a_row c

-- the level of the items of a container
abbrev pub inner_level : Bool → ℕ → ℕ
inner_level compact level = if compact then level else suc level

-- the texts, each behind a gap: the first behind one of its own
abbrev pub led_by : Text → Text → List Text → List Text
led_by g h [] = []
led_by g h (t ∷ ts) = (g ++ t) ∷ led_by h h ts

-- One text function for all items. What stands in a container is a list of texts, one for each item, with what stands
-- before each and behind all (`spaced`). So the text of the first n items is the same in characters and in bytes
-- (`so_far`), and one pair of equations serves every kind of items.
--
-- the texts with what stands before, between and behind them; nothing where there are none
abbrev pub spaced : Spacing → List Text → Text
spaced s [] = []
spaced s (t ∷ ts) = joined (led_by s.first s.between (t ∷ ts)) ++ s.last

-- the comment before an item of a list, by its number, where its level is within the limit
abbrev pub item_comment : Config → ℕ → ℕ → Text
item_comment c level k = if c.enumerate_arrays && nat_le level c.depth_limit then codes "/*[" ++ (decimal k ++ codes "]*/ ") else []
