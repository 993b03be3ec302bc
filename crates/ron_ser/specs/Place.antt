-- Where a writer stands in a layout.
use Rattle.std.specs.Prelude.{ℕ, zero, suc, Bool, true, false, not, nat_lt, if◌then◌else◌, Option, None, Some, List, [], ◌++◌, codes}
use Rattle.ron_spec_words.specs.Characters.{Text}
use Rattle.ron_spec_grammar.specs.Rule.{Extensions}
use Rattle.ron_spec_layout.specs.Config.{Docs, Config, Spacing, spacing, item_comment}
use Rattle.ron_spec_layout.specs.Docs.{docs_within}
use Rattle.ron_ser.specs.declared.container.Container.{Container}
use Rattle.ron_ser.specs.declared.container.Container.TheVariants as container

-- The configuration, the extensions in force, the level, and the doc comments of the fields within.
pub record Place : Type 0 where
  pub config : Config
  pub extensions : Extensions
  pub level : ℕ
  pub docs : Docs

-- ---- levels

-- A level that is known up to the configuration's limit: past it, the first one past it, as which all of them are laid out.
abbrev pub level_of : ℕ → Option ℕ → ℕ
level_of limit None = suc limit
level_of limit (Some level) = level

-- one level further in
abbrev pub next_level : ℕ → ℕ → ℕ
next_level limit level = if nat_lt level limit then suc level else suc limit

-- ---- containers

-- the items of the container stand on one line whatever their level
abbrev pub is_compact : Config → Container → Bool
is_compact c container.List = c.compact_arrays
is_compact c (container.Tuple bare) = not c.separate_tuple_members
is_compact c container.Map = c.compact_maps
is_compact c (container.Struct bare) = c.compact_structs

-- Items are numbered.
abbrev pub is_list : Container → Bool
is_list container.List = true
is_list _ = false

-- the brackets around them
abbrev pub left : Container → List ℕ
left container.List = codes "["
left (container.Tuple bare) = if bare then [] else codes "("
left container.Map = codes "{"
left (container.Struct bare) = if bare then [] else codes "("

abbrev pub right : Container → List ℕ
right container.List = codes "]"
right (container.Tuple bare) = if bare then [] else codes ")"
right container.Map = codes "}"
right (container.Struct bare) = if bare then [] else codes ")"

-- what stands around the items
abbrev pub spacing_in : Place → Container → Spacing
spacing_in p k = spacing p.config (is_compact p.config k) p.level

-- where they stand
abbrev pub inside : Container → Place → Place
inside k p = record {
  config = p.config;
  extensions = p.extensions;
  level = if is_compact p.config k then p.level else next_level p.config.depth_limit p.level;
  docs = p.docs;
}

-- where the value of a field stands
abbrev pub within : Text → Place → Place
within name p = record { config = p.config; extensions = p.extensions; level = p.level; docs = docs_within p.docs name }

-- ---- what stands around items

-- a comma before the item of this number, counted from 0, but for the first
abbrev pub comma : ℕ → Text
comma zero = []
comma (suc n) = codes ","

-- the separator likewise
abbrev pub separator_at : Config → ℕ → Text
separator_at c zero = []
separator_at c (suc n) = c.separator

-- what stands before it
abbrev pub before_any : Spacing → ℕ → Text
before_any s zero = s.first
before_any s (suc n) = codes "," ++ s.between

-- with its comment, where it is one of a list
abbrev pub before : Place → Container → ℕ → Text
before p k n = if is_list k then before_any (spacing_in p k) n ++ item_comment p.config (inside k p).level n else before_any (spacing_in p k) n

-- behind so many items
abbrev pub behind : Place → Container → ℕ → Text
behind p k zero = []
behind p k (suc n) = (spacing_in p k).last
