-- Values without a schema, as plain trees: their numbers and maps, which trees are values, and a value as data.
use Rattle.std.specs.Prelude.{◌≡◌, ℤ, pos, int_lt, Bool, true, List, [], ◌∷◌, ⊤, chars, if◌then◌else◌}
use Rattle.std.specs.Option.{unwrap_or}
use Rattle.std.specs.BTreeMap.{insert_entry}
use Rattle.ron_value_number.specs.declared.width.Width.{Width}
use Rattle.ron_value_number.specs.Width.{fits}
use Rattle.ron_value_number.specs.Smallest.{smallest_width}
use Rattle.ron_value.specs.Tree.{Tree, pairs_from}
use Rattle.ron_value.specs.Tree as tree
use Rattle.ron_value.specs.Order.{tree_cmp}
use Rattle.ron_value.specs.Ordered.{IsOrdered}
use Rattle.ron_spec_grammar.specs.Data.{Data, bool_of, int_of, char_of, str_of, bytes_of, the_unit, the_none, some_of, list_of, map_of, Datas, no_datas}
use Rattle.ron_spec_grammar.specs.Data.{data_and, Pairs, no_pairs, pair_and}

-- ---- maps

-- a key and its value
abbrev pub Entry : Type 0
Entry = Tree × Tree

-- these pairs put in, one by one, where a key's last value stays
abbrev pub put_in : List Entry → List Entry → List Entry
put_in es [] = es
put_in es (p ∷ ps) = put_in (insert_entry tree_cmp es p.0 p.1) ps

-- the map of these pairs: its keys ascend, and of equal keys the last one's value stays
abbrev pub mapped : List Entry → Tree
mapped ps = tree.mapping (pairs_from (put_in [] ps))

-- ---- which trees are values

-- each number in a tree lies in its width
abbrev mutual
  pub HasNumbersInWidth : Tree → Type 0
  HasNumbersInWidth (tree.number w n) = fits w n ≡ true
  HasNumbersInWidth (tree.some t) = HasNumbersInWidth t
  HasNumbersInWidth (tree.sequence ts) = HaveNumbersInWidth ts
  HasNumbersInWidth (tree.mapping ps) = PairsInWidth ps
  HasNumbersInWidth _ = ⊤

  pub HaveNumbersInWidth : tree.Items → Type 0
  HaveNumbersInWidth tree.no_items = ⊤
  HaveNumbersInWidth (tree.item_and t ts) = HasNumbersInWidth t × HaveNumbersInWidth ts

  pub PairsInWidth : tree.Pairs → Type 0
  PairsInWidth tree.no_pairs = ⊤
  PairsInWidth (tree.pair_and k t ps) = HasNumbersInWidth k × HasNumbersInWidth t × PairsInWidth ps

-- A tree is a value where the keys of each map in it ascend and each number in it lies in its width.
pub record IsValue (t : Tree) : Type 0 where
  pub ordered : IsOrdered t
  pub in_width : HasNumbersInWidth t

-- ---- as data

-- A value as data: a list as a list, a map as a map, and a number of its width.
abbrev mutual
  pub lift : Tree → Data
  lift (tree.boolean b) = bool_of b
  lift (tree.character c) = char_of c
  lift (tree.mapping ps) = map_of (lift_pairs ps)
  lift (tree.number w n) = int_of w n
  lift tree.none = the_none
  lift (tree.some t) = some_of (lift t)
  lift (tree.text bs) = str_of (chars bs)
  lift (tree.bytes bs) = bytes_of bs
  lift (tree.sequence ts) = list_of (lift_items ts)
  lift tree.unit = the_unit

  pub lift_items : tree.Items → Datas
  lift_items tree.no_items = no_datas
  lift_items (tree.item_and t ts) = data_and (lift t) (lift_items ts)

  pub lift_pairs : tree.Pairs → Pairs
  lift_pairs tree.no_pairs = no_pairs
  lift_pairs (tree.pair_and k t ps) = pair_and (lift k) (lift t) (lift_pairs ps)

-- ---- the normal form

-- the number in its smallest width
abbrev pub in_smallest_width : Width → ℤ → Tree
in_smallest_width w n = tree.number (unwrap_or (smallest_width (int_lt n (pos 0)) n) w) n

-- The normal form of a value: each number in its smallest width, where no suffixes are written, and then each map of what its pairs have become.
abbrev mutual
  pub normal : Bool → Tree → Tree
  normal suffixes (tree.boolean b) = tree.boolean b
  normal suffixes (tree.character c) = tree.character c
  normal suffixes (tree.mapping ps) = mapped (normal_pairs suffixes ps)
  normal suffixes (tree.number w n) = if suffixes then tree.number w n else in_smallest_width w n
  normal suffixes tree.none = tree.none
  normal suffixes (tree.some t) = tree.some (normal suffixes t)
  normal suffixes (tree.text bs) = tree.text bs
  normal suffixes (tree.bytes bs) = tree.bytes bs
  normal suffixes (tree.sequence ts) = tree.sequence (normal_items suffixes ts)
  normal suffixes tree.unit = tree.unit

  pub normal_items : Bool → tree.Items → tree.Items
  normal_items suffixes tree.no_items = tree.no_items
  normal_items suffixes (tree.item_and t ts) = tree.item_and (normal suffixes t) (normal_items suffixes ts)

  pub normal_pairs : Bool → tree.Pairs → List Entry
  normal_pairs suffixes tree.no_pairs = []
  normal_pairs suffixes (tree.pair_and k t ps) = (normal suffixes k, normal suffixes t) ∷ normal_pairs suffixes ps
