-- What a hasher is fed of a tree.
use Rattle.std.specs.Prelude.{ℤ, pos, ◌++◌, int_lt, unsigned_abs}
use Rattle.std.specs.Hash.{HashWrites}
use Rattle.std.specs.Hash as fed
use Rattle.ron_value_number.specs.declared.width.Width.{Width}
use Rattle.ron_value_number.specs.Width.{bits, is_signed}
use Rattle.ron_value.specs.Tree.{Tree, boolean, character, mapping, number, none, some, text, bytes, sequence, unit, Items, no_items, item_and, Pairs, no_pairs}
use Rattle.ron_value.specs.Tree.{pair_and}

-- the width's bits and whether it has a sign, and the value as its sign and its magnitude
abbrev pub number_writes : Width → ℤ → HashWrites
number_writes w n =
    fed.u32 (bits w) ++ fed.bool (is_signed w) ++ fed.bool (int_lt n (pos 0)) ++ fed.u128 (unsigned_abs n)

-- the case's place, and then what it holds; in a list 1 stands before each element and 0 at the end
abbrev mutual
  pub tree_writes : Tree → HashWrites
  tree_writes (boolean b) = fed.u8 0 ++ fed.bool b
  tree_writes (character c) = fed.u8 1 ++ fed.char c
  tree_writes (mapping ps) = fed.u8 2 ++ pairs_writes ps
  tree_writes (number w n) = fed.u8 3 ++ number_writes w n
  tree_writes none = fed.u8 4 ++ fed.u8 0
  tree_writes (some t) = fed.u8 4 ++ fed.u8 1 ++ tree_writes t
  tree_writes (text bs) = fed.u8 5 ++ fed.str bs
  tree_writes (bytes bs) = fed.u8 6 ++ fed.slice fed.u8 bs
  tree_writes (sequence ts) = fed.u8 7 ++ items_writes ts
  tree_writes unit = fed.u8 8

  pub items_writes : Items → HashWrites
  items_writes no_items = fed.u8 0
  items_writes (item_and t ts) = fed.u8 1 ++ tree_writes t ++ items_writes ts

  pub pairs_writes : Pairs → HashWrites
  pairs_writes no_pairs = fed.u8 0
  pairs_writes (pair_and k v ps) = fed.u8 1 ++ tree_writes k ++ tree_writes v ++ pairs_writes ps
