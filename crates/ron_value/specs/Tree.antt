-- Values as plain trees: what a value is, without where it lies in memory.
use Rattle.std.specs.Prelude.{ℕ, ℤ, Bool, List, [], ◌∷◌}
use Rattle.ron_value_number.specs.declared.width.Width.{Width}

-- texts are lists of bytes, a number is its width and its value
mutual
  pub data Tree : Type 0 where
    boolean : Bool → Tree
    character : ℕ → Tree
    mapping : Pairs → Tree
    number : Width → ℤ → Tree
    none : Tree
    some : Tree → Tree
    text : List ℕ → Tree
    bytes : List ℕ → Tree
    sequence : Items → Tree
    unit : Tree

  pub data Items : Type 0 where
    no_items : Items
    item_and : Tree → Items → Items

  pub data Pairs : Type 0 where
    no_pairs : Pairs
    pair_and : Tree → Tree → Pairs → Pairs

-- a list of trees, as items
abbrev pub items_from : List Tree → Items
items_from [] = no_items
items_from (t ∷ ts) = item_and t (items_from ts)

-- a list of keys with their values, as pairs
abbrev pub pairs_from : List (Tree × Tree) → Pairs
pairs_from [] = no_pairs
pairs_from (p ∷ ps) = pair_and p.0 p.1 (pairs_from ps)

-- the place of a tree's case among the nine
abbrev pub case_place : Tree → ℕ
case_place (boolean b) = 0
case_place (character c) = 1
case_place (mapping ps) = 2
case_place (number w n) = 3
case_place none = 4
case_place (some t) = 4
case_place (text bs) = 5
case_place (bytes bs) = 6
case_place (sequence ts) = 7
case_place unit = 8
