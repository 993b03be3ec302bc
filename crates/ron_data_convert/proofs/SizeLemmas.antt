-- How large a value is: recursion over it ends.
use Rattle.std.proofs.Common.{◌≡◌, ℕ, suc, ◌+◌, List, ◌∷◌, sym, ap}
use Rattle.ron_value.specs.declared.value.Value.{Value}
use Rattle.ron_value.specs.Tree.{Tree, mapping, some, sequence, Items, no_items, item_and, Pairs, no_pairs, pair_and}
use Rattle.ron_value.specs.View.{tree_of}
use Rattle.ron_data_convert.specs.Becomes.{items_tree, pairs_tree}

-- the values in a tree, itself among them
abbrev mutual
  pub size : Tree → ℕ
  size (some t) = suc (size t)
  size (mapping ps) = suc (pairs_size ps)
  size (sequence ts) = suc (items_size ts)
  size _ = 1

  pub items_size : Items → ℕ
  items_size no_items = 0
  items_size (item_and t ts) = size t + items_size ts

  pub pairs_size : Pairs → ℕ
  pairs_size no_pairs = 0
  pairs_size (pair_and k v ps) = size k + size v + pairs_size ps

-- an item is no larger than all of those that it stands before, and neither are these
pub item_within : (left rest : List Value) (v : Value) → left ≡ v ∷ rest → size (tree_of v) + items_size (items_tree rest) ≡ items_size (items_tree left)
item_within left rest v e = sym (ap (λ vs. items_size (items_tree vs)) e)

-- likewise a key with its value
pub entry_within : (left rest : List (Value × Value)) (e : Value × Value) → left ≡ e ∷ rest
    → size (tree_of e.0) + size (tree_of e.1) + pairs_size (pairs_tree rest) ≡ pairs_size (pairs_tree left)
entry_within left rest e at = sym (ap (λ es. pairs_size (pairs_tree es)) at)
