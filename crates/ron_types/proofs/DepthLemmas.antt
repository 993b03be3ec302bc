-- The numbers in a tree lie in their widths where those do that stand less than any number of levels deep.
use Rattle.std.proofs.Common.{◌≡◌, ◌≤◌, ◌+◌, ℕ, zero, suc, arith, true}
use Rattle.ron_value_number.specs.Width.{fits}
use Rattle.ron_spec_grammar.specs.Values.Trees.{HasNumbersInWidth, HaveNumbersInWidth, PairsInWidth}
use Rattle.ron_value.specs.Tree.{Tree, Items, Pairs}
use Rattle.ron_value.specs.Tree as tree

-- of each tree in a list, and of each key and value
abbrev pub each : (Tree → Type 0) → Items → Type 0
each P tree.no_items = Unit {0}
each P (tree.item_and t ts) = P t × each P ts

abbrev pub each_pair : (Tree → Type 0) → Pairs → Type 0
each_pair P tree.no_pairs = Unit {0}
each_pair P (tree.pair_and k t ps) = P k × P t × each_pair P ps

-- each number in a tree lies in its width, where this holds of the trees in it
abbrev pub inside : (Tree → Type 0) → Tree → Type 0
inside P (tree.number w n) = fits w n ≡ true
inside P (tree.some t) = P t
inside P (tree.sequence ts) = each P ts
inside P (tree.mapping ps) = each_pair P ps
inside P _ = Unit {0}

-- each number that stands less than so many levels deep lies in its width
abbrev pub to_depth : ℕ → Tree → Type 0
to_depth zero t = Unit {0}
to_depth (suc n) t = inside (to_depth n) t

-- no fewer than the levels of a tree
abbrev mutual
  pub size : Tree → ℕ
  size (tree.some t) = suc (size t)
  size (tree.sequence ts) = suc (items_size ts)
  size (tree.mapping ps) = suc (pairs_size ps)
  size _ = 1

  pub items_size : Items → ℕ
  items_size tree.no_items = 0
  items_size (tree.item_and t ts) = size t + items_size ts

  pub pairs_size : Pairs → ℕ
  pairs_size tree.no_pairs = 0
  pairs_size (tree.pair_and k t ps) = size k + (size t + pairs_size ps)

-- to a depth that no tree in it reaches
mutual
  pub all_in_width : (t : Tree) (n : ℕ) → size t ≤ n → to_depth n t → HasNumbersInWidth t
  all_in_width (tree.number w k) zero le h = absurd (omega arith)
  all_in_width (tree.number w k) (suc n) le h = h
  all_in_width (tree.some t) zero le h = absurd (omega arith)
  all_in_width (tree.some t) (suc n) le h = all_in_width t n (omega arith) h
  all_in_width (tree.sequence ts) zero le h = absurd (omega arith)
  all_in_width (tree.sequence ts) (suc n) le h = items_in_width ts n (omega arith) h
  all_in_width (tree.mapping ps) zero le h = absurd (omega arith)
  all_in_width (tree.mapping ps) (suc n) le h = pairs_in_width ps n (omega arith) h
  all_in_width _ n le h = tt

  items_in_width : (ts : Items) (n : ℕ) → items_size ts ≤ n → each (to_depth n) ts → HaveNumbersInWidth ts
  items_in_width tree.no_items n le h = tt
  items_in_width (tree.item_and t ts) n le h = (all_in_width t n (omega arith) h.0, items_in_width ts n (omega arith) h.1)

  pairs_in_width : (ps : Pairs) (n : ℕ) → pairs_size ps ≤ n → each_pair (to_depth n) ps → PairsInWidth ps
  pairs_in_width tree.no_pairs n le h = tt
  pairs_in_width (tree.pair_and k t ps) n le h = (all_in_width k n (omega arith) h.0, all_in_width t n (omega arith) h.1, pairs_in_width ps n (omega arith) h.2)
