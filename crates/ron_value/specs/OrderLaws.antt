-- The order of trees is total and tells all trees apart; and what it is at each case.
use Rattle.std.specs.Prelude.{◌≡◌, refl, ℕ, ℤ, pos, List, [], ◌∷◌, map, Bool, true, false, IsTrue, not, ◌==◌, cond}
use Rattle.std.proofs.Common.{zero, suc, negsuc, sym, ap, ◌∙◌, arith}
use Rattle.std.proofs.lemmas.Bool.Decides.{nat_tests}
use Rattle.std.specs.declared.cmp.Ordering.{Ordering}
use Rattle.std.specs.declared.cmp.Ordering.TheVariants.{Less, Equal, Greater}
use Rattle.std.specs.Ordering.{eq_by_cmp, ordering_then, nat_cmp, int_cmp, bool_cmp}
use Rattle.std.specs.Cmp.{IsTotalOrder, on_total, Equal-is}
use Rattle.std.specs.Cmp.Lexicographic.{slice_cmp}
use Rattle.ron_value_number.specs.declared.width.Width.{Width}
use Rattle.ron_value_number.specs.declared.width.Width.TheVariants.{I8, I16, I32, I64, I128, U8, U16, U32, U64, U128}
use Rattle.ron_value_number.specs.Width.{width_place}
use Rattle.ron_value.specs.Node.{Node, node, Nodes, no_nodes, node_and}
use Rattle.ron_value.specs.NodeLaws.{node_cmp_total, node_same}
use Rattle.ron_value.specs.Tree.{Tree, boolean, character, mapping, number, none, some, text, bytes, sequence, unit, Items, no_items, item_and, Pairs, no_pairs}
use Rattle.ron_value.specs.Tree.{pair_and, items_from, pairs_from}
use Rattle.ron_value.specs.Order.{node_of, item_nodes, pair_nodes, tree_cmp, pair_cmp}

pub tree_cmp_total : IsTotalOrder tree_cmp
tree_cmp_total = on_total node_of node_cmp_total

-- ---- a tree is known from its node

abbrev pub number_at : List ℤ → ℕ → ℤ
number_at [] i = pos 0
number_at (k ∷ ks) zero = k
number_at (k ∷ ks) (suc i) = number_at ks i

abbrev pub unsigned : ℤ → ℕ
unsigned (pos n) = n
unsigned (negsuc n) = 0

abbrev pub width_at : ℕ → Width
width_at i =
    cond (i == 0) I8 (cond (i == 1) I16 (cond (i == 2) I32 (cond (i == 3) I64 (cond (i == 4) I128 (
    cond (i == 5) U8 (cond (i == 6) U16 (cond (i == 7) U32 (cond (i == 8) U64 U128))))))))

abbrev pairs_in : Items → Pairs
pairs_in no_items = no_pairs
pairs_in (item_and k no_items) = no_pairs
pairs_in (item_and k (item_and v ts)) = pair_and k v (pairs_in ts)

abbrev option_in : Items → Tree
option_in no_items = none
option_in (item_and t ts) = some t

abbrev tree_at : ℕ → List ℤ → Items → Tree
tree_at place ks ts =
    cond (place == 0) (boolean (not (unsigned (number_at ks 0) == 0))) (
    cond (place == 1) (character (unsigned (number_at ks 0))) (
    cond (place == 2) (mapping (pairs_in ts)) (
    cond (place == 3) (number (width_at (unsigned (number_at ks 0))) (number_at ks 1)) (
    cond (place == 4) (option_in ts) (
    cond (place == 5) (text (map unsigned ks)) (
    cond (place == 6) (bytes (map unsigned ks)) (
    cond (place == 7) (sequence ts) unit)))))))

abbrev mutual
  pub tree_in : Node → Tree
  tree_in (node place ks ns) = tree_at place ks (items_in ns)

  items_in : Nodes → Items
  items_in no_nodes = no_items
  items_in (node_and n ns) = item_and (tree_in n) (items_in ns)

pub width_back : (w : Width) → width_at (width_place w) ≡ w
width_back I8 = refl
width_back I16 = refl
width_back I32 = refl
width_back I64 = refl
width_back I128 = refl
width_back U8 = refl
width_back U16 = refl
width_back U32 = refl
width_back U64 = refl
width_back U128 = refl

pub unsigned_back : (bs : List ℕ) → map unsigned (map pos bs) ≡ bs
unsigned_back [] = refl
unsigned_back (b ∷ bs) = ap (λ cs. b ∷ cs) (unsigned_back bs)

mutual
  pub tree_back : (t : Tree) → tree_in (node_of t) ≡ t
  tree_back (boolean false) = refl
  tree_back (boolean true) = refl
  tree_back (character c) = refl
  tree_back (mapping ps) = ap mapping (pairs_back ps)
  tree_back (number w n) = ap (λ v. number v n) (width_back w)
  tree_back none = refl
  tree_back (some t) = ap some (tree_back t)
  tree_back (text bs) = ap text (unsigned_back bs)
  tree_back (bytes bs) = ap bytes (unsigned_back bs)
  tree_back (sequence ts) = ap sequence (items_back ts)
  tree_back unit = refl

  items_back : (ts : Items) → items_in (item_nodes ts) ≡ ts
  items_back no_items = refl
  items_back (item_and t ts) = λ i. item_and (tree_back t i) (items_back ts i)

  pairs_back : (ps : Pairs) → pairs_in (items_in (pair_nodes ps)) ≡ ps
  pairs_back no_pairs = refl
  pairs_back (pair_and k v ps) = λ i. pair_and (tree_back k i) (tree_back v i) (pairs_back ps i)

pub tree_same : (s t : Tree) → tree_cmp s t ≡ Equal → s ≡ t
tree_same s t e = sym (tree_back s) ∙ ap tree_in (node_same (node_of s) (node_of t) e) ∙ tree_back t

pub tree_eq_same : (s t : Tree) → IsTrue (eq_by_cmp tree_cmp s t) → s ≡ t
tree_eq_same s t e = tree_same s t ((Equal-is (tree_cmp s t)).0 e)

-- ---- the order at each case

pub then_Equal : (a : Ordering) → ordering_then a Equal ≡ a
then_Equal Less = refl
then_Equal Equal = refl
then_Equal Greater = refl

pub then_assoc : (a b c : Ordering) → ordering_then a (ordering_then b c) ≡ ordering_then (ordering_then a b) c
then_assoc Less b c = refl
then_assoc Equal b c = refl
then_assoc Greater b c = refl

pub unsigned_cmp : (a b : ℕ) → int_cmp (pos a) (pos b) ≡ nat_cmp a b
unsigned_cmp a b = grind (arith, nat_tests)

pub unsigneds_cmp : (xs ys : List ℕ) → slice_cmp int_cmp (map pos xs) (map pos ys) ≡ slice_cmp nat_cmp xs ys
unsigneds_cmp [] [] = refl
unsigneds_cmp [] (y ∷ ys) = refl
unsigneds_cmp (x ∷ xs) [] = refl
unsigneds_cmp (x ∷ xs) (y ∷ ys) = λ i. ordering_then (unsigned_cmp x y i) (unsigneds_cmp xs ys i)

pub booleans_cmp : (a b : Bool) → tree_cmp (boolean a) (boolean b) ≡ bool_cmp a b
booleans_cmp false false = refl
booleans_cmp false true = refl
booleans_cmp true false = refl
booleans_cmp true true = refl

pub characters_cmp : (a b : ℕ) → tree_cmp (character a) (character b) ≡ nat_cmp a b
characters_cmp a b = then_Equal _ ∙ then_Equal _ ∙ unsigned_cmp a b

pub numbers_cmp : (v w : Width) (m n : ℤ) → tree_cmp (number v m) (number w n) ≡ ordering_then (nat_cmp (width_place v) (width_place w)) (int_cmp m n)
numbers_cmp v w m n =
    then_Equal _ ∙ (λ i. ordering_then (unsigned_cmp (width_place v) (width_place w) i) (then_Equal (int_cmp m n) i))

pub somes_cmp : (s t : Tree) → tree_cmp (some s) (some t) ≡ tree_cmp s t
somes_cmp s t = then_Equal _

pub texts_cmp : (xs ys : List ℕ) → tree_cmp (text xs) (text ys) ≡ slice_cmp nat_cmp xs ys
texts_cmp xs ys = then_Equal _ ∙ unsigneds_cmp xs ys

pub bytes_cmp : (xs ys : List ℕ) → tree_cmp (bytes xs) (bytes ys) ≡ slice_cmp nat_cmp xs ys
bytes_cmp xs ys = then_Equal _ ∙ unsigneds_cmp xs ys

pub sequences_cmp : (xs ys : List Tree) → tree_cmp (sequence (items_from xs)) (sequence (items_from ys)) ≡ slice_cmp tree_cmp xs ys
sequences_cmp [] [] = refl
sequences_cmp [] (y ∷ ys) = refl
sequences_cmp (x ∷ xs) [] = refl
sequences_cmp (x ∷ xs) (y ∷ ys) = ap (ordering_then (tree_cmp x y)) (sequences_cmp xs ys)

pub mappings_cmp : (xs ys : List (Tree × Tree)) → tree_cmp (mapping (pairs_from xs)) (mapping (pairs_from ys)) ≡ slice_cmp pair_cmp xs ys
mappings_cmp [] [] = refl
mappings_cmp [] (y ∷ ys) = refl
mappings_cmp (x ∷ xs) [] = refl
mappings_cmp (x ∷ xs) (y ∷ ys) =
    then_assoc (tree_cmp x.0 y.0) (tree_cmp x.1 y.1) _ ∙ ap (ordering_then (pair_cmp x y)) (mappings_cmp xs ys)
