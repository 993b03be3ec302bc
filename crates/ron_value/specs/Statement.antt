-- What the order of values is, case by case; and what it means that a map is ordered.
use Rattle.std.specs.Prelude.{◌≡◌, ◌≢◌, ◌↔◌, ℕ, ℤ, Bool, List, All}
use Rattle.std.specs.declared.cmp.Ordering.TheVariants.{Less}
use Rattle.std.specs.Ordering.{ordering_then, nat_cmp, int_cmp, bool_cmp}
use Rattle.std.specs.Cmp.Lexicographic.{slice_cmp}
use Rattle.std.specs.List.Sorted.{IsStrictlySortedBy}
use Rattle.std.specs.Map.{keys_of}
use Rattle.ron_value_number.specs.declared.width.Width.{Width}
use Rattle.ron_value_number.specs.Width.{width_place}
use Rattle.ron_value.specs.Tree.{Tree, boolean, character, mapping, number, none, some, text, bytes, sequence, case_place, items_from, pairs_from}
use Rattle.ron_value.specs.Order.{tree_cmp, pair_cmp}
use Rattle.ron_value.specs.Ordered.{IsOrdered}
use Rattle.ron_value.specs.View.{tree_of, value_cmp, entries, map_tree}
use Rattle.ron_value.specs.declared.value.Value.{Value}
use Rattle.ron_value.specs.declared.map.Map.{Map}

-- trees of two cases are ordered as the places of their cases
abbrev pub OrdersByCase : Type 0
OrdersByCase = (s t : Tree) → case_place s ≢ case_place t → tree_cmp s t ≡ nat_cmp (case_place s) (case_place t)

-- trees of one case are ordered by what they hold: texts by their bytes, numbers by width and then by value
pub record OrdersByContent : Type 0 where
  pub booleans : (a b : Bool) → tree_cmp (boolean a) (boolean b) ≡ bool_cmp a b
  pub characters : (a b : ℕ) → tree_cmp (character a) (character b) ≡ nat_cmp a b
  pub mappings : (xs ys : List (Tree × Tree)) →
      tree_cmp (mapping (pairs_from xs)) (mapping (pairs_from ys)) ≡ slice_cmp pair_cmp xs ys
  pub numbers : (v w : Width) (m n : ℤ) →
      tree_cmp (number v m) (number w n) ≡ ordering_then (nat_cmp (width_place v) (width_place w)) (int_cmp m n)
  pub none_first : (t : Tree) → tree_cmp none (some t) ≡ Less
  pub somes : (s t : Tree) → tree_cmp (some s) (some t) ≡ tree_cmp s t
  pub texts : (xs ys : List ℕ) → tree_cmp (text xs) (text ys) ≡ slice_cmp nat_cmp xs ys
  pub byte_lists : (xs ys : List ℕ) → tree_cmp (bytes xs) (bytes ys) ≡ slice_cmp nat_cmp xs ys
  pub sequences : (xs ys : List Tree) →
      tree_cmp (sequence (items_from xs)) (sequence (items_from ys)) ≡ slice_cmp tree_cmp xs ys

-- a key and its value are ordered
abbrev pub IsOrderedEntry : Value × Value → Type 0
IsOrderedEntry e = IsOrdered (tree_of e.0) × IsOrdered (tree_of e.1)

-- a map is ordered exactly where its keys ascend, and each key and each value is ordered
abbrev pub OrdersMaps : Type 0
OrdersMaps = (m : Map) →
    IsOrdered (map_tree m) ↔ (IsStrictlySortedBy value_cmp (keys_of (entries m)) × All IsOrderedEntry (entries m))
