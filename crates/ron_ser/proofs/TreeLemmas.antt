-- The tree of a value, case by case: for `write_any` and what keeps Somes of a value.
use Rattle.std.proofs.Common.{◌≡◌, ℕ, Bool, map, None, Some, Box, Vec, Global, rules}
use Rattle.std.specs.Prelude.{string_bytes, String as Text}
use Rattle.ron_value_number.specs.declared.number.Number.{Number as N}
use Rattle.ron_value_number.specs.Number.{number_width, number_value}
use Rattle.ron_value.specs.Tree.{items_from}
use Rattle.ron_value.specs.Tree as tree
use Rattle.ron_value.specs.View.{tree_of, map_tree}
use Rattle.ron_value.specs.declared.map.Map.{Map as ValueMap}
use Rattle.ron_value.specs.declared.value.Value.{Value, the_lemmas}
use Rattle.ron_value.specs.declared.value.Value.TheVariants as value_

pub tree-boolean : (b : Bool) → tree_of (value_.Bool b) ≡ tree.boolean b
tree-boolean b = search (rules, the_lemmas)

pub tree-character : (c : ℕ) → tree_of (value_.Char c) ≡ tree.character c
tree-character c = search (rules, the_lemmas)

pub tree-mapping : (m : ValueMap) → tree_of (value_.Map m) ≡ map_tree m
tree-mapping m = search (rules, the_lemmas)

pub tree-number : (n : N) → tree_of (value_.Number n) ≡ tree.number (number_width n) (number_value n)
tree-number n = search (rules, the_lemmas)

pub tree-none : tree_of (value_.Option None) ≡ tree.none
tree-none = search (rules, the_lemmas)

pub tree-some : (b : Box Value Global) → tree_of (value_.Option (Some b)) ≡ tree.some (tree_of b.value)
tree-some b = search (rules, the_lemmas)

pub tree-text : (s : Text Global) → tree_of (value_.String s) ≡ tree.text (string_bytes s)
tree-text s = search (rules, the_lemmas)

pub tree-bytes : (v : Vec ℕ Global) → tree_of (value_.Bytes v) ≡ tree.bytes v.items
tree-bytes v = search (rules, the_lemmas)

pub tree-sequence : (v : Vec Value Global) → tree_of (value_.Seq v) ≡ tree.sequence (items_from (map tree_of v.items))
tree-sequence v = search (rules, the_lemmas)

pub tree-unit : tree_of value_.Unit ≡ tree.unit
tree-unit = search (rules, the_lemmas)
