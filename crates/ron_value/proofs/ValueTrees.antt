-- The tree of a value, at the cases that hold others or lie in memory: for comparing and copying values.
use Rattle.std.proofs.Common.{◌≡◌, ℕ, map, Some, Box, Vec, Global, rules}
use Rattle.std.specs.Prelude.{string_bytes, String as Text}
use Rattle.ron_value.specs.Tree.{some, text, bytes, sequence, items_from}
use Rattle.ron_value.specs.View.{tree_of, map_tree}
use Rattle.ron_value.specs.declared.map.Map.{Map as ValueMap}
use Rattle.ron_value.specs.declared.value.Value.{Value, the_lemmas, Map, Option, String, Bytes, Seq}

pub tree_of-Map : (m : ValueMap) → tree_of (Map m) ≡ map_tree m
tree_of-Map m = search (rules, the_lemmas)

pub tree_of-String : (s : Text Global) → tree_of (String s) ≡ text (string_bytes s)
tree_of-String s = search (rules, the_lemmas)

pub tree_of-Bytes : (v : Vec ℕ Global) → tree_of (Bytes v) ≡ bytes v.items
tree_of-Bytes v = search (rules, the_lemmas)

pub tree_of-Seq : (v : Vec Value Global) → tree_of (Seq v) ≡ sequence (items_from (map tree_of v.items))
tree_of-Seq v = search (rules, the_lemmas)

pub tree_of-Some : (b : Box Value Global) → tree_of (Option (Some b)) ≡ some (tree_of b.value)
tree_of-Some b = search (rules, the_lemmas)
