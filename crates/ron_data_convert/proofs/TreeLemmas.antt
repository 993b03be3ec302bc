-- The trees of maps, lists and texts, as `convert` takes them apart.
use Rattle.std.proofs.Common.{◌≡◌, Vec, String, Global, string_bytes, rules}
use Rattle.ron_value.specs.Tree as tree
use Rattle.ron_value.specs.View.{tree_of, entries}
use Rattle.ron_value.specs.declared.map.Map.{Map as ValueMap}
use Rattle.ron_value.specs.declared.value.Value.{Value, the_lemmas, Map, Seq, String as Text}
use Rattle.ron_data_convert.specs.Becomes.{items_tree, pairs_tree}

pub of_map : (m : ValueMap) → tree_of (Map m) ≡ tree.mapping (pairs_tree (entries m))
of_map m = search (rules, the_lemmas)

pub of_seq : (v : Vec Value Global) → tree_of (Seq v) ≡ tree.sequence (items_tree v.items)
of_seq v = search (rules, the_lemmas)

pub of_text : (s : String Global) → tree_of (Text s) ≡ tree.text (string_bytes s)
of_text s = search (rules, the_lemmas)
