use Rattle.std.proofs.Common.{refl, sym, ap, ◌∙◌}
use Rattle.std.specs.Prelude.{◌≡◌, ◌↔◌, IsTrue}
use Rattle.std.specs.Ordering.{eq_by_cmp, is_eq}
use Rattle.std.proofs.lemmas.Cmp.{tied_itself}
use Rattle.ron_value.specs.Tree.{Tree}
use Rattle.ron_value.specs.Order.{tree_cmp}
use Rattle.ron_value.specs.OrderLaws.{tree_cmp_total, tree_eq_same, booleans_cmp, characters_cmp, mappings_cmp, numbers_cmp, somes_cmp, texts_cmp, bytes_cmp}
use Rattle.ron_value.specs.OrderLaws.{sequences_cmp}
use Rattle.ron_value.specs.View.{tree_of, map_tree}
use Rattle.ron_value.proofs.laws.values_are_ordered.Goals as goal

equal_trees : (s t : Tree) → IsTrue (eq_by_cmp tree_cmp s t) ↔ (s ≡ t)
equal_trees s t = (tree_eq_same s t, λ same. ap (λ (u : Tree). is_eq (tree_cmp s u)) (sym same) ∙ ap is_eq (tied_itself tree_cmp_total s))

pub returns-clause-total : goal.returns-clause-total
returns-clause-total c = tree_cmp_total

pub returns-clause-by_content : goal.returns-clause-by_content
returns-clause-by_content c = record {
  booleans = booleans_cmp;
  characters = characters_cmp;
  mappings = mappings_cmp;
  numbers = numbers_cmp;
  none_first = λ t. refl;
  somes = somes_cmp;
  texts = texts_cmp;
  byte_lists = bytes_cmp;
  sequences = sequences_cmp;
}

pub returns-clause-equal_values : goal.returns-clause-equal_values
returns-clause-equal_values c v w = equal_trees (tree_of v) (tree_of w)

pub returns-clause-equal_maps : goal.returns-clause-equal_maps
returns-clause-equal_maps c m n = equal_trees (map_tree m) (map_tree n)
