-- Values without a schema, as a shape.
use Rattle.std.proofs.Common.{◌≡◌, ℕ, ◌+◌, ◌≤◌, max, Bool, true, false, List, Some, slice_get, refl, ap, ap₂, arith}
use Rattle.ron_spec_words.specs.Characters.{Text}
use Rattle.ron_spec_words.proofs.Words.{first_means}
use Rattle.ron_spec_words.proofs.Exactly.{Opens}
use Rattle.ron_spec_words.proofs.Parts.{Part, part_more, part_means}
use Rattle.ron_value.specs.Tree.{Tree}
use Rattle.ron_value.specs.Tree as tree
use Rattle.ron_spec_grammar.specs.Data.{Data, value_of}
use Rattle.ron_spec_grammar.specs.Schema.{Shape, any_value}
use Rattle.ron_spec_grammar.specs.Rule.{Extensions}
use Rattle.ron_spec_grammar.specs.Depth.{least_depth, items_depth, pairs_depth, tree_depth, tree_items_depth, tree_pairs_depth}
use Rattle.ron_spec_grammar.specs.Room.{step}
use Rattle.ron_spec_grammar.specs.Values.Trees.{lift, lift_items, lift_pairs}
use Rattle.ron_spec_grammar.specs.Shapes.Value.{value_data, ValueText, read_any_value}
use Rattle.ron_spec_grammar.proofs.Room.{size, step_is}
use Rattle.ron_spec_grammar.proofs.Rule.{After, IsDataOf}
use Rattle.ron_spec_grammar.proofs.Values.Facts.{IsValueIn}
use Rattle.ron_spec_grammar.proofs.Values.Contents.{bare_levels}
use Rattle.ron_spec_grammar.proofs.Values.Grammar.{any_within}

-- A value as data is as deep as the value.
mutual
  pub as_deep : (t : Tree) → least_depth (lift t) ≡ tree_depth t
  as_deep (tree.boolean b) = refl
  as_deep (tree.character c) = refl
  as_deep (tree.mapping ps) = ap (λ n. 1 + n) (pairs_as_deep ps)
  as_deep (tree.number w n) = refl
  as_deep tree.none = refl
  as_deep (tree.some t) = ap (λ n. 1 + n) (as_deep t)
  as_deep (tree.text bs) = refl
  as_deep (tree.bytes bs) = refl
  as_deep (tree.sequence ts) = ap (λ n. 1 + n) (items_as_deep ts)
  as_deep tree.unit = refl

  items_as_deep : (ts : tree.Items) → items_depth (lift_items ts) ≡ tree_items_depth ts
  items_as_deep tree.no_items = refl
  items_as_deep (tree.item_and t ts) = ap₂ (λ m n. max (1 + m) n) (as_deep t) (items_as_deep ts)

  pairs_as_deep : (ps : tree.Pairs) → pairs_depth (lift_pairs ps) ≡ tree_pairs_depth ps
  pairs_as_deep tree.no_pairs = refl
  pairs_as_deep (tree.pair_and k t ps) = ap₂ max (ap₂ (λ m n. max (1 + m) (1 + n)) (as_deep k) (as_deep t)) (pairs_as_deep ps)

module _ {schema : List Shape} {room : ℕ} (x : Extensions) (m : ℕ) (le : m ≤ room) (base : ℕ → ℕ) (i : ℕ) (s : slice_get schema i ≡ Some any_value) where
  pub part_any_value : (bare : Bool) (before : Text) → Part room (step schema) bare (IsDataOf schema room 0 i) (read_any_value x m bare before)
      (read_any_value x room bare before) (ValueText x room bare before) (After bare) (size schema base bare i)
  part_any_value bare before = part_more
      (part_means value_data is_data ((any_within (omega (arith, step_is schema)) x.unwrap_variant_newtypes m room le).part bare before)) (enough bare)
    where
      is_data : (t : Tree) (d : Data) → IsValueIn room 0 t → value_data t ≡ Some d → IsDataOf schema room 0 i d
      is_data t d v e = let same : value_of t ≡ d = cc in let deep = as_deep t in rw (← same) (record { of_shape = λ _. (s, v.value) })

      enough : (bare : Bool) → bare_levels bare + 0 ≤ size schema base bare i
      enough false = omega arith
      enough true = omega arith

pub any_value_opens : (x : Extensions) (room : ℕ) (before : Text) → Opens (ValueText x room false before)
any_value_opens x room before = first_means ((any_within {step = 6} (omega arith) x.unwrap_variant_newtypes room room (omega arith)).opens before)
