-- With suffixes a value in order is its own normal form, and is read back as it is.
use Rattle.std.proofs.Common.{◌≡◌, true, ◌⊎◌, inl, inr, refl, sym, ap, ap₂, subst, ◌∙◌}
use Rattle.ron_spec_words.specs.Characters.{Text}
use Rattle.ron_value.specs.Tree.{Tree, pairs_from}
use Rattle.ron_value.specs.Tree as tree
use Rattle.std.specs.List.Sorted.{IsStrictlySortedBy}
use Rattle.ron_value.specs.Order.{tree_cmp}
use Rattle.ron_value.specs.Ordered.{keys_in, IsOrdered, AreItemsOrdered, ArePairsOrdered}
use Rattle.ron_spec_grammar.specs.Data.{Data, value_of}
use Rattle.ron_spec_grammar.specs.Document.{Document}
use Rattle.ron_spec_grammar.specs.Rule.{Extensions}
use Rattle.ron_spec_grammar.specs.Values.Trees.{normal, normal_items, normal_pairs}
use Rattle.ron_spec_grammar.proofs.Values.Maps.{Ascends, put_ascending}
use Rattle.ron_spec_layout.proofs.Ample.{ample}
use Rattle.ron_spec_layout.specs.Encodable.{is_encodable}
use Rattle.ron_spec_layout.specs.Layout.{extensions_under, full_layout}
use Rattle.ron_spec_layout.specs.Back.{back, back_first}
use Rattle.ron_spec_layout.specs.ValueStatement.{IsValueKept}
use Rattle.ron_spec_layout.proofs.Closed.{Closed}
use Rattle.ron_spec_layout.proofs.Whole.{whole}

ascending : (ps : tree.Pairs) → pairs_from (normal_pairs true ps) ≡ ps → IsOrdered (tree.mapping ps) → Ascends (normal_pairs true ps)
ascending ps e o = subst (λ qs. IsStrictlySortedBy tree_cmp (keys_in qs)) (sym e) o.0

mutual
  pub own : (t : Tree) → IsOrdered t → normal true t ≡ t
  own (tree.boolean b) o = refl
  own (tree.character c) o = refl
  own (tree.mapping ps) o = let e = own_pairs ps o.1 in
      ap (λ es. tree.mapping (pairs_from es)) (put_ascending (normal_pairs true ps) (ascending ps e o)) ∙ ap tree.mapping e
  own (tree.number w n) o = refl
  own tree.none o = refl
  own (tree.some t) o = ap tree.some (own t o)
  own (tree.text bs) o = refl
  own (tree.bytes bs) o = refl
  own (tree.sequence ts) o = ap tree.sequence (own_items ts o)
  own tree.unit o = refl

  own_items : (ts : tree.Items) → AreItemsOrdered ts → normal_items true ts ≡ ts
  own_items tree.no_items o = refl
  own_items (tree.item_and t ts) o = ap₂ tree.item_and (own t o.0) (own_items ts o.1)

  own_pairs : (ps : tree.Pairs) → ArePairsOrdered ps → pairs_from (normal_pairs true ps) ≡ ps
  own_pairs tree.no_pairs o = refl
  own_pairs (tree.pair_and k t ps) o =
      ap₂ (λ a b. tree.pair_and a b (pairs_from (normal_pairs true ps))) (own k o.0) (own t o.1) ∙ ap (tree.pair_and k t) (own_pairs ps o.2)

pub value_kept : IsValueKept
value_kept c defaults schema root t suffixes explicit blank well o en =
    let encodable : is_encodable (extensions_under defaults c).implicit_some (value_of t) ≡ true =
    subst (λ b. is_encodable b (value_of t) ≡ true) (sym explicit) en in
    let z = whole c defaults schema root (value_of t) (record { blank = blank; ends = λ e. absurd (cc) }) well o encodable refl in
    (ample (value_of t), subst (λ d. Document defaults schema root (ample (value_of t)) (full_layout defaults c (value_of t)) d) (go z.value z.form) z.document)
  where
    x : Extensions
    x = extensions_under defaults c

    same : value_of (normal c.number_suffixes t) ≡ value_of t
    same = ap (λ s. value_of (normal s t)) suffixes ∙ ap value_of (own t o.1.ordered)

    go : (v : Data) → ((v ≡ back_first c x 0 (value_of t)) ⊎ ((lead : Text) × Closed lead × (v ≡ back c x 0 lead (value_of t)))) → v ≡ value_of t
    go v (inl e) = e ∙ same
    go v (inr e) = e.2 ∙ same
