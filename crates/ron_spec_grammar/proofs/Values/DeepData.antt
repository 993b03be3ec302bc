-- Data that is no deeper than the room: for what is made of values, and not of texts.
use Rattle.std.proofs.Common.{◌≡◌, ℕ, suc, ◌+◌, ◌≤◌, true, false, ◌⊎◌, inl, inr, List, [], ◌∷◌, Some, find, refl, sym, ap, ◌∙◌, arith}
use Rattle.std.specs.List.{list_any, list_all}
use Rattle.ron_spec_words.proofs.Values.{Each}
use Rattle.ron_spec_grammar.specs.Data.{Data, Fields, no_fields}
use Rattle.ron_spec_grammar.specs.Schema.{Field, Shape, is_named, is_called, names_of, in_order, names_differ, has_distinct_names, OfShape, OfFields}
use Rattle.ron_spec_grammar.specs.Depth.{least_depth, fields_depth}
use Rattle.ron_spec_grammar.specs.Shapes.Struct.{Item, is_of, arranged}
use Rattle.ron_spec_grammar.proofs.Finding.{same_is, find_some, found_any, IsFound, names_parts, IsKnown, known_found, named_called}
use Rattle.ron_spec_grammar.proofs.Orders.{there_first, missing_first}
use Rattle.ron_spec_grammar.proofs.Shapes.Struct.{FromItem, with_item_is}

-- data of the shape at an index, where the names of each shape differ, and no deeper than the room, k levels down
pub record IsDataOf (schema : List Shape) (room k i : ℕ) (d : Data) : Type 0 where
  pub of_shape : list_all has_distinct_names schema ≡ true → OfShape schema i d
  pub no_deeper : least_depth d + k ≤ room

-- an item is a field's, with data of its shape, or that of none, one level below the k levels of what holds the fields
abbrev pub ItemOf : List Shape → ℕ → ℕ → List Field → Item → Type 0
ItemOf schema room k fields item =
    ((f : Field) × IsKnown fields f × (item.0 ≡ f.name) × IsDataOf schema room (suc k) f.shape item.1)
    ⊎ ((list_any (is_called item.0) fields ≡ false) × (least_depth item.1 + suc k ≤ room))

item_deep : (schema : List Shape) (room k : ℕ) (fields : List Field) (item : Item) → ItemOf schema room k fields item → least_depth item.1 + suc k ≤ room
item_deep schema room k fields item (inl z) = z.3.no_deeper
item_deep schema room k fields item (inr z) = z.1

-- the item of a field's name is the field's
item_known : (schema : List Shape) (room k : ℕ) (fields : List Field) (f : Field) (item : Item) → item.0 ≡ f.name → find (is_named f.name) fields ≡ Some f
    → list_all has_distinct_names schema ≡ true → Each (IsFound fields) fields → ItemOf schema room k fields item
    → (g : Field) × (find (is_named item.0) fields ≡ Some g) × OfShape schema g.shape item.1
item_known schema room k fields f item named there formed found (inl z) =
    (z.0, ap (λ n. find (is_named n) fields) z.2 ∙ known_found fields z.0 found z.1, z.3.of_shape formed)
item_known schema room k fields f item named there formed found (inr z) = absurd (let e : true ≡ false =
    sym (named_called f.name fields (found_any (is_named f.name) fields f there)) ∙ ap (λ n. list_any (is_called n) fields) (sym named) ∙ z.0 in cc)

module _ (schema : List Shape) (room k : ℕ) (all : List Field) (xs : List Item) (items : Each (ItemOf schema room k all) xs) where
  abbrev ArrangedAs : List Field → Fields → Type 0
  ArrangedAs fields ds =
      (list_all has_distinct_names schema ≡ true → Each (IsFound all) all → Each (IsFound all) fields → names_differ fields ≡ true
      → (in_order fields (names_of ds) ≡ true) × OfFields schema all ds)
      × (k ≤ room → k + fields_depth ds ≤ room)

  pub arranged_is : (fields : List Field) (ds : Fields) → arranged fields xs ≡ Some ds → ArrangedAs fields ds
  unfolding IsFound
  arranged_is [] ds e = let same : no_fields ≡ ds = cc in
      rw (← same) (λ _ _ _ _. (refl, tt), λ le. (let none : k + 0 ≡ k = omega arith in omega (arith, le, none)))
  arranged_is (f ∷ fields) ds e = go (with_item_is f.may_be_missing (find (is_of f.name) xs) (arranged fields xs) ds e) (λ rest. arranged_is fields rest)
    where
      go : FromItem (find (is_of f.name) xs) (arranged fields xs) ds ⊎ ((f.may_be_missing ≡ true) × (arranged fields xs ≡ Some ds))
          → ((rest : Fields) → arranged fields xs ≡ Some rest → ArrangedAs fields rest) → ArrangedAs (f ∷ fields) ds
      go (inl z) ih =
          let item = z.0 in
          let g = find_some (ItemOf schema room k all) (is_of f.name) xs item z.2 items in
          let named : item.0 ≡ f.name = same_is item.0 f.name g.0 in
          let rest = ih z.1 z.3 in
          let low = item_deep schema room k all item g.1 in
          rw (← z.4) (
            λ formed whole found differ. (let d = names_parts f fields differ in let more = rest.0 formed whole found.1 d.1 in
                let own = item_known schema room k all f item named found.0 formed whole g.1 in
                (there_first f fields item.0 (names_of z.1) named more.0, (own.0, own.1, own.2, more.1))),
            λ le. (let w = rest.1 le in omega (arith, w, low)),
          )
      go (inr z) ih =
          let rest = ih ds z.1 in (
            λ formed whole found differ. (let d = names_parts f fields differ in let more = rest.0 formed whole found.1 d.1 in
                (missing_first f fields (names_of ds) z.0 d.0 more.0, more.1)),
            rest.1,
          )
