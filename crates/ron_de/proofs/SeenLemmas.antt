-- The items that were seen, the last of them first, say the same of the fields as the items in order, also where names that no field has stand among them.
use Rattle.std.proofs.Common.{◌≡◌, Bool, true, false, cond, ◌⊎◌, inl, inr, List, [], ◌∷◌, Some, find, refl, sym, ap, ap₂, ◌∙◌}
use Rattle.std.specs.List.{list_any}
use Rattle.std.specs.Option.{option_or}
use Rattle.ron_spec_words.specs.Characters.{Text}
use Rattle.ron_spec_words.specs.Turns.{all_items}
use Rattle.ron_spec_words.proofs.Values.{Each}
use Rattle.ron_spec_grammar.specs.Schema.{Field, is_named, is_called}
use Rattle.ron_spec_grammar.specs.Shapes.Struct.{Item, is_of, with_item, arranged}
use Rattle.ron_spec_grammar.proofs.Finding.{IsFound, found_any, same_is, named_called}
use Rattle.ron_spec_grammar.proofs.Seen.{none_found, or_none}

-- An item's name is none of those before it, or calls no field.
abbrev pub IsOnce : List Field → List Item → Item → Type 0
IsOnce fields seen item = (list_any (is_of item.0) seen ≡ false) ⊎ (list_any (is_called item.0) fields ≡ false)

-- So it is of each item.
abbrev pub AreOnce : List Field → List Item → Type 0
AreOnce fields [] = Unit {0}
AreOnce fields (item ∷ seen) = IsOnce fields seen item × AreOnce fields seen

module _ (fields : List Field) where
  -- of a field's name there is one item at most
  module _ (name : Text) (there : list_any (is_called name) fields ≡ true) where
    unseen : (seen : List Item) (item : Item) → IsOnce fields seen item → is_of name item ≡ true → list_any (is_of name) seen ≡ false
    unseen seen item (inl n) e = ap (λ m. list_any (is_of m) seen) (sym (same_is item.0 name e)) ∙ n
    unseen seen item (inr u) e = absurd (let q : true ≡ false = sym there ∙ ap (λ m. list_any (is_called m) fields) (sym (same_is item.0 name e)) ∙ u in cc)

    find_once : (seen xs : List Item) → AreOnce fields seen → find (is_of name) (all_items seen xs) ≡ option_or (find (is_of name) seen) (find (is_of name) xs)
    find_once [] xs h = refl
    find_once (item ∷ seen) xs h = find_once seen (item ∷ xs) h.1 ∙ go (is_of name item) refl
      where
        go : (b : Bool) → is_of name item ≡ b → option_or (find (is_of name) seen) (cond b (Some item) (find (is_of name) xs))
            ≡ option_or (cond b (Some item) (find (is_of name) seen)) (find (is_of name) xs)
        go true e = ap (λ o. option_or o (Some item)) (none_found (is_of name) seen (unseen seen item h.0 e))
        go false e = refl

  pub arranged_once : (seen : List Item) → AreOnce fields seen → (gs : List Field) → Each (IsFound fields) gs
      → arranged gs (all_items seen []) ≡ arranged gs seen
  unfolding IsFound
  arranged_once seen h [] t = refl
  arranged_once seen h (f ∷ gs) t = ap₂ (with_item f.may_be_missing) (find_once f.name (named_called f.name fields (found_any (is_named f.name) fields f t.0))
      seen [] h ∙ or_none (find (is_of f.name) seen)) (arranged_once seen h gs t.1)
