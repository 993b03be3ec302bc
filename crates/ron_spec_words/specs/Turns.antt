-- A bracketed list from a place within it, for code that reads item by item.
use Rattle.std.specs.Prelude.{ℕ, List, [], ◌∷◌, Option}
use Rattle.ron_spec_words.specs.Characters.{Text}
use Rattle.ron_spec_words.specs.Reader.{Reader, mark, and_then, meant, items_from}

-- the items in the order in which they were read, from those that were seen, the last of them first, and those behind them
abbrev pub all_items : {A : Type 0} → List A → List A → List A
all_items [] xs = xs
all_items (a ∷ seen) xs = all_items seen (a ∷ xs)

-- what is read from here on, up to and past the closing character, where these items stand before the place; f is what all items mean
unfoldable pub rest_of_group : {A B : Type 0} → (List A → Text → Reader A) → ℕ → (List A → Option B) → List A → Text → Reader B
rest_of_group r close f seen before s = and_then (meant (items_from r close seen before s) (λ xs. f (all_items seen xs))) (λ b _. mark close b)
