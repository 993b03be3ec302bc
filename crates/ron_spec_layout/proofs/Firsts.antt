-- The first n items of a list, and one more: their names and depths, and their texts with what stands before each.
use Rattle.std.proofs.Common.{◌≡◌, ℕ, zero, suc, ◌+◌, ◌<◌, ◌≤◌, max, Bool, true, false, List, [], ◌∷◌, ◌++◌, length, codes, Option, Some, None, length-take}
use Rattle.std.proofs.Common.{get_or, take, flat_map, drop, map, refl, sym, ap, ◌∙◌, append_assoc, append-nil, drop-cons, arith}
use Rattle.std.specs.List.{flat_map, list_all}
use Rattle.std.specs.Option.{option_or}
use Rattle.std.proofs.lemmas.List.{take_more, take-append-drop, map-append, length-map}
use Rattle.std.proofs.lemmas.List.Folds.{list_all_more, list_all_at}
use Rattle.ron_spec_words.specs.Characters.{Text}
use Rattle.ron_spec_grammar.specs.Data.{Datas, no_datas, data_and}
use Rattle.ron_spec_grammar.specs.Rule.{Extensions}
use Rattle.ron_spec_layout.specs.Layout.{layout_within, layout, numbered_texts, item_texts}
use Rattle.ron_spec_layout.specs.Config.{Docs, Config, Spacing, led_by, spaced, item_comment}

-- ---- the depth of the deepest, and the first name that cannot be written

abbrev pub deepest : {A : Type 0} → (A → ℕ) → List A → ℕ
deepest depth [] = 0
deepest depth (a ∷ xs) = max (depth a) (deepest depth xs)

abbrev pub first_name : {A : Type 0} → (A → Option Text) → List A → Option Text
first_name refused [] = None
first_name refused (a ∷ xs) = option_or (refused a) (first_name refused xs)

deepest-append : {A : Type 0} (depth : A → ℕ) (xs ys : List A) → deepest depth (xs ++ ys) ≡ max (deepest depth xs) (deepest depth ys)
deepest-append depth [] ys = omega arith
deepest-append depth (a ∷ xs) ys = omega (arith, deepest-append depth xs ys)

pub or_sides : (a b c : Option Text) → option_or a (option_or b c) ≡ option_or (option_or a b) c
or_sides None b c = refl
or_sides (Some name) b c = refl

first_name-append : {A : Type 0} (refused : A → Option Text) (xs ys : List A)
    → first_name refused (xs ++ ys) ≡ option_or (first_name refused xs) (first_name refused ys)
first_name-append refused [] ys = refl
first_name-append refused (a ∷ xs) ys =
    ap (option_or (refused a)) (first_name-append refused xs ys) ∙ or_sides (refused a) (first_name refused xs) (first_name refused ys)

-- where the names of the first ones can be written, the first that cannot stands behind them
first_name-drop : {A : Type 0} (refused : A → Option Text) (n : ℕ) (xs : List A) → first_name refused (take n xs) ≡ None
    → first_name refused xs ≡ first_name refused (drop n xs)
first_name-drop refused n xs h = ap (first_name refused) (sym (take-append-drop n xs)) ∙ first_name-append refused (take n xs) (drop n xs)
    ∙ ap (λ r. option_or r (first_name refused (drop n xs))) h

-- ---- one more

module _ {A : Type 0} (xs : List A) (n : ℕ) (a : A) (less : n < length xs) (is : a ≡ get_or xs n a) where
  one_more : take (n + 1) xs ≡ take n xs ++ a ∷ []
  one_more = take_more xs n a less ∙ ap (λ y. take n xs ++ y ∷ []) (sym is)

  pub names-more : (names : A → Bool) → list_all names (take n xs) ≡ true → names a ≡ true → list_all names (take (n + 1) xs) ≡ true
  names-more names h k = list_all_more names xs n a less ∙ rw (h, ← is, k) refl

  pub names-not : (names : A → Bool) → names a ≡ false → list_all names xs ≡ false
  names-not names h = list_all_at names xs n a less (ap names (sym is) ∙ h)

  pub first_name-more : (refused : A → Option Text) → first_name refused (take n xs) ≡ None → refused a ≡ None → first_name refused (take (n + 1) xs) ≡ None
  first_name-more refused h k = ap (first_name refused) one_more ∙ first_name-append refused (take n xs) (a ∷ []) ∙ rw (h, k) refl

  pub first_name-behind : (refused : A → Option Text) → first_name refused (take n xs) ≡ None → (name : Text) → refused a ≡ Some name
      → first_name refused xs ≡ Some name
  first_name-behind refused h name e =
      first_name-drop refused n xs h ∙ ap (first_name refused) (drop-cons xs n a less ∙ ap (λ y. y ∷ drop (suc n) xs) (sym is)) ∙ rw e refl

  pub deepest-more : (depth : A → ℕ) → deepest depth (take (n + 1) xs) ≡ max (deepest depth (take n xs)) (depth a)
  deepest-more depth = ap (deepest depth) one_more ∙ omega (arith, deepest-append depth (take n xs) (a ∷ []))

  pub deepest-at : (depth : A → ℕ) → depth a ≤ deepest depth xs
  deepest-at depth = let e = ap (deepest depth) (take-append-drop (n + 1) xs) in
      omega (arith, e, deepest-more depth, deepest-append depth (take (n + 1) xs) (drop (n + 1) xs))

-- ---- what stands before an item, and behind all

abbrev pub before_item : Spacing → ℕ → Text
before_item s zero = s.first
before_item s (suc n) = codes "," ++ s.between

-- before one of a list, at its level
abbrev pub before_numbered : Config → ℕ → Spacing → ℕ → Text
before_numbered c level s n = before_item s n ++ item_comment c level n

-- nothing where there is no item
abbrev pub behind_items : Spacing → List Text → Text
behind_items s [] = []
behind_items s (t ∷ ts) = s.last

-- each text behind what stands before the item of its number; the first has this number
abbrev pub laid_from : (ℕ → Text) → ℕ → List Text → Text
laid_from before k [] = []
laid_from before k (t ∷ ts) = (before k ++ t) ++ laid_from before (suc k) ts

behind_first : (s : Spacing) (k : ℕ) (ts : List Text) → flat_map (λ t. codes "," ++ t) (led_by s.between s.between ts) ≡ laid_from (before_item s) (suc k) ts
behind_first s k [] = refl
behind_first s k (t ∷ ts) = ap (λ u. (codes "," ++ (s.between ++ t)) ++ u) (behind_first s (suc k) ts)

pub spaced_is : (s : Spacing) (ts : List Text) → spaced s ts ≡ laid_from (before_item s) 0 ts ++ behind_items s ts
spaced_is s [] = refl
spaced_is s (t ∷ ts) = ap (λ u. ((s.first ++ t) ++ u) ++ s.last) (behind_first s 0 ts)

module _ (c : Config) (x : Extensions) (level : ℕ) (docs : Docs) (s : Spacing) where
  numbered_from : (k : ℕ) (ds : Datas)
      → laid_from (before_item s) k (numbered_texts c x level docs k ds) ≡ laid_from (before_numbered c level s) k (item_texts c x level docs ds)
  unfolding layout_within
  numbered_from k no_datas = refl
  numbered_from k (data_and d ds) = ap (λ u. u ++ laid_from (before_item s) (suc k) (numbered_texts c x level docs (suc k) ds))
      (sym (append_assoc (before_item s k) (item_comment c level k) (layout c x level docs false d)))
      ∙ ap (λ u. ((before_item s k ++ item_comment c level k) ++ layout c x level docs false d) ++ u) (numbered_from (suc k) ds)

  -- a list's comments stand before its items
  pub numbered_is : (ds : Datas) → spaced s (numbered_texts c x level docs 0 ds)
      ≡ laid_from (before_numbered c level s) 0 (item_texts c x level docs ds) ++ behind_items s (item_texts c x level docs ds)
  unfolding layout_within
  numbered_is no_datas = refl
  numbered_is (data_and d ds) = spaced_is s (numbered_texts c x level docs 0 (data_and d ds)) ∙ ap (λ u. u ++ s.last) (numbered_from 0 (data_and d ds))

-- ---- the first n, and one more

module _ (before : ℕ → Text) where
  laid_from-append : (k : ℕ) (ts us : List Text) → laid_from before k (ts ++ us) ≡ laid_from before k ts ++ laid_from before (k + length ts) us
  laid_from-append k [] us = let same : k ≡ k + 0 = omega arith in ap (λ n. laid_from before n us) same
  laid_from-append k (t ∷ ts) us =
      let same : suc k + length ts ≡ k + suc (length ts) = omega arith in
      ap (λ u. (before k ++ t) ++ u) (laid_from-append (suc k) ts us ∙ ap (λ n. laid_from before (suc k) ts ++ laid_from before n us) same)
      ∙ sym (append_assoc (before k ++ t) (laid_from before (suc k) ts) (laid_from before (k + suc (length ts)) us))

  -- the texts of the first n
  abbrev pub so_far : {A : Type 0} → (A → Text) → ℕ → List A → Text
  so_far text n xs = laid_from before 0 (map text (take n xs))

  pub so_far-more : {A : Type 0} (xs : List A) (n : ℕ) (a : A) → n < length xs → a ≡ get_or xs n a → (text : A → Text)
      → so_far text (n + 1) xs ≡ so_far text n xs ++ (before n ++ text a)
  so_far-more xs n a less is text =
      let more : take (n + 1) xs ≡ take n xs ++ a ∷ [] = take_more xs n a less ∙ ap (λ y. take n xs ++ y ∷ []) (sym is) in
      let many : 0 + length (map text (take n xs)) ≡ n = simp (length-map, length-take) (omega arith) in
      ap (λ ys. laid_from before 0 (map text ys)) more ∙ ap (laid_from before 0) (map-append text (take n xs) (a ∷ []))
      ∙ laid_from-append 0 (map text (take n xs)) (text a ∷ [])
      ∙ ap (λ m. so_far text n xs ++ ((before m ++ text a) ++ [])) many ∙ ap (λ u. so_far text n xs ++ u) (append-nil (before n ++ text a))

  -- the whole begins with the first n
  pub so_far-front : {A : Type 0} (text : A → Text) (n : ℕ) (xs : List A) → (rest : Text) × (laid_from before 0 (map text xs) ≡ so_far text n xs ++ rest)
  so_far-front text n xs =
      let front = map text (take n xs) in (
        laid_from before (0 + length front) (map text (drop n xs)),
        ap (laid_from before 0) (ap (map text) (sym (take-append-drop n xs)) ∙ map-append text (take n xs) (drop n xs))
            ∙ laid_from-append 0 front (map text (drop n xs)),
      )
