-- Levels as code knows them, up to the configuration's limit: past it all of them are laid out alike. For what stands around items.
use Rattle.std.proofs.Common.{◌≡◌, ℕ, zero, suc, ◌+◌, ◌-◌, nat_lt, Bool, true, false, cond, List, [], ◌∷◌, ◌++◌, map, encode_utf8_all, length, refl, sym, ap}
use Rattle.std.proofs.Common.{◌∙◌, arith}
use Rattle.std.proofs.lemmas.Bool.{le-leb, ltb-false}
use Rattle.std.proofs.lemmas.Str.{encodes-append}
use Rattle.ron_spec_words.specs.Characters.{Text}
use Rattle.ron_spec_grammar.specs.Data.{Datas, Pairs, Fields}
use Rattle.ron_value.specs.Tree as tree
use Rattle.ron_spec_layout.specs.Config.{Spacing, inner_level, spaced, item_comment}
use Rattle.ron_spec_layout.specs.Layout.{numbered_texts, item_texts, pair_texts, field_texts, value_texts, entry_texts}
use Rattle.ron_spec_layout.proofs.PastLimit.{numbered_past_limit, items_past_limit, pairs_past_limit, fields_past_limit, values_past_limit, entries_past_limit}
use Rattle.ron_spec_layout.proofs.Firsts.{before_item, before_numbered, laid_from, behind_items, spaced_is}
use Rattle.ron_spec_layout.proofs.Bytes.{bytes-laid}
use Rattle.ron_ser.specs.declared.container.Container.{Container}
use Rattle.ron_ser.specs.declared.container.Container.TheVariants as container
use Rattle.ron_ser.specs.Place.{Place, next_level, is_compact, is_list, spacing_in, inside, before_any, before, behind}

-- ---- levels past the limit

-- Where a level more changes nothing past the limit, the next level stands for the level further in.
module _ {A : Type 0} (limit : ℕ) (f : ℕ → A) (past : (level : ℕ) → nat_lt limit level ≡ true → f (suc level) ≡ f level) where
  all_past : (k level : ℕ) → level ≡ k + limit → f (suc level) ≡ f (suc limit)
  all_past zero level e = let same : level ≡ limit = omega (arith, e) in ap (λ l. f (suc l)) same
  all_past (suc k) level e = let one : level ≡ suc (k + limit) = omega (arith, e) in
      ap (λ l. f (suc l)) one ∙ past (suc (k + limit)) (le-leb (suc limit) (suc (k + limit)) (omega arith)) ∙ all_past k (k + limit) refl

  pub same_next : (level : ℕ) → f (suc level) ≡ f (next_level limit level)
  same_next level = go (nat_lt level limit) refl
    where
      go : (b : Bool) → nat_lt level limit ≡ b → f (suc level) ≡ f (cond b (suc level) (suc limit))
      go true e = refl
      go false e = let more : level ≡ (level - limit) + limit = (let le = ltb-false level limit e in omega (arith, le)) in all_past (level - limit) level more

  pub same_inner : (compact : Bool) (level : ℕ) → f (inner_level compact level) ≡ f (cond compact level (next_level limit level))
  same_inner true level = refl
  same_inner false level = same_next level

-- ---- the texts of items, at the level where code writes them

module _ (p : Place) (k : Container) where
  pub numbered_inside : (n : ℕ) (ds : Datas) → numbered_texts p.config p.extensions (inner_level (is_compact p.config k) p.level) p.docs n ds
      ≡ numbered_texts p.config p.extensions (inside k p).level p.docs n ds
  numbered_inside n ds = same_inner p.config.depth_limit (λ l. numbered_texts p.config p.extensions l p.docs n ds)
      (λ l h. numbered_past_limit p.config p.extensions ds l h p.docs n) (is_compact p.config k) p.level

  pub items_inside : (ds : Datas)
      → item_texts p.config p.extensions (inner_level (is_compact p.config k) p.level) p.docs ds ≡ item_texts p.config p.extensions (inside k p).level p.docs ds
  items_inside ds = same_inner p.config.depth_limit (λ l. item_texts p.config p.extensions l p.docs ds)
      (λ l h. items_past_limit p.config p.extensions ds l h p.docs) (is_compact p.config k) p.level

  pub pairs_inside : (ps : Pairs)
      → pair_texts p.config p.extensions (inner_level (is_compact p.config k) p.level) p.docs ps ≡ pair_texts p.config p.extensions (inside k p).level p.docs ps
  pairs_inside ps = same_inner p.config.depth_limit (λ l. pair_texts p.config p.extensions l p.docs ps)
      (λ l h. pairs_past_limit p.config p.extensions ps l h p.docs) (is_compact p.config k) p.level

  pub fields_inside : (fs : Fields) → field_texts p.config p.extensions (inner_level (is_compact p.config k) p.level) p.docs fs
      ≡ field_texts p.config p.extensions (inside k p).level p.docs fs
  fields_inside fs = same_inner p.config.depth_limit (λ l. field_texts p.config p.extensions l p.docs fs)
      (λ l h. fields_past_limit p.config p.extensions fs l h p.docs) (is_compact p.config k) p.level

  pub values_inside : (n : ℕ) (ts : tree.Items)
      → value_texts p.config p.extensions (inner_level (is_compact p.config k) p.level) n ts ≡ value_texts p.config p.extensions (inside k p).level n ts
  values_inside n ts = same_inner p.config.depth_limit (λ l. value_texts p.config p.extensions l n ts) (λ l h. values_past_limit p.config p.extensions ts l h n)
      (is_compact p.config k) p.level

  pub entries_inside : (ps : tree.Pairs)
      → entry_texts p.config p.extensions (inner_level (is_compact p.config k) p.level) ps ≡ entry_texts p.config p.extensions (inside k p).level ps
  entries_inside ps = same_inner p.config.depth_limit (λ l. entry_texts p.config p.extensions l ps) (λ l h. entries_past_limit p.config p.extensions ps l h)
      (is_compact p.config k) p.level

-- ---- what stands around items

abbrev pub before_bytes : Place → Container → ℕ → List ℕ
before_bytes p k n = encode_utf8_all (before p k n)

abbrev pub behind_bytes : Place → Container → ℕ → List ℕ
behind_bytes p k n = encode_utf8_all (behind p k n)

same_before : (s : Spacing) (n : ℕ) → before_item s n ≡ before_any s n
same_before s zero = refl
same_before s (suc n) = refl

pub laid_same : (f g : ℕ → Text) → ((n : ℕ) → f n ≡ g n) → (k : ℕ) (ts : List Text) → laid_from f k ts ≡ laid_from g k ts
laid_same f g e k [] = refl
laid_same f g e k (t ∷ ts) = rw (e k, laid_same f g e (suc k) ts) refl

behind_same : (p : Place) (k : Container) (ts : List Text) → behind_items (spacing_in p k) ts ≡ behind p k (length ts)
behind_same p k [] = refl
behind_same p k (t ∷ ts) = refl

-- the texts of any container but a list, each behind what stands before it
pub spaced_in : (p : Place) (k : Container) → is_list k ≡ false → (ts : List Text)
    → spaced (spacing_in p k) ts ≡ laid_from (before p k) 0 ts ++ behind_items (spacing_in p k) ts
spaced_in p k e ts =
    spaced_is (spacing_in p k) ts ∙ ap (λ u. u ++ behind_items (spacing_in p k) ts) (laid_same (before_item (spacing_in p k)) (before p k) same 0 ts)
  where
    same : (n : ℕ) → before_item (spacing_in p k) n ≡ before p k n
    same n = same_before (spacing_in p k) n
        ∙ sym (ap (λ b. cond b (before_any (spacing_in p k) n ++ item_comment p.config (inside k p).level n) (before_any (spacing_in p k) n)) e)

-- those of a list, behind their comments
pub numbered_in : (p : Place) (ts : List Text)
    → laid_from (before_numbered p.config (inside container.List p).level (spacing_in p container.List)) 0 ts ≡ laid_from (before p container.List) 0 ts
numbered_in p ts = laid_same (before_numbered p.config (inside container.List p).level (spacing_in p container.List)) (before p container.List)
    (λ n. ap (λ u. u ++ item_comment p.config (inside container.List p).level n) (same_before (spacing_in p container.List) n)) 0 ts

map_map : {A : Type 0} (text : A → Text) (bytes : A → List ℕ) → ((a : A) → encode_utf8_all (text a) ≡ bytes a) → (xs : List A)
    → map encode_utf8_all (map text xs) ≡ map bytes xs
map_map text bytes e [] = refl
map_map text bytes e (a ∷ xs) = rw (e a, map_map text bytes e xs) refl

length_map : {A : Type 0} (text : A → Text) (xs : List A) → length (map text xs) ≡ length xs
length_map text [] = refl
length_map text (a ∷ xs) = ap suc (length_map text xs)

-- the bytes of texts with what stands before each, and behind all
pub laid_bytes : {A : Type 0} (p : Place) (k : Container) (text : A → Text) (bytes : A → List ℕ) → ((a : A) → encode_utf8_all (text a) ≡ bytes a)
    → (xs : List A)
    → encode_utf8_all (laid_from (before p k) 0 (map text xs) ++ behind_items (spacing_in p k) (map text xs))
    ≡ laid_from (before_bytes p k) 0 (map bytes xs) ++ behind_bytes p k (length xs)
laid_bytes p k text bytes e xs =
    encodes-append (laid_from (before p k) 0 (map text xs)) (behind_items (spacing_in p k) (map text xs))
    ∙ ap (λ u. u ++ encode_utf8_all (behind_items (spacing_in p k) (map text xs)))
    (bytes-laid (before p k) 0 (map text xs) ∙ ap (laid_from (before_bytes p k) 0) (map_map text bytes e xs))
    ∙ ap (λ u. laid_from (before_bytes p k) 0 (map bytes xs) ++ encode_utf8_all u) (behind_same p k (map text xs) ∙ ap (behind p k) (length_map text xs))
