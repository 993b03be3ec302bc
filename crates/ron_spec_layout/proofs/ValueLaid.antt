-- A value in data is laid out as its own data, and what can be encoded of it is what the law of values asks.
use Rattle.std.proofs.Common.{◌≡◌, ℕ, suc, Bool, true, false, not, ◌&&◌, cond, ◌∷◌, ◌++◌, codes, refl, sym, ap, ap₂}
use Rattle.std.proofs.lemmas.Bool.{and_parts, and_from}
use Rattle.std.proofs.lemmas.Str.{IsUtf8-from_is_utf8}
use Rattle.ron_value.specs.Tree.{Tree}
use Rattle.ron_value.specs.Tree as tree
use Rattle.ron_spec_grammar.specs.Rule.{Extensions}
use Rattle.ron_spec_grammar.specs.Values.Trees.{lift, lift_items, lift_pairs}
use Rattle.ron_spec_layout.specs.Encodable.{value_encodable, values_encodable, entries_encodable, is_encodable, items_encodable, pairs_encodable}
use Rattle.ron_spec_layout.specs.Brackets.{in_some}
use Rattle.ron_spec_layout.specs.Layout.{value_layout, value_texts, entry_texts, layout_within, pair_texts, colon, numbered_texts}
use Rattle.ron_spec_layout.specs.ValueStatement.{HasTextsInUtf8, HaveTextsInUtf8, PairsInUtf8, holds_no_some, hold_no_some, pairs_hold_no_some, IsLaidAsData}
use Rattle.ron_spec_layout.specs.Config.{Docs, Config, spacing, inner_level, spaced, item_comment}
use Rattle.ron_spec_layout.proofs.ValueWords.{text_scalars}

-- ---- what can be encoded

-- what the law of values asks of a value, of items, and of pairs
pub record Told (implicit : Bool) (t : Tree) : Type 0 where
  pub texts : HasTextsInUtf8 t
  pub encodable : is_encodable false (lift t) ≡ true
  pub tells : implicit ≡ true → holds_no_some t ≡ true

record ItemsTold (implicit : Bool) (ts : tree.Items) : Type 0 where
  pub texts : HaveTextsInUtf8 ts
  pub encodable : items_encodable false (lift_items ts) ≡ true
  pub tells : implicit ≡ true → hold_no_some ts ≡ true

record PairsTold (implicit : Bool) (ps : tree.Pairs) : Type 0 where
  pub texts : PairsInUtf8 ps
  pub encodable : pairs_encodable false (lift_pairs ps) ≡ true
  pub tells : implicit ≡ true → pairs_hold_no_some ps ≡ true

-- a Some stands only where it is told
no_some : (implicit : Bool) (t : Tree) → not implicit ≡ true → implicit ≡ true → holds_no_some (tree.some t) ≡ true
no_some true t h i = absurd (cc)
no_some false t h i = absurd (cc)

mutual
  pub told_parts : (implicit : Bool) (t : Tree) → value_encodable implicit t ≡ true → Told implicit t
  told_parts implicit (tree.boolean b) h = record { texts = tt; encodable = refl; tells = λ i. refl }
  told_parts implicit (tree.character c) h = record { texts = tt; encodable = h; tells = λ i. refl }
  told_parts implicit (tree.mapping ps) h = let p = pairs_told implicit ps h in record { texts = p.texts; encodable = p.encodable; tells = p.tells }
  told_parts implicit (tree.number w n) h = record { texts = tt; encodable = refl; tells = λ i. refl }
  told_parts implicit tree.none h = record { texts = tt; encodable = refl; tells = λ i. refl }
  told_parts implicit (tree.some t) h = let a = and_parts (not implicit) (value_encodable implicit t) h in
      let p = told_parts implicit t a.1 in
      record { texts = p.texts; encodable = p.encodable; tells = no_some implicit t a.0 }
  told_parts implicit (tree.text bs) h = let u = IsUtf8-from_is_utf8 bs h in record { texts = u; encodable = text_scalars bs u; tells = λ i. refl }
  told_parts implicit (tree.bytes bs) h = record { texts = tt; encodable = h; tells = λ i. refl }
  told_parts implicit (tree.sequence ts) h = let p = items_told implicit ts h in record { texts = p.texts; encodable = p.encodable; tells = p.tells }
  told_parts implicit tree.unit h = record { texts = tt; encodable = refl; tells = λ i. refl }

  items_told : (implicit : Bool) (ts : tree.Items) → values_encodable implicit ts ≡ true → ItemsTold implicit ts
  items_told implicit tree.no_items h = record { texts = tt; encodable = refl; tells = λ i. refl }
  items_told implicit (tree.item_and t ts) h =
      let a = and_parts (value_encodable implicit t) (values_encodable implicit ts) h in
      let p = told_parts implicit t a.0 in
      let q = items_told implicit ts a.1 in record {
        texts = (p.texts, q.texts);
        encodable = and_from (is_encodable false (lift t)) (items_encodable false (lift_items ts)) p.encodable q.encodable;
        tells = λ i. and_from (holds_no_some t) (hold_no_some ts) (p.tells i) (q.tells i);
      }

  pairs_told : (implicit : Bool) (ps : tree.Pairs) → entries_encodable implicit ps ≡ true → PairsTold implicit ps
  pairs_told implicit tree.no_pairs h = record { texts = tt; encodable = refl; tells = λ i. refl }
  pairs_told implicit (tree.pair_and k t ps) h =
      let a = and_parts (value_encodable implicit k) (value_encodable implicit t && entries_encodable implicit ps) h in
      let b = and_parts (value_encodable implicit t) (entries_encodable implicit ps) a.1 in
      let o = told_parts implicit k a.0 in
      let p = told_parts implicit t b.0 in
      let q = pairs_told implicit ps b.1 in record {
        texts = (o.texts, p.texts, q.texts);
        encodable = and_from (is_encodable false (lift k)) (is_encodable false (lift t) && pairs_encodable false (lift_pairs ps)) o.encodable
            (and_from (is_encodable false (lift t)) (pairs_encodable false (lift_pairs ps)) p.encodable q.encodable);
        tells = λ i. and_from (holds_no_some k) (holds_no_some t && pairs_hold_no_some ps) (o.tells i)
            (and_from (holds_no_some t) (pairs_hold_no_some ps) (p.tells i) (q.tells i));
      }

module _ (c : Config) (x : Extensions) (docs : Docs) where
  mutual
    unfolding layout_within value_layout

    pub laid : (t : Tree) (level : ℕ) (bare : Bool) (n : ℕ) → layout_within c x level docs bare n (lift t) ≡ value_layout c x level bare n t
    laid (tree.boolean b) level bare n = refl
    laid (tree.character a) level bare n = refl
    laid (tree.mapping ps) level bare n =
        ap (λ ts. codes "{" ++ (spaced (spacing c c.compact_maps level) ts ++ codes "}")) (pairs_laid ps (inner_level c.compact_maps level))
    laid (tree.number w i) level bare n = refl
    laid tree.none level bare n = refl
    laid (tree.some t) level bare n = ap₂ (λ s u. cond x.implicit_some s (in_some u)) (laid t level bare (suc n)) (laid t level x.unwrap_variant_newtypes 0)
    laid (tree.text bs) level bare n = refl
    laid (tree.bytes bs) level bare n = refl
    laid (tree.sequence ts) level bare n =
        ap (λ ts. codes "[" ++ (spaced (spacing c c.compact_arrays level) ts ++ codes "]")) (items_laid ts (inner_level c.compact_arrays level) 0)
    laid tree.unit level bare n = refl

    items_laid : (ts : tree.Items) (level k : ℕ) → numbered_texts c x level docs k (lift_items ts) ≡ value_texts c x level k ts
    items_laid tree.no_items level k = refl
    items_laid (tree.item_and t ts) level k = ap₂ (λ s ss. (item_comment c level k ++ s) ∷ ss) (laid t level false 0) (items_laid ts level (suc k))

    pairs_laid : (ps : tree.Pairs) (level : ℕ) → pair_texts c x level docs (lift_pairs ps) ≡ entry_texts c x level ps
    pairs_laid tree.no_pairs level = refl
    pairs_laid (tree.pair_and k t ps) level =
        ap₂ (λ s ss. s ∷ ss) (ap₂ (λ s u. s ++ (colon c ++ u)) (laid k level false 0) (laid t level false 0)) (pairs_laid ps level)

pub laid_as_data : IsLaidAsData
unfolding layout_within
laid_as_data c x level docs bare n t = sym (laid c x docs t level bare n)
