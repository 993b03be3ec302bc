-- Pending Somes that are written out around data, and that are not.
use Rattle.std.proofs.Common.{◌≡◌, ℕ, zero, suc, ◌+◌, Bool, true, false, ◌&&◌, ◌||◌, cond, refl, sym, ap, ◌∙◌, arith}
use Rattle.std.proofs.lemmas.Bool.{and_parts}
use Rattle.ron_spec_words.specs.Characters.{Text}
use Rattle.ron_value.specs.Tree.{Tree}
use Rattle.ron_value.specs.Tree as tree
use Rattle.ron_spec_grammar.specs.Data.{Data, the_none, some_of, tuple_of, tuple_struct_of, newtype_of, value_of, raw_of}
use Rattle.ron_spec_grammar.specs.Rule.{Extensions}
use Rattle.ron_spec_layout.specs.Statement.{somes}
use Rattle.ron_spec_layout.specs.Keeping.{value_keeps, keeps}
use Rattle.ron_spec_layout.specs.Brackets.{bracketed, in_some, in_somes, opens_as_option, tuple_text, behind_name}
use Rattle.ron_spec_layout.specs.Layout.{layout, value_layout, layout_within}
use Rattle.ron_spec_layout.specs.Config.{Docs, Config}

pub one_more : (n : ℕ) (t : Text) → in_somes n (in_some t) ≡ in_somes (suc n) t
one_more zero t = refl
one_more (suc n) t = ap in_some (one_more n t)

-- where no Some is pending, none is written out
pub no_somes : (bare : Bool) (t : Text) → tuple_text bare 0 t ≡ bracketed bare t
no_somes false t = refl
no_somes true t = go (opens_as_option t)
  where
    go : (b : Bool) → cond b t t ≡ t
    go true = refl
    go false = refl

pub layout-explicit : (c : Config) (x : Extensions) (level : ℕ) (docs : Docs) → x.implicit_some ≡ false → (bare : Bool) (n : ℕ) (d : Data)
    → layout_within c x level docs bare n (some_of d) ≡ in_some (layout c x level docs x.unwrap_variant_newtypes d)
unfolding layout_within
layout-explicit c x level docs e bare n d =
    ap (λ s. cond s (layout_within c x level docs bare (suc n) d) (in_some (layout c x level docs x.unwrap_variant_newtypes d))) e

module _ (c : Config) (x : Extensions) (level : ℕ) (docs : Docs) (implicit : x.implicit_some ≡ true) where
  pub layout-some : (bare : Bool) (n : ℕ) (d : Data) → layout_within c x level docs bare n (some_of d) ≡ layout_within c x level docs bare (suc n) d
  unfolding layout_within
  layout-some bare n d = rw implicit refl

  -- ---- values without a schema

  pub some_laid : (bare : Bool) (n : ℕ) (t : Tree) → value_layout c x level bare n (tree.some t) ≡ value_layout c x level bare (suc n) t
  unfolding value_layout
  some_laid bare n t = rw implicit refl

  pub value_kept : (t : Tree) (bare : Bool) (n : ℕ) → value_keeps t ≡ true → value_layout c x level bare n t ≡ in_somes n (value_layout c x level bare 0 t)
  unfolding value_layout
  value_kept tree.none bare n h = refl
  value_kept (tree.some t) bare n h = some_laid bare n t ∙ value_kept t bare (suc n) h ∙ sym (one_more n (value_layout c x level bare 0 t))
      ∙ ap (in_somes n) (sym (some_laid bare 0 t ∙ value_kept t bare 1 h))
  value_kept _ bare n h = absurd (cc)

  pub value_dropped : (t : Tree) (bare : Bool) (n : ℕ) → value_keeps t ≡ false → value_layout c x level bare n t ≡ value_layout c x level bare 0 t
  unfolding value_layout
  value_dropped tree.none bare n h = absurd (cc)
  value_dropped (tree.some t) bare n h = some_laid bare n t ∙ value_dropped t bare (suc n) h ∙ sym (some_laid bare 0 t ∙ value_dropped t bare 1 h)
  value_dropped _ bare n h = refl

  value_same_bare : (t : Tree) (n : ℕ) → value_keeps t ≡ true → value_layout c x level false n t ≡ value_layout c x level true n t
  unfolding value_layout
  value_same_bare tree.none n h = refl
  value_same_bare (tree.some t) n h = some_laid false n t ∙ value_same_bare t (suc n) h ∙ sym (some_laid true n t)
  value_same_bare _ n h = absurd (cc)

  -- ---- data

  pub kept : (d : Data) (bare : Bool) (n : ℕ) → keeps c x level docs bare d ≡ true
      → layout_within c x level docs bare n d ≡ in_somes n (layout c x level docs bare d)
  unfolding layout_within
  kept the_none bare n h = refl
  kept (some_of d) bare n h = layout-some bare n d ∙ kept d bare (suc n) h ∙ sym (one_more n (layout c x level docs bare d))
      ∙ ap (in_somes n) (sym (layout-some bare 0 d ∙ kept d bare 1 h))
  kept (tuple_of ds) false n h = absurd (cc)
  kept (tuple_of ds) true n h = rw h refl
  kept (tuple_struct_of name ds) false n h = absurd (cc)
  kept (tuple_struct_of name ds) true n h = rw h refl
  kept (newtype_of name d) bare n h = let k = and_parts (bare || x.unwrap_newtypes) (keeps c x level docs false d) h in rw k.0 (kept d false n k.1)
  kept (value_of t) bare n h = value_kept t bare n h
  kept (raw_of t) bare n h = refl
  kept _ bare n h = absurd (cc)

  pub dropped : (d : Data) (bare : Bool) (n : ℕ) → keeps c x level docs bare d ≡ false → layout_within c x level docs bare n d ≡ layout c x level docs bare d
  unfolding layout_within
  dropped the_none bare n h = absurd (cc)
  dropped (some_of d) bare n h = layout-some bare n d ∙ dropped d bare (suc n) h ∙ sym (layout-some bare 0 d ∙ dropped d bare 1 h)
  dropped (tuple_of ds) false n h = refl
  dropped (tuple_of ds) true n h = rw h refl
  dropped (tuple_struct_of name ds) false n h = refl
  dropped (tuple_struct_of name ds) true n h = rw h refl
  dropped (newtype_of name d) bare n h = go (bare || x.unwrap_newtypes) h (dropped d false n)
    where
      wrapped : Text
      wrapped = behind_name (c.struct_names || x.explicit_struct_names) false name (bracketed false (layout c x level docs false d))

      go : (b : Bool) → (b && keeps c x level docs false d) ≡ false → (keeps c x level docs false d ≡ false → layout_within c x level docs false n d
          ≡ layout c x level docs false d) → cond b (layout_within c x level docs false n d) wrapped ≡ cond b (layout c x level docs false d) wrapped
      go true k same = same k
      go false k same = refl
  dropped (value_of t) bare n h = value_dropped t bare n h
  dropped (raw_of t) bare n h = absurd (cc)
  dropped _ bare n h = refl

  -- what keeps Somes has one text, bare or not
  pub same_bare : (d : Data) (n : ℕ) → keeps c x level docs false d ≡ true → layout_within c x level docs false n d ≡ layout_within c x level docs true n d
  unfolding layout_within
  same_bare the_none n h = refl
  same_bare (some_of d) n h = layout-some false n d ∙ same_bare d (suc n) h ∙ sym (layout-some true n d)
  same_bare (newtype_of name d) n h = rw (and_parts x.unwrap_newtypes (keeps c x level docs false d) h).0 refl
  same_bare (value_of t) n h = value_same_bare t n h
  same_bare (raw_of t) n h = refl
  same_bare _ n h = absurd (cc)

  -- ---- Somes that are pending are Somes around the data

  pending_more : (bare : Bool) (m n : ℕ) (d : Data) → layout_within c x level docs bare (m + n) d ≡ layout_within c x level docs bare m (somes n d)
  pending_more bare m zero d = let none : m + 0 ≡ m = omega arith in ap (λ k. layout_within c x level docs bare k d) none
  pending_more bare m (suc n) d = let more : m + suc n ≡ suc m + n = omega arith in
      ap (λ k. layout_within c x level docs bare k d) more ∙ pending_more bare (suc m) n d ∙ sym (layout-some bare m (somes n d))

  pub pending : (bare : Bool) (n : ℕ) (d : Data) → layout_within c x level docs bare n d ≡ layout c x level docs bare (somes n d)
  pending bare n d = let none : n ≡ 0 + n = omega arith in ap (λ k. layout_within c x level docs bare k d) none ∙ pending_more bare 0 n d
