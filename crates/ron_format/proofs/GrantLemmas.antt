-- What the permission of an edge computes to: for `grant.rt`.
use Rattle.std.proofs.Common.{◌≡◌, Bool, true, false, ◌&&◌, ◌==◌, if◌then◌else◌, List, [], ◌∷◌, ◌++◌, refl, sym, ap, ap₂, ◌∙◌}
use Rattle.std.proofs.lemmas.Slice.Eq.{bytes_eq-Decides}
use lib.Pointwise.{pointwise}
use Rattle.ron_spec_words.specs.Characters.{Text}
use Rattle.ron_spec_words.specs.Runs.{is_ended, same_text}
use Rattle.ron_spec_words.specs.Gap.{skip}
use Rattle.ron_format_words.specs.Alike.{Before}
use Rattle.ron_format_words.specs.Edge.{is_closed, permitted, granted}

-- a comma alone is left exactly where nothing stands before it
comma_alone : (r : Text) → same_text (r ++ 44 ∷ []) (44 ∷ []) ≡ is_ended r
comma_alone [] = refl
comma_alone (c ∷ []) = elim (c == 44) as (λ b. (b && false) ≡ false) [ true ↦ refl | false ↦ refl ]
comma_alone (c ∷ d ∷ r) = elim (c == 44) as (λ b. (b && false) ≡ false) [ true ↦ refl | false ↦ refl ]

pub closed_by_rest : (gap rest : Text) → skip (gap ++ 44 ∷ []) ≡ rest ++ 44 ∷ [] → is_closed gap ≡ is_ended rest
closed_by_rest gap rest e = ap (λ x. same_text x (44 ∷ [])) e ∙ comma_alone rest

pub left_open : (gap : Text) → skip (gap ++ 44 ∷ []) ≡ [] → is_closed gap ≡ false
left_open gap e = ap (λ x. same_text x (44 ∷ [])) e

-- the edge stays the edge, whatever is permitted
pub granted_same : (commas : Bool) (b : Before) (edge wish rest : Text) → same_text edge wish ≡ true → granted commas b edge wish rest ≡ edge
unfolding granted
granted_same commas b edge wish rest e =
    let same : edge ≡ wish = (bytes_eq-Decides edge wish).0 e in
    rw (sym same) (elim (permitted commas b edge edge rest) as (λ x. (if x then edge else edge) ≡ edge) [ true ↦ refl | false ↦ refl ])

-- ---- the comments of two edges, pair by pair

module _ (one other : List Text) (all : Bool) (so_far : pointwise same_text one other ≡ all) where
  pub pair_same : (x y : Text) (behind further : List Text) → one ≡ x ∷ behind → other ≡ y ∷ further → same_text x y ≡ true
      → pointwise same_text behind further ≡ all
  pair_same x y behind further e f h = sym (ap₂ (λ a b. pointwise same_text a b) e f ∙ ap (λ t. t && pointwise same_text behind further) h) ∙ so_far

  pub pair_apart : (x y : Text) (behind further : List Text) → one ≡ x ∷ behind → other ≡ y ∷ further → same_text x y ≡ false → false ≡ all
  pair_apart x y behind further e f h = sym (ap₂ (λ a b. pointwise same_text a b) e f ∙ ap (λ t. t && pointwise same_text behind further) h) ∙ so_far

  pub one_more : (x : Text) (behind : List Text) → one ≡ x ∷ behind → other ≡ [] → false ≡ all
  one_more x behind e f = sym (ap₂ (λ a b. pointwise same_text a b) e f) ∙ so_far

  pub other_more : (y : Text) (further : List Text) → one ≡ [] → other ≡ y ∷ further → false ≡ all
  other_more y further e f = sym (ap₂ (λ a b. pointwise same_text a b) e f) ∙ so_far

  pub none_more : one ≡ [] → other ≡ [] → true ≡ all
  none_more e f = sym (ap₂ (λ a b. pointwise same_text a b) e f) ∙ so_far
