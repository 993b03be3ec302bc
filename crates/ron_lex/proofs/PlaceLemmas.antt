-- Of two places in a text, the later one has no lesser position.
use Rattle.std.proofs.Common.{◌≡◌, ◌⊎◌, inl, inr, ℕ, ◌+◌, ◌-◌, ◌<◌, ◌≤◌, ◌==◌, not, true, false, cond, [], ◌∷◌, ◌++◌, length, append_assoc, append-nil, refl}
use Rattle.std.proofs.Common.{sym, ap, subst, ◌∙◌, arith}
use Rattle.std.specs.List.{suffix_len, prefix_len, count_by}
use Rattle.std.proofs.lemmas.List.{append_cancel_right, length-drop, reverse-append}
use Rattle.std.proofs.lemmas.List.Sums.{suffix_len-le-length, sum_by-append}
use Rattle.ron_spec_words.specs.Characters.{Text}
use Rattle.ron_spec_words.specs.Position.{line_after, column_after}
use Rattle.ron_base.specs.declared.error.Position.{Position}
use Rattle.ron_base.specs.Place.{IsNotAfter}
use Rattle.ron_lex_text.specs.Stretch.{IsSuffix}
use Rattle.ron_lex.specs.Place.{IsPositionBefore}

-- the column counts the characters of the last line
column : (f : Text) → column_after f ≡ suffix_len (λ c. not (c == 10)) f + 1
column f = omega (arith, length-drop (length f - suffix_len (λ c. not (c == 10)) f) f, suffix_len-le-length (λ c. not (c == 10)) f)

column_one : (f : Text) (c : ℕ) → column_after (f ++ c ∷ []) ≡ cond (c == 10) 1 (column_after f + 1)
column_one f c =
    column (f ++ c ∷ []) ∙ ap (λ r. prefix_len (λ d. not (d == 10)) r + 1) (reverse-append f (c ∷ []))
    ∙ (elim (c == 10)
    as (λ b. cond (not b) (1 + suffix_len (λ d. not (d == 10)) f) 0 + 1 ≡ cond b 1 (column_after f + 1)) [ true ↦ refl | false ↦ omega (arith, column f) ])

line_one : (f : Text) (c : ℕ) → line_after (f ++ c ∷ []) ≡ cond (c == 10) (line_after f + 1) (line_after f)
line_one f c =
    ap (λ n. n + 1) (sum_by-append (λ d. cond (d == 10) 1 0) f (c ∷ []))
    ∙ (elim (c == 10)
    as (λ b. count_by (λ d. d == 10) f + (0 + cond b 1 0) + 1 ≡ cond b (line_after f + 1) (line_after f)) [ true ↦ omega arith | false ↦ omega arith ])

-- the place behind f doesn't come after the place behind g
abbrev Before : Text → Text → Type 0
Before f g = (line_after f < line_after g) ⊎ ((line_after f ≡ line_after g) × (column_after f ≤ column_after g))

before_one : (f : Text) (c : ℕ) → Before f (f ++ c ∷ [])
before_one f c = rw (line_one f c, column_one f c)
    (elim (c == 10) as (λ b. (line_after f < cond b (line_after f + 1) (line_after f)) ⊎ ((line_after f ≡ cond b (line_after f + 1) (line_after f))
    × (column_after f ≤ cond b 1 (column_after f + 1)))) [ true ↦ inl (omega arith) | false ↦ inr (refl, omega arith) ])

before_both : (f g h : Text) → Before f g → Before g h → Before f h
before_both f g h (inl a) (inl b) = inl (omega (arith, a, b))
before_both f g h (inl a) (inr b) = inl (omega (arith, a, b.0))
before_both f g h (inr a) (inl b) = inl (omega (arith, a.0, b))
before_both f g h (inr a) (inr b) = inr (a.0 ∙ b.0, omega (arith, a.1, b.1))

before : (f more : Text) → Before f (f ++ more)
before f [] = rw (append-nil f) (inr (refl, omega arith))
before f (c ∷ more) =
    let rest : Before (f ++ c ∷ []) (f ++ c ∷ more) = subst (Before (f ++ c ∷ [])) (append_assoc f (c ∷ []) more) (before (f ++ c ∷ []) more) in
    before_both f (f ++ c ∷ []) (f ++ c ∷ more) (before_one f c) rest

pub not_after : (text token_start rest : Text) (p q : Position) → IsPositionBefore text token_start p → IsPositionBefore text rest q → IsSuffix rest token_start
    → IsNotAfter p q
not_after text token_start rest p q a b end =
    let same : b.front ≡ a.front ++ end.front = append_cancel_right b.front (a.front ++ end.front) rest
    (sym b.split ∙ a.split ∙ ap (λ s. a.front ++ s) end.is ∙ sym (append_assoc a.front end.front rest)) in
    rw (a.line, a.col, b.line, b.col, same) (before a.front end.front)
