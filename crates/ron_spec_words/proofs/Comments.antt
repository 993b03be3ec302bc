-- Laws of comments, of a line and in a block: for the laws of gaps.
use Rattle.std.proofs.Common.{◌≡◌, ℕ, zero, suc, ◌==◌, Bool, true, false, ◌&&◌, cond, [], ◌∷◌, ◌++◌, ◌⊎◌, inl, inr, Option, Some, refl, sym, ap, ap₂, subst}
use Rattle.std.proofs.Common.{◌∙◌, append_assoc, eqb-true}
use Rattle.std.proofs.lemmas.Bool.{and_parts, not-true}
use Rattle.ron_spec_words.specs.Characters.{Text}
use Rattle.ron_spec_words.specs.Runs.{Every, begins_with}
use Rattle.ron_spec_words.specs.Gap.{in_line, opens_block, closes_block, IsPlain, Inside, nothing, character, comment, after_line, after_block}

-- ---- line comments

pub line-end : (t s : Text) → Every in_line t → after_line (t ++ 10 ∷ s) ≡ s
line-end [] s h = refl
line-end (c ∷ t) s h = rw (not-true _ h.0) (line-end t s h.1)

pub line-last : (t : Text) → Every in_line t → after_line t ≡ []
line-last [] h = refl
line-last (c ∷ t) h = rw (not-true _ h.0) (line-last t h.1)

-- a text is a line and what follows it
pub record Line (s : Text) : Type 0 where
  pub line : Text
  pub every : Every in_line line
  pub ends : (s ≡ line ++ 10 ∷ after_line s) ⊎ ((s ≡ line) × (after_line s ≡ []))

pub line_found : (s : Text) → Line s
line_found [] = record { line = []; every = tt; ends = inr (refl, refl) }
line_found (c ∷ s) = go (c == 10) refl (line_found s)
  where
    go : (b : Bool) → (c == 10) ≡ b → Line s → Line (c ∷ s)
    go true e h = record { line = []; every = tt; ends = inl (rw e (ap (λ x. x ∷ s) (eqb-true c 10 e))) }
    go false e h = record { line = c ∷ h.line; every = (rw e refl, h.every); ends = rw e (more h.ends) }
      where
        more : (s ≡ h.line ++ 10 ∷ after_line s) ⊎ ((s ≡ h.line) × (after_line s ≡ []))
            → (◌≡◌ {A = Text} (c ∷ s) (c ∷ (h.line ++ 10 ∷ after_line s))) ⊎ ((◌≡◌ {A = Text} (c ∷ s) (c ∷ h.line)) × (after_line s ≡ []))
        more (inl k) = inl (ap (λ x. c ∷ x) k)
        more (inr k) = inr (ap (λ x. c ∷ x) k.0, k.1)

-- ---- block comments

-- what follows the inside of the innermost of n + 1 comments, behind its end
abbrev behind_end : ℕ → Text → Option Text
behind_end zero s = Some s
behind_end (suc n) s = after_block n s

block-turn : (n c d : ℕ) (s : Text) → after_block n (c ∷ d ∷ s)
    ≡ cond (closes_block (c ∷ d ∷ s)) (behind_end n s) (cond (opens_block (c ∷ d ∷ s)) (after_block (suc n) s) (after_block n (d ∷ s)))
block-turn zero c d s = refl
block-turn (suc n) c d s = refl

block-plain : (n c d : ℕ) (s : Text) → IsPlain (c ∷ d ∷ s) → after_block n (c ∷ d ∷ s) ≡ after_block n (d ∷ s)
block-plain n c d s h = block-turn n c d s ∙ rw (h.1, h.0) refl

block-character : (n c : ℕ) (t s : Text) → IsPlain (c ∷ (t ++ 42 ∷ 47 ∷ [])) → after_block n (c ∷ (t ++ 42 ∷ 47 ∷ s)) ≡ after_block n (t ++ 42 ∷ 47 ∷ s)
block-character n c [] s h = block-plain n c 42 (47 ∷ s) h
block-character n c (d ∷ t) s h = block-plain n c d (t ++ 42 ∷ 47 ∷ s) h

pub inside-end : {t : Text} → Inside t → (n : ℕ) (s : Text) → after_block n (t ++ 42 ∷ 47 ∷ s) ≡ behind_end n s
inside-end nothing n s = block-turn n 42 47 s
inside-end (character c t p h) n s = block-character n c t s p ∙ inside-end h n s
inside-end (comment inner t h k) n s =
    block-turn n 47 42 ((inner ++ 42 ∷ 47 ∷ t) ++ 42 ∷ 47 ∷ s)
    ∙ ap (after_block (suc n)) (append_assoc inner (42 ∷ 47 ∷ t) (42 ∷ 47 ∷ s))
    ∙ inside-end h (suc n) (t ++ 42 ∷ 47 ∷ s)
    ∙ inside-end k n s

-- a text is the insides of n + 1 comments, each with its end, and what follows them
Closed : ℕ → Text → Text → Type 0
Closed zero s rest = (t : Text) × Inside t × (s ≡ t ++ 42 ∷ 47 ∷ rest)
Closed (suc n) s rest = (t : Text) × (u : Text) × Inside t × (s ≡ t ++ 42 ∷ 47 ∷ u) × Closed n u rest

-- more stands before the first inside
prepend : (n : ℕ) (s whole rest : Text) (f : Text → Text) → ((t u : Text) → Inside t → s ≡ t ++ 42 ∷ 47 ∷ u → Inside (f t) × (whole ≡ f t ++ 42 ∷ 47 ∷ u))
    → Closed n s rest → Closed n whole rest
unfolding Closed
prepend zero s whole rest f h (t, i, e) = let k = h t rest i e in (f t, k.0, k.1)
prepend (suc n) s whole rest f h (t, u, i, e, m) = let k = h t u i e in (f t, u, k.0, k.1, m)

plain_front : (c d : ℕ) (s t u : Text) → IsPlain (c ∷ d ∷ s) → d ∷ s ≡ t ++ 42 ∷ 47 ∷ u → IsPlain (c ∷ (t ++ 42 ∷ 47 ∷ []))
plain_front c d s [] u h e = let k : d ≡ 42 = cc in subst (λ x. IsPlain (c ∷ x ∷ s)) k h
plain_front c d s (b ∷ t) u h e = let k : d ≡ b = cc in subst (λ x. IsPlain (c ∷ x ∷ s)) k h

-- the two characters of a mark
two_of : (a b c d : ℕ) (s : Text) → begins_with (a ∷ b ∷ []) (c ∷ d ∷ s) ≡ true → ◌≡◌ {A = Text} (c ∷ d ∷ s) (a ∷ b ∷ s)
two_of a b c d s e = let k = and_parts (c == a) ((d == b) && true) e in
    let m = and_parts (d == b) true k.1 in
    ap₂ (λ x y. x ∷ y ∷ s) (eqb-true c a k.0) (eqb-true d b m.0)

closed_here : (n c d : ℕ) (s rest : Text) → closes_block (c ∷ d ∷ s) ≡ true → behind_end n s ≡ Some rest
    → ((m : ℕ) → after_block m s ≡ Some rest → Closed m s rest) → Closed n (c ∷ d ∷ s) rest
unfolding Closed
closed_here zero c d s rest e q more = ([], nothing, two_of 42 47 c d s e ∙ ap (λ x. 42 ∷ 47 ∷ x) (let z : s ≡ rest = cc in z))
closed_here (suc n) c d s rest e q more = ([], s, nothing, two_of 42 47 c d s e, more n q)

opened_here : (n c d : ℕ) (s rest : Text) → opens_block (c ∷ d ∷ s) ≡ true → Closed (suc n) s rest → Closed n (c ∷ d ∷ s) rest
unfolding Closed
opened_here n c d s rest e (t, u, i, q, m) = prepend n u (c ∷ d ∷ s) rest (λ v. 47 ∷ 42 ∷ (t ++ 42 ∷ 47 ∷ v))
    (λ v w j k.
    (comment t v i j, two_of 47 42 c d s e ∙ ap (λ x. 47 ∷ 42 ∷ x) (q ∙ ap (λ x. t ++ 42 ∷ 47 ∷ x) k ∙ sym (append_assoc t (42 ∷ 47 ∷ v) (42 ∷ 47 ∷ w)))))
    m

block_closed : (n : ℕ) (s rest : Text) → after_block n s ≡ Some rest → Closed n s rest
block_closed n [] rest e = absurd (cc)
block_closed n (c ∷ []) rest e = absurd (cc)
block_closed n (c ∷ d ∷ s) rest e =
    go (closes_block (c ∷ d ∷ s)) refl (opens_block (c ∷ d ∷ s)) refl (sym (block-turn n c d s) ∙ e) (λ m. block_closed m s rest) (block_closed n (d ∷ s) rest)
  where
    go : (a : Bool) → closes_block (c ∷ d ∷ s) ≡ a → (b : Bool) → opens_block (c ∷ d ∷ s) ≡ b
        → cond a (behind_end n s) (cond b (after_block (suc n) s) (after_block n (d ∷ s))) ≡ Some rest
        → ((m : ℕ) → after_block m s ≡ Some rest → Closed m s rest) → (after_block n (d ∷ s) ≡ Some rest → Closed n (d ∷ s) rest) → Closed n (c ∷ d ∷ s) rest
    go true k b l q inner next = closed_here n c d s rest k q inner
    go false k true l q inner next = opened_here n c d s rest l (inner (suc n) q)
    go false k false l q inner next =
        prepend n (d ∷ s) (c ∷ d ∷ s) rest (λ t. c ∷ t) (λ t u i z. (character c t (plain_front c d s t u (l, k) z) i, ap (λ x. c ∷ x) z)) (next q)

-- the inside of a block comment, and what follows its end
pub record Block (s rest : Text) : Type 0 where
  pub inner : Text
  pub is_inside : Inside inner
  pub split : s ≡ inner ++ 42 ∷ 47 ∷ rest

pub block_found : (s rest : Text) → after_block 0 s ≡ Some rest → Block s rest
unfolding Closed
block_found s rest e = let k = block_closed 0 s rest e in record { inner = k.0; is_inside = k.1; split = k.2 }
