-- The steps between values, beside the reader functions: for both readers.
use Rattle.std.proofs.Common.{◌≡◌, ℕ, ◌==◌, Bool, true, false, cond, [], ◌∷◌, Option, Some, None, refl, ap, ◌∙◌}
use Rattle.std.proofs.lemmas.Option.{same_Some}
use Rattle.ron_spec_words.specs.Characters.{Text}
use Rattle.ron_spec_words.specs.Gap.{skip, gap_of}
use Rattle.ron_spec_words.specs.Lang.{done}
use Rattle.ron_spec_words.specs.Reader.{bad, Got, got, failed, Reader, mark, in_sequence, and_then, after_gap, opt_comma}
use Rattle.ron_spec_words.specs.Runs.{is_at}
use Rattle.ron_spec_words.proofs.Turns.{after_slash, after_other}
use Rattle.ron_de_steps.specs.Steps.{unless_slash, past_mark, past_colon, past_close, past_last_comma, behind_mark, behind_comma}

pub unless_some : {A : Type 0} (s : Text) (next : Option A) (a : A) → unless_slash s next ≡ Some a → (is_at 47 (skip s) ≡ false) × (next ≡ Some a)
unless_some s next a =
    elim (is_at 47 (skip s)) as (λ b. cond b None next ≡ Some a → (b ≡ false) × (next ≡ Some a)) [ true ↦ λ e. absurd (cc) | false ↦ λ e. (refl, e) ]

pub unless_none : {A : Type 0} (s : Text) (a : A) → unless_slash s (Some a) ≡ None → is_at 47 (skip s) ≡ true
unless_none s a = elim (is_at 47 (skip s)) as (λ b. cond b None (Some a) ≡ None → b ≡ true) [ true ↦ λ e. refl | false ↦ λ e. absurd (cc) ]

-- ---- a mark and the gap behind it

module _ {A : Type 0} (c : ℕ) (q : Text → Reader A) where
  pub marked : (s : Text) (p : Text × Text) → past_mark c s ≡ Some p → in_sequence (mark c done) (λ _ gap. q gap) s ≡ q p.0 p.1
  marked [] p e = absurd (cc)
  marked (d ∷ s) p e = go (d == c) e
    where
      go : (b : Bool) → cond {A = Option (Text × Text)} b (unless_slash s (Some (gap_of s, skip s))) None ≡ Some p
          → and_then (cond b (got done s) (failed bad)) (λ _ gap. q gap) ≡ q p.0 p.1
      go true k = let n = unless_some s (Some (gap_of s, skip s)) p k in
          let same = same_Some (gap_of s, skip s) p n.1 in
          after_other q s n.0 ∙ ap (λ (z : Text × Text). q z.0 z.1) same
      go false k = absurd (cc)

  pub unmarked : (s : Text) → past_mark c s ≡ None → in_sequence (mark c done) (λ _ gap. q gap) s ≡ failed bad
  unmarked [] e = refl
  unmarked (d ∷ s) e = go (d == c) e
    where
      go : (b : Bool) → cond {A = Option (Text × Text)} b (unless_slash s (Some (gap_of s, skip s))) None ≡ None
          → and_then (cond b (got done s) (failed bad)) (λ _ gap. q gap) ≡ failed bad
      go true k = after_slash q s (unless_none s (gap_of s, skip s) k)
      go false k = refl

-- likewise behind a gap, for a colon
pub behind_colon : {A : Type 0} (q : Text → Reader A) (s : Text) (p : Text × Text) → past_colon s ≡ Some p
    → after_gap (λ _. in_sequence (mark 58 done) (λ _ gap. q gap)) s ≡ q p.0 p.1
behind_colon q s p e = let n = unless_some s (past_mark 58 (skip s)) p e in
    after_other (λ _. in_sequence (mark 58 done) (λ _ gap. q gap)) s n.0 ∙ marked 58 q (skip s) p n.1

pub no_colon : {A : Type 0} (q : Text → Reader A) (s : Text) → past_colon s ≡ None → after_gap (λ _. in_sequence (mark 58 done) (λ _ gap. q gap)) s ≡ failed bad
no_colon q s e = go (is_at 47 (skip s)) refl e
  where
    go : (b : Bool) → is_at 47 (skip s) ≡ b → cond b None (past_mark 58 (skip s)) ≡ None
        → after_gap (λ _. in_sequence (mark 58 done) (λ _ gap. q gap)) s ≡ failed bad
    go true m k = after_slash (λ _. in_sequence (mark 58 done) (λ _ gap. q gap)) s m
    go false m k = after_other (λ _. in_sequence (mark 58 done) (λ _ gap. q gap)) s m ∙ unmarked 58 q (skip s) k

-- ---- the closing character

-- where a reading ends, if there is a place
abbrev pub ends_at : {A : Type 0} → A → Option Text → Got A
ends_at a None = failed bad
ends_at a (Some rest) = got a rest

pub mark_at : {A : Type 0} (c : ℕ) (a : A) (s : Text) → mark c a s ≡ ends_at a (behind_mark c s)
mark_at c a [] = refl
mark_at c a (d ∷ s) = go (d == c) refl
  where
    go : (b : Bool) → (d == c) ≡ b → mark c a (d ∷ s) ≡ ends_at a (behind_mark c (d ∷ s))
    go true e = rw e refl
    go false e = rw e refl

-- the closing character behind an answer
abbrev pub closing : {A : Type 0} → ℕ → Got A → Got A
closing c o = and_then o (λ a _. mark c a)

pub closing_at : {A : Type 0} (c : ℕ) (a : A) (rest : Text) → closing c (got a rest) ≡ ends_at a (past_close c rest)
closing_at c a rest = go (is_at 47 (skip rest)) refl
  where
    go : (b : Bool) → is_at 47 (skip rest) ≡ b → closing c (got a rest) ≡ ends_at a (cond b None (behind_mark c (skip rest)))
    go true e = after_slash (λ _. mark c a) rest e
    go false e = after_other (λ _. mark c a) rest e ∙ mark_at c a (skip rest)

-- ---- a comma that may stand last

pub comma_at : {A : Type 0} (a : A) (s : Text) → opt_comma a s ≡ got a (behind_comma s)
comma_at a [] = refl
comma_at a (c ∷ s) = go (c == 44) refl
  where
    go : (b : Bool) → (c == 44) ≡ b → opt_comma a (c ∷ s) ≡ got a (behind_comma (c ∷ s))
    go true e = rw e refl
    go false e = rw e refl

-- a comma that may stand behind an answer
abbrev pub with_last : {A : Type 0} → Got A → Got A
with_last o = and_then o (λ a _. opt_comma a)

pub last_at : {A : Type 0} (a : A) (rest : Text) → with_last (got a rest) ≡ ends_at a (past_last_comma rest)
last_at a rest = go (is_at 47 (skip rest)) refl
  where
    go : (b : Bool) → is_at 47 (skip rest) ≡ b → with_last (got a rest) ≡ ends_at a (cond b None (Some (behind_comma (skip rest))))
    go true e = after_slash (λ _. opt_comma a) rest e
    go false e = after_other (λ _. opt_comma a) rest e ∙ comma_at a (skip rest)
