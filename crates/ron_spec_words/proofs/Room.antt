-- What less room changes, and where there is room enough, for each way to make a reader function: for code that counts levels.
use Rattle.std.proofs.Common.{◌≡◌, ℕ, zero, suc, ◌≤◌, ◌<◌, ◌==◌, nat_le, Bool, true, false, cond, List, [], ◌∷◌, length, ◌⊎◌, inl, inr, Option, Some, refl, sym}
use Rattle.std.proofs.Common.{ap, ◌∙◌, arith, leb-true, le-leb, length-append}
use Rattle.ron_spec_words.specs.Characters.{Text}
use Rattle.ron_spec_words.specs.Runs.{is_at}
use Rattle.ron_spec_words.specs.Gap.{gap_of, skip}
use Rattle.ron_spec_words.specs.Lang.{Lang, done}
use Rattle.ron_spec_words.specs.Reader.{deep, bad, Got, got, failed, Reader, fail, give, mark, and_then, in_sequence, meant, means, pick, opt_comma, tail}
use Rattle.ron_spec_words.specs.Reader.{tail_all, items, group, needs}
use Rattle.ron_spec_words.specs.Exact.{Sound}
use Rattle.ron_spec_words.proofs.Gaps.{length-skip}
use Rattle.ron_spec_words.proofs.Words.{meant_calm, word_mark}

-- ---- q answers as r, or that it is too deep

pub record Agrees {A : Type 0} (q r : Reader A) : Type 0 where
  pub at : (s : Text) → (q s ≡ r s) ⊎ (q s ≡ failed deep)

pub agrees_same : {A : Type 0} (r : Reader A) → Agrees r r
agrees_same r = record { at = λ s. inl refl }

pub agrees_pick : {A : Type 0} (p : Text → Bool) {q r f g : Reader A} → Agrees q r → Agrees f g → Agrees (pick p q f) (pick p r g)
agrees_pick p {q = q} {r = r} {f = f} {g = g} h k = record {
  at = λ s. elim (p s) as (λ b. (cond b (q s) (f s) ≡ cond b (r s) (g s)) ⊎ (cond b (q s) (f s) ≡ failed deep)) [ true ↦ h.at s | false ↦ k.at s ];
}

pub agrees_chain : {A B : Type 0} {q r : Reader A} {f g : A → Text → Reader B} → Agrees q r → ((a : A) (gap : Text) → Agrees (f a gap) (g a gap))
    → Agrees (in_sequence q f) (in_sequence r g)
agrees_chain {A} {B} {q} {r} {f} {g} h k = record { at = λ s. go s (r s) (h.at s) }
  where
    inside : (o : Got A) → (and_then o f ≡ and_then o g) ⊎ (and_then o f ≡ failed deep)
    inside (got a rest) = (agrees_pick (is_at 47) (agrees_same (fail bad)) (k a (gap_of rest))).at (skip rest)
    inside (failed e) = inl refl

    go : (s : Text) (o : Got A) → (q s ≡ o) ⊎ (q s ≡ failed deep) → (and_then (q s) f ≡ and_then o g) ⊎ (and_then (q s) f ≡ failed deep)
    go s o (inl e) = rw e (inside o)
    go s o (inr e) = inr (rw e refl)

pub agrees_means : {A B : Type 0} {q r : Reader A} (f : A → Option B) → Agrees q r → Agrees (means q f) (means r f)
agrees_means {q = q} {r = r} f h = record { at = λ s. go s (h.at s) }
  where
    go : (s : Text) → (q s ≡ r s) ⊎ (q s ≡ failed deep) → (meant (q s) f ≡ meant (r s) f) ⊎ (meant (q s) f ≡ failed deep)
    go s (inl e) = inl (ap (λ o. meant o f) e)
    go s (inr e) = inr (ap (λ o. meant o f) e)

pub agrees_needs : {A : Type 0} (k m n : ℕ) {q r : Reader A} → m ≤ n → Agrees q r → Agrees (needs k m q) (needs k n r)
agrees_needs k m n {q} {r} h a = record { at = λ s. go s (nat_le k m) refl }
  where
    go : (s : Text) (b : Bool) → nat_le k m ≡ b
        → (cond b (q s) (failed deep) ≡ cond (nat_le k n) (r s) (failed deep)) ⊎ (cond b (q s) (failed deep) ≡ failed deep)
    go s true e = let le : k ≤ n = let z = leb-true k m e in omega arith in rw (le-leb k n le) (a.at s)
    go s false e = inr refl

module _ {A : Type 0} (q r : List A → Text → Reader A) (close : ℕ) (h : (seen : List A) (gap : Text) → Agrees (q seen gap) (r seen gap)) where
  agrees_tail : (fuel : ℕ) (seen : List A) → Agrees (tail q close fuel seen) (tail r close fuel seen)
  unfolding tail
  agrees_tail zero seen = agrees_same _
  agrees_tail (suc fuel) seen = agrees_pick (is_at 44) (agrees_chain (agrees_same (mark 44 done)) (λ _ gap. agrees_pick (is_at close) (agrees_same (give []))
      (agrees_chain (h seen gap) (λ a _. agrees_means (λ xs. Some (a ∷ xs)) (agrees_tail fuel (a ∷ seen)))))) (agrees_same (give []))

  pub agrees_items : (before : Text) → Agrees (items q close before) (items r close before)
  agrees_items before = agrees_pick (is_at close) (agrees_same (give [])) (agrees_chain (h [] before) (λ a _. agrees_means {q = tail_all q close (a ∷ [])}
      {r = tail_all r close (a ∷ [])} (λ xs. Some (a ∷ xs)) (record { at = λ s. (agrees_tail (suc (length s)) (a ∷ [])).at s })))

pub agrees_group : {A : Type 0} (o c : ℕ) {q r : Text → Reader A} → ((gap : Text) → Agrees (q gap) (r gap)) → Agrees (group o c q) (group o c r)
agrees_group o c h = agrees_chain (agrees_same (mark o done)) (λ _ gap. agrees_chain (h gap) (λ a _. agrees_same (mark c a)))

-- ---- never too deep on a text of at most so many characters

pub record Shallow {A : Type 0} (r : Reader A) (size : ℕ) : Type 0 where
  pub never : (s : Text) → length s ≤ size → r s ≡ failed deep → ⊥

pub shallow_calm : {A : Type 0} {r : Reader A} (n : ℕ) → ((s : Text) → r s ≡ failed deep → ⊥) → Shallow r n
shallow_calm n h = record { never = λ s _ e. h s e }

pub shallow_mark : {A : Type 0} (c : ℕ) (a : A) (n : ℕ) → Shallow (mark c a) n
shallow_mark c a n = shallow_calm n (word_mark c a).calm

pub shallow_fail : {A : Type 0} (n : ℕ) → Shallow {A = A} (fail bad) n
shallow_fail n = shallow_calm n (λ s e. cc)

pub shallow_give : {A : Type 0} (a : A) (n : ℕ) → Shallow (give a) n
shallow_give a n = shallow_calm n (λ s e. cc)

pub shallow_means : {A B : Type 0} {r : Reader A} {n : ℕ} (f : A → Option B) → Shallow r n → Shallow (means r f) n
shallow_means f h = record { never = λ s l e. meant_calm _ f (h.never s l) e }

pub shallow_pick : {A : Type 0} (p : Text → Bool) {r q : Reader A} {n : ℕ} → Shallow r n → Shallow q n → Shallow (pick p r q) n
shallow_pick {A} p {r} {q} {n} h k =
    record { never = λ s l e. (elim (p s) as (λ b. cond b (r s) (q s) ≡ failed deep → ⊥) [ true ↦ h.never s l | false ↦ k.never s l ]) e }

pub shallow_needs : {A : Type 0} (k room : ℕ) {r : Reader A} {n : ℕ} → k ≤ room → Shallow r n → Shallow (needs k room r) n
shallow_needs k room fits h = record { never = λ s l e. h.never s l (sym (rw (le-leb k room fits) refl) ∙ e) }

pub shrinks : {A : Type 0} (r : Reader A) (L : Lang A) → Sound r L → (s : Text) (a : A) (rest : Text) → r s ≡ got a rest → length rest ≤ length s
shrinks r L x s a rest e = let k = x s a rest e in omega (arith, ap length k.split, length-append k.stretch rest)

pub shallow_chain : {A B : Type 0} (r : Reader A) (L : Lang A) {q : A → Text → Reader B} {n : ℕ} → Sound r L → Shallow r n
    → ((a : A) (gap : Text) → Shallow (q a gap) n) → Shallow (in_sequence r q) n
shallow_chain {A} {B} r L {q} {n} x h k = record { never = λ s l e. go s l (r s) refl e }
  where
    go : (s : Text) → length s ≤ n → (o : Got A) → r s ≡ o → and_then o q ≡ failed deep → ⊥
    go s l (got a rest) e f =
        (shallow_pick (is_at 47) (shallow_fail n) (k a (gap_of rest))).never (skip rest) (let m = shrinks r L x s a rest e in omega (arith, length-skip rest)) f
    go s l (failed deep) e f = h.never s l e
    go s l (failed bad) e f = cc

pub shallow_comma : {A : Type 0} (a : A) (n : ℕ) → Shallow (opt_comma a) n
shallow_comma a n = shallow_pick (is_at 44) (shallow_mark 44 a n) (shallow_give a n)

-- behind a character there is less
pub shallow_behind : {B : Type 0} (c : ℕ) {q : Text → Reader B} {n : ℕ} → ((m : ℕ) (gap : Text) → m < n → Shallow (q gap) m)
    → Shallow (in_sequence (mark c done) (λ _. q)) n
shallow_behind {B} c {q} {n} h = record { never = at }
  where
    at : (s : Text) → length s ≤ n → and_then (mark c done s) (λ _. q) ≡ failed deep → ⊥
    at [] l e = cc
    at (d ∷ s) l e = (elim (d == c) as (λ b. and_then (cond b (got done s) (failed bad)) (λ _. q) ≡ failed deep → ⊥) [
      | true ↦ λ f. (shallow_pick (is_at 47) (shallow_fail (length s)) (h (length s) (gap_of s) (omega arith))).never (skip s) (length-skip s) f
      | false ↦ λ f. cc
    ]) e

module _ {A : Type 0} (r : List A → Text → Reader A) (L : List A → Text → Lang A) (close n : ℕ)
    (x : (seen : List A) (gap : Text) → Sound (r seen gap) (L seen gap)) (h : (seen : List A) (gap : Text) → Shallow (r seen gap) n) where
  shallow_tail : (fuel : ℕ) (seen : List A) (m : ℕ) → m ≤ n → Shallow (tail r close fuel seen) m
  unfolding tail
  shallow_tail zero seen m le = record { never = λ s _ e. cc }
  shallow_tail (suc fuel) seen m le =
      shallow_pick (is_at 44)
      (shallow_behind 44 (λ i gap lt. shallow_pick (is_at close) (shallow_give [] i)
      (shallow_chain (r seen gap) (L seen gap) (x seen gap) (record { never = λ s l e. (h seen gap).never s (omega arith) e })
      (λ a _. shallow_means (λ xs. Some (a ∷ xs)) (shallow_tail fuel (a ∷ seen) i (omega arith))))))
      (shallow_give [] m)

  pub shallow_items : (before : Text) → Shallow (items r close before) n
  shallow_items before = shallow_pick (is_at close) (shallow_give [] n)
      (shallow_chain (r [] before) (L [] before) (x [] before) (h [] before) (λ a _. shallow_means {r = tail_all r close (a ∷ [])} (λ xs. Some (a ∷ xs))
      (record { never = λ s l e. (shallow_tail (suc (length s)) (a ∷ []) n (omega arith)).never s l e })))
