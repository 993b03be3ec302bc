-- Reader functions of words, one lemma for each way to make a word of words: exactness of each word rests on it.
use Rattle.std.proofs.Common.{◌≡◌, ℕ, ◌==◌, Bool, true, false, not, cond, [], ◌∷◌, ◌++◌, inl, inr, Option, Some, None, refl, sym, ap, ap₂, ◌∙◌, eqb-true}
use Rattle.std.proofs.Common.{eq-eqb}
use Rattle.ron_spec_words.specs.Characters.{Text}
use Rattle.ron_spec_words.specs.Runs.{begins, Every, run_of, after_run}
use Rattle.ron_spec_words.specs.Lang.{Lang, Nothing, Mark, Run, Behind, NotBefore, Means, Or, When}
use Rattle.ron_spec_words.specs.Reader.{deep, bad, Got, got, failed, Reader, fail, mark, run, behind, unless_before, not_before, given, meant, means, pick}
use Rattle.ron_spec_words.specs.Exact.{Takes, Answers, Sound, IsWordReader}

-- what a text of the language, with what follows it, is like
pub record First {A : Type 0} (P : Text → Type 0) (L : Lang A) : Type 0 where
  pub holds : (t next : Text) (a : A) → L t next a → P (t ++ next)

-- ---- the answers of a meaning, a follow test and a choice

pub meant_got : {A B : Type 0} (o : Got A) (f : A → Option B) (b : B) (rest : Text) → meant o f ≡ got b rest → (a : A) × (o ≡ got a rest) × (f a ≡ Some b)
meant_got {A} (got a r) f b rest e = go (f a) refl e
  where
    go : (o : Option _) → f a ≡ o → given o r ≡ got b rest → (x : A) × (got a r ≡ got x rest) × (f x ≡ Some b)
    go None h k = absurd (cc)
    go (Some y) h k = (a, cc, cc)
meant_got (failed x) f b rest e = absurd (cc)

pub meant_calm : {A B : Type 0} (o : Got A) (f : A → Option B) → (o ≡ failed deep → ⊥) → meant o f ≡ failed deep → ⊥
meant_calm {A} {B} (got a rest) f h e = go (f a) e
  where
    go : (o : Option B) → given o rest ≡ failed deep → ⊥
    go None k = cc
    go (Some b) k = cc
meant_calm (failed x) f h e = h (cc)

pub sound_means : {A B : Type 0} (r : Reader A) (L : Lang A) (f : A → Option B) → Sound r L → Sound (means r f) (Means L f)
sound_means r L f x s b rest e = let k = meant_got (r s) f b rest e in let y = x s k.0 rest k.1 in
    record { stretch = y.stretch; split = y.split; spelled = record { value = k.0; spelled = y.spelled; meant = k.2 } }

pub answers_means : {A B : Type 0} (r : Reader A) (f : A → Option B) (t next : Text) (a : A) (b : B) → f a ≡ Some b → Answers r t next a
    → Answers (means r f) t next b
answers_means r f t next a b e z = record { answer = ap (λ o. meant o f) z.answer ∙ ap (λ o. given o next) e }

pub sound_like : {A : Type 0} (r : Reader A) (L M : Lang A) → ((t next : Text) (a : A) → L t next a → M t next a) → Sound r L → Sound r M
sound_like r L M to x s a rest e = let y = x s a rest e in record { stretch = y.stretch; split = y.split; spelled = to y.stretch rest a y.spelled }

pub sound_pick : {A : Type 0} (p : Text → Bool) (r q : Reader A) (L M : Lang A) → Sound r L → Sound q M
    → Sound (pick p r q) (Or (When p L) (When (λ s. not (p s)) M))
sound_pick {A} p r q L M x y s a rest e = go (p s) refl e
  where
    go : (b : Bool) → p s ≡ b → cond b (r s) (q s) ≡ got a rest → Takes (Or (When p L) (When (λ s. not (p s)) M)) s a rest
    go true h k = let z = x s a rest k in record { stretch = z.stretch; split = z.split; spelled = inl (ap p (sym z.split) ∙ h, z.spelled) }
    go false h k = let z = y s a rest k in record { stretch = z.stretch; split = z.split; spelled = inr (ap not (ap p (sym z.split) ∙ h), z.spelled) }

pub answers_left : {A : Type 0} (p : Text → Bool) (r q : Reader A) (t next : Text) (a : A) → p (t ++ next) ≡ true → Answers r t next a
    → Answers (pick p r q) t next a
answers_left p r q t next a e z = record { answer = rw e z.answer }

pub answers_right : {A : Type 0} (p : Text → Bool) (r q : Reader A) (t next : Text) (a : A) → p (t ++ next) ≡ false → Answers q t next a
    → Answers (pick p r q) t next a
answers_right p r q t next a e z = record { answer = rw e z.answer }

-- the test is no part of what is read
pub without_test : {A : Type 0} (p q : Text → Bool) (L M : Lang A) (t next : Text) (a : A) → Or (When p L) (When q M) t next a → Or L M t next a
without_test p q L M t next a (inl z) = inl z.1
without_test p q L M t next a (inr z) = inr z.1

pub pick_calm : {A : Type 0} (b : Bool) (o g : Got A) → (o ≡ failed deep → ⊥) → (g ≡ failed deep → ⊥) → cond b o g ≡ failed deep → ⊥
pick_calm true o g h k e = h e
pick_calm false o g h k e = k e

-- ---- marks

mark_got : {A : Type 0} (c : ℕ) (a : A) (s : Text) (b : A) (rest : Text) → mark c a s ≡ got b rest → (s ≡ c ∷ rest) × (a ≡ b)
mark_got c a [] b rest e = absurd (cc)
mark_got {A} c a (d ∷ s) b rest e = go (d == c) refl e
  where
    go : (t : Bool) → (d == c) ≡ t → cond t (got a s) (failed bad) ≡ got b rest → (◌≡◌ {A = Text} (d ∷ s) (c ∷ rest)) × (a ≡ b)
    go true h k = (let same : d ≡ c = eqb-true d c h in cc, cc)
    go false h k = absurd (cc)

mark_calm : {A : Type 0} (c : ℕ) (a : A) (s : Text) → mark c a s ≡ failed deep → ⊥
mark_calm c a [] e = cc
mark_calm c a (d ∷ s) e = pick_calm (d == c) (got a s) (failed bad) (λ k. cc) (λ k. cc) e

pub word_mark : {A : Type 0} (c : ℕ) (a : A) → IsWordReader (mark c a) (Mark c a)
word_mark c a = record {
  sound = λ s b rest e. let k = mark_got c a s b rest e in record { stretch = c ∷ []; split = k.0; spelled = (refl, k.1) };
  complete = λ t next b l. record { answer = rw (l.0, eq-eqb c c refl) (ap (λ z. got z next) l.1) };
  calm = mark_calm c a;
}

-- ---- runs

module _ (p : ℕ → Bool) where
  run-split : (s : Text) → s ≡ run_of p s ++ after_run p s
  run-split [] = refl
  run-split (c ∷ s) = elim (p c)
      as (λ b. ◌≡◌ {A = Text} (c ∷ s) (cond b (c ∷ run_of p s) [] ++ cond b (after_run p s) (c ∷ s))) [ true ↦ ap (λ z. c ∷ z) (run-split s) | false ↦ refl ]

  every-run : (s : Text) → Every p (run_of p s)
  every-run [] = tt
  every-run (c ∷ s) = (elim (p c) as (λ b. p c ≡ b → Every p (cond b (c ∷ run_of p s) [])) [ true ↦ λ e. (e, every-run s) | false ↦ λ e. tt ]) refl

  pub after-run : (s : Text) → begins p (after_run p s) ≡ false
  after-run [] = refl
  after-run (c ∷ s) = (elim (p c) as (λ b. p c ≡ b → begins p (cond b (after_run p s) (c ∷ s)) ≡ false) [ true ↦ λ e. after-run s | false ↦ λ e. e ]) refl

  pub run-append : (t next : Text) → Every p t → begins p next ≡ false → run_of p (t ++ next) ≡ t
  run-append [] [] h e = refl
  run-append [] (c ∷ s) h e = rw e refl
  run-append (c ∷ t) next h e = rw h.0 (ap (λ z. c ∷ z) (run-append t next h.1 e))

  pub after-append : (t next : Text) → Every p t → begins p next ≡ false → after_run p (t ++ next) ≡ next
  after-append [] [] h e = refl
  after-append [] (c ∷ s) h e = rw e refl
  after-append (c ∷ t) next h e = rw h.0 (after-append t next h.1 e)

module _ (p q : ℕ → Bool) where
  run_takes : (s a rest : Text) → run p q s ≡ got a rest → Takes (Run p q) s a rest
  run_takes [] a rest e = absurd (cc)
  run_takes (c ∷ s) a rest e = go (p c) refl e
    where
      go : (b : Bool) → p c ≡ b → cond b (got (c ∷ run_of q s) (after_run q s)) (failed bad) ≡ got a rest → Takes (Run p q) (c ∷ s) a rest
      go true h k =
          let same : c ∷ run_of q s ≡ a = cc in
          let after : after_run q s ≡ rest = cc in
          record {
            stretch = c ∷ run_of q s;
            split = ap (λ z. c ∷ z) (run-split q s ∙ ap (λ z. run_of q s ++ z) after);
            spelled = record { same = same; every = (h, every-run q s); longest = rw after at (after-run q s) };
          }
      go false h k = absurd (cc)

  run_answers : (t next a : Text) → Run p q t next a → Answers (run p q) t next a
  run_answers [] next a l = absurd l.every
  run_answers (c ∷ t) next a l = record {
    answer = rw l.every.0
        (ap₂ (λ x y. got (c ∷ x) y) (run-append q t next l.every.1 l.longest) (after-append q t next l.every.1 l.longest) ∙ ap (λ z. got z next) l.same);
  }

  run_calm : (s : Text) → run p q s ≡ failed deep → ⊥
  run_calm [] e = cc
  run_calm (c ∷ s) e = pick_calm (p c) (got (c ∷ run_of q s) (after_run q s)) (failed bad) (λ k. cc) (λ k. cc) e

  pub word_run : IsWordReader (run p q) (Run p q)
  word_run = record { sound = run_takes; complete = run_answers; calm = run_calm }

-- ---- a character, and directly behind it more

module _ {A : Type 0} (c : ℕ) (r : Reader A) (L : Lang A) (h : IsWordReader r L) where
  behind_takes : (s : Text) (a : A) (rest : Text) → behind c r s ≡ got a rest → Takes (Behind c L) s a rest
  behind_takes [] a rest e = absurd (cc)
  behind_takes (d ∷ s) a rest e = go (d == c) refl e
    where
      go : (b : Bool) → (d == c) ≡ b → cond b (r s) (failed bad) ≡ got a rest → Takes (Behind c L) (d ∷ s) a rest
      go true k q = let y = h.sound s a rest q in
          record {
            stretch = c ∷ y.stretch;
            split = ap₂ (λ x z. x ∷ z) (eqb-true d c k) y.split;
            spelled = record { rest = y.stretch; split = refl; spelled = y.spelled };
          }
      go false k q = absurd (cc)

  behind_calm : (s : Text) → behind c r s ≡ failed deep → ⊥
  behind_calm [] e = cc
  behind_calm (d ∷ s) e = pick_calm (d == c) (r s) (failed bad) (h.calm s) (λ k. cc) e

  pub word_behind : IsWordReader (behind c r) (Behind c L)
  word_behind = record {
    sound = behind_takes;
    complete = λ t next a l. record { answer = rw (l.split, eq-eqb c c refl) (h.complete l.rest next a l.spelled).answer };
    calm = behind_calm;
  }

-- ---- not before a class

module _ {A : Type 0} (p : ℕ → Bool) (r : Reader A) (L : Lang A) (h : IsWordReader r L) where
  unless_got : (o : Got A) (a : A) (rest : Text) → unless_before p o ≡ got a rest → (o ≡ got a rest) × (begins p rest ≡ false)
  unless_got (got b u) a rest e = go (begins p u) refl e
    where
      go : (t : Bool) → begins p u ≡ t → cond t (failed bad) (got b u) ≡ got a rest → (got b u ≡ got a rest) × (begins p rest ≡ false)
      go true k q = absurd (cc)
      go false k q = (q, let same : u ≡ rest = cc in rw same at k)
  unless_got (failed f) a rest e = absurd (cc)

  unless_calm : (o : Got A) → (o ≡ failed deep → ⊥) → unless_before p o ≡ failed deep → ⊥
  unless_calm (got a u) k e = pick_calm (begins p u) (failed bad) (got a u) (λ z. cc) (λ z. cc) e
  unless_calm (failed f) k e = k (cc)

  pub word_not_before : IsWordReader (not_before p r) (NotBefore p L)
  word_not_before = record {
    sound = λ s a rest e. let k = unless_got (r s) a rest e in
        let y = h.sound s a rest k.0 in
        record { stretch = y.stretch; split = y.split; spelled = record { spelled = y.spelled; other = k.1 } };
    complete = λ t next a l. record { answer = ap (unless_before p) (h.complete t next a l.spelled).answer ∙ rw l.other refl };
    calm = λ s e. unless_calm (r s) (h.calm s) e;
  }

-- ---- meanings and choices

pub word_means : {A B : Type 0} {r : Reader A} {L : Lang A} (f : A → Option B) → IsWordReader r L → IsWordReader (means r f) (Means L f)
word_means {r = r} {L = L} f h = record {
  sound = sound_means r L f h.sound;
  complete = λ t next b l. answers_means r f t next l.value b l.meant (h.complete t next l.value l.spelled);
  calm = λ s e. meant_calm (r s) f (h.calm s) e;
}

pub word_fail : {A : Type 0} → IsWordReader (fail {A = A} bad) Nothing
word_fail = record { sound = λ s b rest e. absurd (cc); complete = λ t next b l. absurd l; calm = λ s e. cc }

-- where what comes next tells the two apart
pub word_choose : {A : Type 0} (p : Text → Bool) {r q : Reader A} {L M : Lang A} → First (λ s. p s ≡ true) L → First (λ s. p s ≡ false) M → IsWordReader r L
    → IsWordReader q M → IsWordReader (pick p r q) (Or L M)
word_choose {A} p {r} {q} {L} {M} l m x y = record {
  sound = sound_like _ _ _ (without_test p (λ s. not (p s)) L M) (sound_pick p r q L M x.sound y.sound);
  complete = from;
  calm = λ s e. pick_calm (p s) (r s) (q s) (x.calm s) (y.calm s) e;
}
  where
    from : (t next : Text) (a : A) → Or L M t next a → Answers (pick p r q) t next a
    from t next a (inl z) = answers_left p r q t next a (l.holds t next a z) (x.complete t next a z)
    from t next a (inr z) = answers_right p r q t next a (m.holds t next a z) (y.complete t next a z)

-- behind a test
pub word_when : {A : Type 0} (p : Text → Bool) {r : Reader A} {L : Lang A} → IsWordReader r L → IsWordReader (pick p r (fail bad)) (When p L)
word_when {A} p {r} {L} x = record {
  sound = sound_like _ _ _ to (sound_pick p r (fail bad) L Nothing x.sound (λ s b rest e. absurd (cc)));
  complete = λ t next a l. answers_left p r (fail bad) t next a l.0 (x.complete t next a l.1);
  calm = λ s e. pick_calm (p s) (r s) (failed bad) (x.calm s) (λ k. cc) e;
}
  where
    to : (t next : Text) (a : A) → Or (When p L) (When (λ s. not (p s)) Nothing) t next a → When p L t next a
    to t next a (inl z) = z
    to t next a (inr z) = absurd z.1

-- ---- what words begin with

pub first_run : (P : Text → Type 0) (p q : ℕ → Bool) → ((c : ℕ) (s : Text) → p c ≡ true → P (c ∷ s)) → First P (Run p q)
first_run P p q k = record { holds = at }
  where
    at : (t next a : Text) → Run p q t next a → P (t ++ next)
    at [] next a z = absurd z.every
    at (c ∷ t) next a z = k c (t ++ next) z.every.0

pub first_behind : {A : Type 0} (P : Text → Type 0) (c : ℕ) (L : Lang A) → ((s : Text) → P (c ∷ s)) → First P (Behind c L)
first_behind P c L k = record { holds = λ t next a z. rw z.split (k (z.rest ++ next)) }

pub first_not_before : {A : Type 0} {P : Text → Type 0} {L : Lang A} {p : ℕ → Bool} → First P L → First P (NotBefore p L)
first_not_before h = record { holds = λ t next a z. h.holds t next a z.spelled }

pub first_when : {A : Type 0} {P : Text → Type 0} {L : Lang A} (p : Text → Bool) → First P L → First P (When p L)
first_when p h = record { holds = λ t next a z. h.holds t next a z.1 }

pub first_means : {A B : Type 0} {P : Text → Type 0} {L : Lang A} {f : A → Option B} → First P L → First P (Means L f)
first_means h = record { holds = λ t next b z. h.holds t next z.value z.spelled }

pub first_or : {A : Type 0} {P : Text → Type 0} {L M : Lang A} → First P L → First P M → First P (Or L M)
first_or {A} {P} {L} {M} h k = record { holds = both }
  where
    both : (t next : Text) (a : A) → Or L M t next a → P (t ++ next)
    both t next a (inl z) = h.holds t next a z
    both t next a (inr z) = k.holds t next a z
