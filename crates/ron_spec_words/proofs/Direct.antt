-- Words directly beside one another, single characters and fixed words are read exactly: for the rules of shapes.
use Rattle.std.proofs.Common.{◌≡◌, ℕ, ◌==◌, Bool, true, false, not, cond, drop, length, [], ◌∷◌, ◌++◌, Option, Some, refl, sym, ap, ap₂, subst, ◌∙◌}
use Rattle.std.proofs.Common.{append_assoc, eqb-true, eq-eqb}
use Rattle.std.proofs.lemmas.Bool.{and_parts, not-true}
use Rattle.std.proofs.Math.Seq.{drop-append_seam}
use Rattle.ron_spec_words.specs.Characters.{Text, continues_name}
use Rattle.ron_spec_words.specs.Runs.{begins, Every, run_of, begins_with, same_text}
use Rattle.ron_spec_words.specs.Lang.{Lang, Means}
use Rattle.ron_spec_words.specs.Reader.{deep, bad, Got, got, failed, Reader}
use Rattle.ron_spec_words.specs.Exact.{Takes, Answers, Sound, IsWordReader}
use Rattle.ron_spec_words.specs.Directly.{Directly, AnyOne, FixedWord, and_directly, directly, any_one, stands, fixed_word}
use Rattle.ron_spec_words.proofs.Words.{First, sound_like}

-- ---- one directly behind the other

pub and_directly_got : {A B : Type 0} (o : Got A) (q : A → Reader B) (b : B) (rest : Text) → and_directly o q ≡ got b rest
    → (a : A) × (u : Text) × (o ≡ got a u) × (q a u ≡ got b rest)
and_directly_got (got a u) q b rest e = (a, u, refl, e)
and_directly_got (failed f) q b rest e = absurd (cc)

pub sound_directly : {A B : Type 0} (r : Reader A) (q : A → Reader B) (L : Lang A) (M : A → Lang B) → Sound r L → ((a : A) → Sound (q a) (M a))
    → Sound (directly r q) (Directly L M)
sound_directly r q L M h k s b rest e =
    let z = and_directly_got (r s) q b rest e in
    let x = h s z.0 z.1 z.2 in
    let y = k z.0 z.1 b rest z.3 in
    record {
      stretch = x.stretch ++ y.stretch;
      split = x.split ∙ ap (λ u. x.stretch ++ u) y.split ∙ sym (append_assoc x.stretch y.stretch rest);
      spelled = record {
        value = z.0;
        left = x.stretch;
        right = y.stretch;
        split = refl;
        first = subst (λ u. L x.stretch u z.0) y.split x.spelled;
        second = y.spelled;
      };
    }

pub directly-append : {A B : Type 0} (r : Reader A) (q : A → Reader B) (left right next : Text) (a : A) (b : B) → Answers r left (right ++ next) a
    → Answers (q a) right next b → directly r q ((left ++ right) ++ next) ≡ got b next
directly-append r q left right next a b x y = rw (append_assoc left right next) (ap (λ o. and_directly o q) x.answer ∙ y.answer)

pub directly_calm : {A B : Type 0} (r : Reader A) (q : A → Reader B) → ((s : Text) → r s ≡ failed deep → ⊥) → ((a : A) (s : Text) → q a s ≡ failed deep → ⊥)
    → (s : Text) → directly r q s ≡ failed deep → ⊥
directly_calm {A} r q h k s e = go (r s) (h s) e
  where
    go : (o : Got A) → (o ≡ failed deep → ⊥) → and_directly o q ≡ failed deep → ⊥
    go (got a u) n e = k a u e
    go (failed f) n e = n (cc)

pub word_directly : {A B : Type 0} (r : Reader A) (q : A → Reader B) (L : Lang A) (M : A → Lang B) → IsWordReader r L → ((a : A) → IsWordReader (q a) (M a))
    → IsWordReader (directly r q) (Directly L M)
word_directly r q L M h k = record {
  sound = sound_directly r q L M h.sound (λ a. (k a).sound);
  complete = λ t next b l. record {
    answer = ap (λ z. directly r q (z ++ next)) l.split ∙ directly-append r q l.left l.right next l.value b
        (h.complete l.left (l.right ++ next) l.value l.first) ((k l.value).complete l.right next b l.second);
  };
  calm = directly_calm r q h.calm (λ a. (k a).calm);
}

-- two languages that say the same
pub word_like : {A : Type 0} {r : Reader A} (L M : Lang A) → ((t next : Text) (a : A) → L t next a → M t next a)
    → ((t next : Text) (a : A) → M t next a → L t next a) → IsWordReader r L → IsWordReader r M
word_like {r = r} L M to from h = record { sound = sound_like r L M to h.sound; complete = λ t next a l. h.complete t next a (from t next a l); calm = h.calm }

pub first_weaker : {A : Type 0} {L : Lang A} (P Q : Text → Type 0) → ((s : Text) → P s → Q s) → First P L → First Q L
first_weaker P Q f h = record { holds = λ t next a l. f (t ++ next) (h.holds t next a l) }

pub first_directly : {A B : Type 0} {P : Text → Type 0} {L : Lang A} {M : A → Lang B} → First P L → First P (Directly L M)
first_directly h = record { holds = λ t next b z. rw (z.split, append_assoc z.left z.right next) (h.holds z.left (z.right ++ next) z.value z.first) }

-- ---- any one character

pub word_any : IsWordReader any_one AnyOne
word_any = record { sound = to; complete = λ t next a l. record { answer = rw l refl }; calm = calm }
  where
    to : (s : Text) (a : ℕ) (rest : Text) → any_one s ≡ got a rest → Takes AnyOne s a rest
    to [] a rest e = absurd (cc)
    to (c ∷ s) a rest e = let h : c ≡ a = cc in record { stretch = c ∷ []; split = ap (λ x. c ∷ x) (let k : s ≡ rest = cc in k); spelled = rw h refl }

    calm : (s : Text) → any_one s ≡ failed deep → ⊥
    calm [] e = cc
    calm (c ∷ s) e = cc

-- one character with a meaning
pub first_any : {A : Type 0} (P : Text → Type 0) (f : ℕ → Option A) → ((c : ℕ) (s : Text) (a : A) → f c ≡ Some a → P (c ∷ s)) → First P (Means AnyOne f)
first_any P f k = record { holds = λ t next a z. rw z.spelled (k z.value next a z.meant) }

-- ---- fixed words

pub begins-drop : (w s : Text) → begins_with w s ≡ true → s ≡ w ++ drop (length w) s
begins-drop [] s e = refl
begins-drop (c ∷ w) [] e = absurd (cc)
begins-drop (c ∷ w) (d ∷ s) e = let k = and_parts (d == c) (begins_with w s) e in ap₂ (λ x y. x ∷ y) (eqb-true d c k.0) (begins-drop w s k.1)

pub begins-append : (w s : Text) → begins_with w (w ++ s) ≡ true
begins-append [] s = refl
begins-append (c ∷ w) s = rw (eq-eqb c c refl, begins-append w s) refl

-- where a fixed word stands, it and what follows are the text
pub stands-splits : (w s : Text) → stands w s ≡ true → (s ≡ w ++ drop (length w) s) × (begins continues_name (drop (length w) s) ≡ false)
stands-splits w s e = let k = and_parts (begins_with w s) (not (begins continues_name (drop (length w) s))) e in (begins-drop w s k.0, not-true _ k.1)

pub stands-append : (w next : Text) → begins continues_name next ≡ false → stands w (w ++ next) ≡ true
stands-append w next e = rw (begins-append w next, drop-append_seam w next, e) refl

pub word_fixed : {A : Type 0} (w : Text) (a : A) → IsWordReader (fixed_word w a) (FixedWord w a)
word_fixed {A} w a = record { sound = to; complete = λ t next b l. record { answer = from t next b l }; calm = λ s e. calm (stands w s) s e }
  where
    to : (s : Text) (b : A) (rest : Text) → fixed_word w a s ≡ got b rest → Takes (FixedWord w a) s b rest
    to s b rest e = go (stands w s) refl e
      where
        go : (t : Bool) → stands w s ≡ t → cond t (got a (drop (length w) s)) (failed bad) ≡ got b rest → Takes (FixedWord w a) s b rest
        go true h k =
            let z = stands-splits w s h in
            let u : drop (length w) s ≡ rest = cc in
            record {
              stretch = w;
              split = z.0 ∙ ap (λ x. w ++ x) u;
              spelled = record { same = refl; ends = ap (λ x. begins continues_name x) (sym u) ∙ z.1; value = cc };
            }
        go false h k = absurd (cc)

    from : (t next : Text) (b : A) → FixedWord w a t next b → fixed_word w a (t ++ next) ≡ got b next
    from t next b l = rw (l.same, stands-append w next l.ends, drop-append_seam w next) (ap (λ z. got z next) l.value)

    calm : (t : Bool) (s : Text) → cond t (got a (drop (length w) s)) (failed bad) ≡ failed deep → ⊥
    calm true s e = cc
    calm false s e = cc

-- a word of XID_Continue characters stands where it is the whole run of them
pub stands-run : (w s : Text) → Every continues_name w → stands w s ≡ same_text (run_of continues_name s) w
stands-run [] [] h = refl
stands-run [] (d ∷ s) h = elim (continues_name d) as (λ b. not b ≡ same_text (cond b (d ∷ run_of continues_name s) []) []) [ true ↦ refl | false ↦ refl ]
stands-run (c ∷ w) [] h = refl
stands-run (c ∷ w) (d ∷ s) h = go (d == c) refl (stands-run w s h.1)
  where
    go : (b : Bool) → (d == c) ≡ b → stands w s ≡ same_text (run_of continues_name s) w
        → stands (c ∷ w) (d ∷ s) ≡ same_text (run_of continues_name (d ∷ s)) (c ∷ w)
    go true k e = let same : d ≡ c = eqb-true d c k in let f : continues_name d ≡ true = ap continues_name same ∙ h.0 in rw (k, f) (rw k e)
    go false k e =
        rw k (elim (continues_name d) as (λ b. false ≡ same_text (cond b (d ∷ run_of continues_name s) []) (c ∷ w)) [ true ↦ rw k refl | false ↦ refl ])
