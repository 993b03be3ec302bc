-- Words in texts of the same words: names, literals, and numbers and ranges, which are several tokens directly beside one another.
use Rattle.std.proofs.Common.{◌≡◌, ℕ, Bool, true, false, not, ◌||◌, ◌&&◌, ◌==◌, if◌then◌else◌, [], ◌∷◌, ◌++◌, Some, Option, inl, inr, refl, sym, ap, subst, ◌∙◌}
use Rattle.std.proofs.Common.{drop, length, append_assoc, eqb-true}
use Rattle.std.proofs.lemmas.List.{append_cancel_right}
use Rattle.ron_spec_words.specs.Characters.{Text, continues_name}
use Rattle.ron_spec_words.specs.Runs.{begins, begins_with, run_of}
use Rattle.ron_spec_words.specs.Gap.{Gap}
use Rattle.ron_spec_words.specs.Lang.{Lang, Empty, Behind, Means, Or, When}
use Rattle.ron_spec_words.specs.Directly.{Directly, stands}
use Rattle.ron_spec_words.specs.Scan.{token}
use Rattle.ron_spec_words.proofs.Words.{First}
use Rattle.ron_format_words.specs.Alike.{is_solid, a_word, Step, plain, added, dropped, Alike}
use Rattle.ron_format_words.specs.Moves.{Moves}
use Rattle.ron_format_words.specs.Near.{MovedWord, MovesWord, MovesNear}
use Rattle.ron_format_words.proofs.Steps.{Within, after_word, name_within, no_gap_within}
use Rattle.ron_format_words.proofs.Ahead.{All, front, alike_front, front_behind, Sees, seen_same, sees_begins, only_front, last_front, closing_front}
use Rattle.ron_format_words.proofs.Free.{Stable, sees_not}

abbrev pub Opening : Text → Type 0
Opening s = begins is_solid s ≡ true

no_lead : (s : Text) → front s ≡ [] → begins is_solid s ≡ true → ⊥
no_lead s e h = let k : begins is_solid s ≡ false = (sees_begins is_solid (λ c y. y)).at s ∙ ap (begins is_solid) e in cc

module _ {commas : Text → Bool} where
  -- ---- one token

  pub word_token : {A : Type 0} {L : Lang A} {F : Text → Type 0} → First Opening L
      → ((t next : Text) (a : A) → L t next a → F next → token (t ++ next) ≡ Some next) → Stable L → MovesWord commas L F
  word_token {L = L} o k s = record {
    over = λ t next a z f v r.
        let x = after_word (t ++ next) next v (o.holds t next a z) (k t next a z f) r in
        let same : t ≡ x.stretch = append_cancel_right t x.stretch next x.same in
        record {
          stretch = x.stretch;
          left = x.left;
          split = x.split;
          rest = x.rest;
          other = x.other;
          step = x.step;
          alike = x.alike;
          spelled = subst (λ w. L w x.left a) same (s.at t next x.left a z (front_behind x.step x.alike));
        };
  }

  pub word_moves : {A : Type 0} {L : Lang A} {F : Text → Type 0} → MovesWord commas L F → Moves commas commas L L F
  word_moves h = record {
    over = λ t next a z f n v r. let x = h.over t next a z f v r in record {
      stretch = x.stretch;
      left = x.left;
      split = x.split;
      spelled = x.spelled;
      before = a_word;
      rest = x.rest;
      other = x.other;
      step = x.step;
      alike = x.alike;
    };
  }

  other_word : {A B : Type 0} {M : Lang A} {N : Lang B} {next v : Text} {a : A} {b : B} → ((t u : Text) → M t u a → N t u b) → MovedWord commas M next v a
      → MovedWord commas N next v b
  other_word k x = record {
    stretch = x.stretch;
    left = x.left;
    split = x.split;
    spelled = k x.stretch x.left x.spelled;
    rest = x.rest;
    other = x.other;
    step = x.step;
    alike = x.alike;
  }

  pub word_means : {A B : Type 0} {L : Lang A} {F : Text → Type 0} {f : A → Option B} → MovesWord commas L F → MovesWord commas (Means L f) F
  word_means h = record {
    over = λ t next b z f v r. other_word (λ u w y. record { value = z.value; spelled = y; meant = z.meant }) (h.over t next z.value z.spelled f v r);
  }

  pub word_or : {A : Type 0} {L M : Lang A} {F : Text → Type 0} → MovesWord commas L F → MovesWord commas M F → MovesWord commas (Or L M) F
  word_or {A} {L} {M} {F} h k = record { over = both }
    where
      both : (t next : Text) (a : A) → Or L M t next a → F next → (v : Text) → Alike commas (t ++ next) v → MovedWord commas (Or L M) next v a
      both t next a (inl z) f v r = other_word (λ u w y. inl y) (h.over t next a z f v r)
      both t next a (inr z) f v r = other_word (λ u w y. inr y) (k.over t next a z f v r)

  pub word_when : {A : Type 0} {p : Text → Bool} {L : Lang A} {F : Text → Type 0} → Sees p → MovesWord commas L F → MovesWord commas (When p L) F
  word_when {p = p} s h = record {
    over = λ t next a z f v r.
        let x = h.over t next a z.1 f v r in
        let e : p (x.stretch ++ x.left) ≡ true = ap p (sym x.split) ∙ sym (seen_same s {s = t ++ next} {u = v} (alike_front r)) ∙ z.0 in
        record {
          stretch = x.stretch;
          left = x.left;
          split = x.split;
          spelled = (e, x.spelled);
          rest = x.rest;
          other = x.other;
          step = x.step;
          alike = x.alike;
        };
  }

  pub word_before : {A : Type 0} {L : Lang A} (F G : Text → Type 0) → ((next : Text) → G next → F next) → MovesWord commas L F → MovesWord commas L G
  word_before F G k h = record { over = λ t next a z g. h.over t next a z (k next g) }

  -- ---- directly behind a word

  -- before a word no gap came and none went
  tight : {s u rest other : Text} → begins is_solid s ≡ true → Step commas a_word s u rest other → Alike commas rest other → (s ≡ rest) × (u ≡ other)
  tight {s} {u} {rest} {other} e (plain x) r = go x.gap x.instead x.split x.splits x.is_gap.is_gap x.is_other.is_gap
    where
      solid : Within is_solid
      solid c h = h

      lead : begins is_solid u ≡ true
      lead = sym (seen_same (sees_begins is_solid solid) {s = s} {u = u} (front_behind (plain x) r)) ∙ e

      go : (g h : Text) → s ≡ g ++ rest → u ≡ h ++ other → Gap g rest → Gap h other → (s ≡ rest) × (u ≡ other)
      go [] [] a b c d = (a, b)
      go (y ∷ g) h a b c d = absurd (let k : is_solid y ≡ true = rw a at e in let n = no_gap_within is_solid solid y g rest c in cc)
      go [] (y ∷ h) a b c d = absurd (let k : is_solid y ≡ true = rw b at lead in let n = no_gap_within is_solid solid y h other d in cc)
  tight {s = s} {rest = rest} e (added c i b x y) r = absurd (no_lead s (only_front x (closing_front rest b)) e)
  tight {s = s} e (dropped c i b x y) r = absurd (no_lead s (last_front x) e)

  pub near_word : {A : Type 0} {L : Lang A} {F : Text → Type 0} → First Opening L → MovesWord commas L F → MovesNear commas L F
  near_word o h = record {
    over = λ t next a z f left rest other s r.
        let k = tight (o.holds t next a z) s r in
        let x = h.over t next a z f left (subst (λ y. Alike commas (t ++ next) y) (sym k.1) (subst (λ y. Alike commas y other) (sym k.0) r)) in x;
  }

  pub near_empty : {A : Type 0} {F : Text → Type 0} (p : Text → Bool) (a : A) → Sees p → MovesNear commas (When p (Empty a)) F
  near_empty p a h = record {
    over = λ t next b z f left rest other s r.
        let s' : Step commas a_word next left rest other = subst (λ y. Step commas a_word (y ++ next) left rest other) z.1.0 s in
        let e : p next ≡ true = subst (λ y. p (y ++ next) ≡ true) z.1.0 z.0 in
        record {
          stretch = [];
          left = left;
          split = refl;
          rest = rest;
          other = other;
          step = s';
          alike = r;
          spelled = (sym (seen_same h {s = next} {u = left} (front_behind s' r)) ∙ e, (refl, z.1.1));
        };
  }

  pub near_or : {A : Type 0} {L M : Lang A} {F : Text → Type 0} → MovesNear commas L F → MovesNear commas M F → MovesNear commas (Or L M) F
  near_or {A} {L} {M} {F} h k = record { over = both }
    where
      both : (t next : Text) (a : A) → Or L M t next a → F next → (left rest other : Text) → Step commas a_word (t ++ next) left rest other
          → Alike commas rest other → MovedWord commas (Or L M) next left a
      both t next a (inl z) f left rest other s r = other_word (λ u w y. inl y) (h.over t next a z f left rest other s r)
      both t next a (inr z) f left rest other s r = other_word (λ u w y. inr y) (k.over t next a z f left rest other s r)

  -- a character that is a token by itself, and directly behind it the other
  pub word_behind : {A : Type 0} {L : Lang A} {F : Text → Type 0} (c : ℕ) → is_solid c ≡ true → ((s : Text) → token (c ∷ s) ≡ Some s) → MovesNear commas L F
      → MovesWord commas (Behind c L) F
  word_behind {A} {L} {F} c e k h = record { over = over }
    where
      over : (t next : Text) (a : A) → Behind c L t next a → F next → (v : Text) → Alike commas (t ++ next) v → MovedWord commas (Behind c L) next v a
      over t next a z f v r =
          let r' : Alike commas (c ∷ (z.rest ++ next)) v = rw z.split at r in
          let x = after_word (c ∷ (z.rest ++ next)) (z.rest ++ next) v e (k (z.rest ++ next)) r' in
          let same : c ∷ [] ≡ x.stretch = append_cancel_right (c ∷ []) x.stretch (z.rest ++ next) x.same in
          let y = h.over z.rest next a z.spelled f x.left x.rest x.other x.step x.alike in
          record {
            stretch = c ∷ y.stretch;
            left = y.left;
            split = x.split ∙ ap (λ w. w ++ x.left) (sym same) ∙ ap (λ w. c ∷ w) y.split;
            spelled = record { rest = y.stretch; split = refl; spelled = y.spelled };
            rest = y.rest;
            other = y.other;
            step = y.step;
            alike = y.alike;
          }

  -- a word, and directly behind it the other
  pub word_directly : {A B : Type 0} {L : Lang A} {M : A → Lang B} {F G : Text → Type 0} → MovesWord commas L F → ((a : A) → MovesNear commas (M a) G)
      → ((a : A) (right next : Text) (b : B) → M a right next b → G next → F (right ++ next)) → MovesWord commas (Directly L M) G
  word_directly {A} {B} {L} {M} {F} {G} h k follows = record { over = over }
    where
      over : (t next : Text) (b : B) → Directly L M t next b → G next → (v : Text) → Alike commas (t ++ next) v → MovedWord commas (Directly L M) next v b
      over t next b z g v r =
          let r' : Alike commas (z.left ++ (z.right ++ next)) v = rw (z.split, append_assoc z.left z.right next) at r in
          let x = h.over z.left (z.right ++ next) z.value z.first (follows z.value z.right next b z.second g) v r' in
          let y = (k z.value).over z.right next b z.second g x.left x.rest x.other x.step x.alike in
          record {
            stretch = x.stretch ++ y.stretch;
            left = y.left;
            split = x.split ∙ ap (λ w. x.stretch ++ w) y.split ∙ sym (append_assoc x.stretch y.stretch y.left);
            spelled = record {
              value = z.value;
              left = x.stretch;
              right = y.stretch;
              split = refl;
              first = subst (λ w. L x.stretch w z.value) y.split x.spelled;
              second = y.spelled;
            };
            rest = y.rest;
            other = y.other;
            step = y.step;
            alike = y.alike;
          }

-- ---- what the tests of numbers see

pub sees_or : {p q : Text → Bool} → Sees p → Sees q → Sees (λ s. p s || q s)
sees_or {p} {q} h k = record { at = λ s. ap (λ b. b || q s) (h.at s) ∙ ap (λ b. p (front s) || b) (k.at s) }

pub sees_run : (p : ℕ → Bool) → Within p → Sees (run_of p)
sees_run p w = record { at = at }
  where
    at : (s : Text) → run_of p s ≡ run_of p (front s)
    at [] = refl
    at (c ∷ s) = go (at s) (is_solid c) refl
      where
        go : run_of p s ≡ run_of p (front s) → (b : Bool) → is_solid c ≡ b → run_of p (c ∷ s) ≡ run_of p (if b then c ∷ front s else [])
        go ih true e = ap (λ x. if p c then c ∷ x else []) ih
        go ih false e = no (p c) refl
          where
            no : (b : Bool) → p c ≡ b → (if b then c ∷ run_of p s else []) ≡ []
            no false k = refl
            no true k = let y = w c k in absurd (cc)

sees_behind : (w : Text) (q : Text → Bool) → All is_solid w → Sees q → Sees (λ s. begins_with w s && q (drop (length w) s))
sees_behind w q h k = record { at = at w h }
  where
    at : (w : Text) → All is_solid w → (s : Text) → (begins_with w s && q (drop (length w) s)) ≡ (begins_with w (front s) && q (drop (length w) (front s)))
    at [] h s = k.at s
    at (c ∷ w) h [] = refl
    at (c ∷ w) h (d ∷ s) = go (at w h.1 s) (is_solid d) refl (d == c) refl
      where
        go : (begins_with w s && q (drop (length w) s)) ≡ (begins_with w (front s) && q (drop (length w) (front s))) → (b : Bool) → is_solid d ≡ b → (m : Bool)
            → (d == c) ≡ m
            → ((m && begins_with w s) && q (drop (length w) s))
            ≡ (begins_with (c ∷ w) (if b then d ∷ front s else []) && q (drop (length (c ∷ w)) (if b then d ∷ front s else [])))
        go ih true e true l = rw l ih
        go ih true e false l = rw l refl
        go ih false e true l = absurd (let y = eqb-true d c l in let z : is_solid d ≡ true = rw y h.0 in cc)
        go ih false e false l = refl

pub sees_stands : (w : Text) → All is_solid w → Sees (stands w)
sees_stands w h = sees_behind w (λ s. not (begins continues_name s)) h (sees_not (sees_begins continues_name name_within))
