-- A reader function made of reader functions is exact for the language made of their languages.
use Rattle.std.proofs.Common.{◌≡◌, ℕ, zero, suc, ◌≤◌, ◌<◌, ◌==◌, nat_le, Bool, true, false, not, cond, List, [], ◌∷◌, ◌++◌, length, inl, inr, Option, Some}
use Rattle.std.proofs.Common.{refl, sym, ap, subst, ◌∙◌, append_assoc, arith, eqb-true, eq-eqb, length-append, leb-true, le-leb}
use Rattle.std.proofs.lemmas.Option.{same_Some}
use Rattle.ron_spec_words.specs.Characters.{Text}
use Rattle.ron_spec_words.specs.Runs.{is_at}
use Rattle.ron_spec_words.specs.Gap.{LongGap, gap_of, skip, is_delimiter, ends_value}
use Rattle.ron_spec_words.specs.Lang.{Lang, Done, done, Empty, Mark, Then, Means, Or, When, At, OptComma, Tail, Items, Group, Needs}
use Rattle.ron_spec_words.specs.Reader.{deep, bad, Got, got, failed, Reader, give, mark, after_gap, and_then, in_sequence, means, pick, opt_comma, tail, tail_all, items, group, needs}
use Rattle.ron_spec_words.specs.Exact.{Takes, Answers, Sound, Complete, Exact, IsWordReader, Anything, Before, FollowsValue}
use Rattle.ron_spec_words.proofs.Gaps.{skip-append, gap_of-append, cut}
use Rattle.ron_spec_words.proofs.Words.{First, sound_like, sound_means, sound_pick, answers_means, answers_left, answers_right, without_test, word_mark}
use Rattle.ron_spec_words.proofs.Classes.{Solid}

-- an item begins with neither a stop nor a gap
abbrev pub Opens : {A : Type 0} → Lang A → Type 0
Opens L = First Solid L

pub three : (a b c d : Text) → (a ++ (b ++ c)) ++ d ≡ a ++ (b ++ (c ++ d))
three a b c d = append_assoc a (b ++ c) d ∙ ap (λ x. a ++ x) (append_assoc b c d)

pub first_then : {A B : Type 0} {P : Text → Type 0} {L : Lang A} {M : A → Text → Lang B} → First P L → First P (Then L M)
first_then h = record { holds = λ t next b z. rw (z.split, three z.left z.gap z.right next) (h.holds z.left (z.gap ++ (z.right ++ next)) z.value z.first) }

pub first_mark : {A : Type 0} (P : Text → Type 0) (c : ℕ) (a : A) → ((s : Text) → P (c ∷ s)) → First P (Mark c a)
first_mark P c a k = record { holds = λ t next b z. rw z.0 (k next) }

-- ---- words, and what may follow

pub exact_word : {A : Type 0} {r : Reader A} {L : Lang A} (F : Text → Type 0) → IsWordReader r L → Exact r L F
exact_word F h = record { sound = h.sound; complete = λ t next a l f n. h.complete t next a l }

pub exact_before : {A : Type 0} {r : Reader A} {L : Lang A} (F G : Text → Type 0) → ((next : Text) → G next → F next) → Exact r L F → Exact r L G
exact_before F G h x = record { sound = x.sound; complete = λ t next a l g n. x.complete t next a l (h next g) n }

pub exact_give : {A : Type 0} (a : A) (F : Text → Type 0) → Exact (give a) (Empty a) F
exact_give a F = record {
  sound = λ s b rest e. record { stretch = []; split = cc; spelled = (refl, cc) };
  complete = λ t next b l f n. record { answer = rw l.0 (ap (λ z. got z next) l.1) };
}

pub exact_means : {A B : Type 0} (r : Reader A) (L : Lang A) (F : Text → Type 0) (f : A → Option B) → Exact r L F → Exact (means r f) (Means L f) F
exact_means r L F f x = record {
  sound = sound_means r L f x.sound;
  complete = λ t next b l g n. answers_means r f t next l.value b l.meant (x.complete t next l.value l.spelled g n);
}

pub exact_needs : {A : Type 0} (k room : ℕ) (r : Reader A) (L : Lang A) (F : Text → Type 0) → Exact r L F → Exact (needs k room r) (Needs k room L) F
exact_needs {A} k room r L F x = record { sound = to; complete = λ t next a h f n. record { answer = rw (le-leb k room h.0) (x.complete t next a h.1 f n).answer } }
  where
    to : Sound (needs k room r) (Needs k room L)
    to s a rest e = go (nat_le k room) refl e
      where
        go : (b : Bool) → nat_le k room ≡ b → cond b (r s) (failed deep) ≡ got a rest → Takes (Needs k room L) s a rest
        go true h q = let z = x.sound s a rest q in record { stretch = z.stretch; split = z.split; spelled = (leb-true k room h, z.spelled) }
        go false h q = absurd (cc)

-- where what comes next tells the two apart
pub exact_choose : {A : Type 0} (p : Text → Bool) (r q : Reader A) (L M : Lang A) (F : Text → Type 0) → First (λ s. p s ≡ true) L → First (λ s. p s ≡ false) M → Exact r L F → Exact q M F → Exact (pick p r q) (Or L M) F
exact_choose {A} p r q L M F l m x y = record { sound = sound_like _ _ _ (without_test p (λ s. not (p s)) L M) (sound_pick p r q L M x.sound y.sound); complete = from }
  where
    from : Complete (pick p r q) (Or L M) F
    from t next a (inl z) f n = answers_left p r q t next a (l.holds t next a z) (x.complete t next a z f n)
    from t next a (inr z) f n = answers_right p r q t next a (m.holds t next a z) (y.complete t next a z f n)

-- ---- one behind the other

and_then_got : {A B : Type 0} (o : Got A) (q : A → Text → Reader B) (b : B) (rest : Text) → and_then o q ≡ got b rest → (a : A) × (r : Text) × (o ≡ got a r) × (q a (gap_of r) (skip r) ≡ got b rest)
and_then_got {A} {B} (got a r) q b rest e = go (is_at 47 (skip r)) e
  where
    go : (x : Bool) → cond x (failed bad) (q a (gap_of r) (skip r)) ≡ got b rest → (a' : A) × (r' : Text) × (got a r ≡ got a' r') × (q a' (gap_of r') (skip r') ≡ got b rest)
    go true k = absurd (cc)
    go false k = (a, r, refl, k)
and_then_got (failed f) q b rest e = absurd (cc)

then_takes : {A B : Type 0} (L : Lang A) (M : A → Text → Lang B) (s : Text) (a : A) (b : B) (r rest : Text) → Takes L s a r → Takes (M a (gap_of r)) (skip r) b rest → Takes (Then L M) s b rest
then_takes L M s a b r rest x y =
    let k = cut r in
    let e : r ≡ gap_of r ++ (y.stretch ++ rest) = k.split ∙ ap (λ z. gap_of r ++ z) y.split in
    record {
      stretch = x.stretch ++ (gap_of r ++ y.stretch);
      split = x.split ∙ ap (λ z. x.stretch ++ z) e ∙ sym (three x.stretch (gap_of r) y.stretch rest);
      spelled = record {
        value = a;
        left = x.stretch;
        gap = gap_of r;
        right = y.stretch;
        split = refl;
        first = subst (λ z. L x.stretch z a) e x.spelled;
        is_gap = rw y.split at k.is_gap;
        second = y.spelled;
      };
    }

pub sound_chain : {A B : Type 0} (r : Reader A) (q : A → Text → Reader B) (L : Lang A) (M : A → Text → Lang B) → Sound r L → ((a : A) (gap : Text) → Sound (q a gap) (M a gap)) → Sound (in_sequence r q) (Then L M)
sound_chain r q L M x y s b rest e =
    let k = and_then_got (r s) q b rest e in
    then_takes L M s k.0 b k.1 rest (x s k.0 k.1 k.2) (y k.0 (gap_of k.1) (skip k.1) b rest k.3)

-- behind a gap where no slash stands
pub after_gap_at : {A : Type 0} (q : Text → Reader A) (gap s : Text) → LongGap gap s → is_at 47 s ≡ false → after_gap q (gap ++ s) ≡ q gap s
after_gap_at q gap s g n = rw (skip-append gap s g, gap_of-append gap s g, n) refl

pub after_got : {A : Type 0} (q : Text → Reader A) (s : Text) (a : A) (rest : Text) → after_gap q s ≡ got a rest → q (gap_of s) (skip s) ≡ got a rest
after_got q s a rest = elim (is_at 47 (skip s)) as (λ b. cond b (failed bad) (q (gap_of s) (skip s)) ≡ got a rest → q (gap_of s) (skip s) ≡ got a rest) [ true ↦ λ e. absurd (cc) | false ↦ λ e. e ]

then_answers : {A B : Type 0} (r : Reader A) (q : A → Text → Reader B) (a : A) (b : B) (left gap right next : Text) → Answers r left (gap ++ (right ++ next)) a
    → LongGap gap (right ++ next) → is_at 47 (right ++ next) ≡ false → Answers (q a gap) right next b
    → Answers (in_sequence r q) (left ++ (gap ++ right)) next b
then_answers r q a b left gap right next x g n y =
    record { answer = ap (λ z. and_then (r z) q) (three left gap right next) ∙ ap (λ o. and_then o q) x.answer ∙ after_gap_at (q a) gap (right ++ next) g n ∙ y.answer }

-- What is spelled, with what follows it, begins with no slash.
pub record Begins {A : Type 0} (L : Lang A) (F : Text → Type 0) : Type 0 where
  pub no_slash : (t next : Text) (a : A) → L t next a → F next → skip (t ++ next) ≡ t ++ next → is_at 47 (t ++ next) ≡ false

pub begins_mark : {A : Type 0} (c : ℕ) (a : A) (F : Text → Type 0) → (c == 47) ≡ false → Begins (Mark c a) F
begins_mark c a F n = record { no_slash = λ t next b z f k. rw z.0 n }

-- it begins as its first part does, where what follows that part may follow it
pub begins_then : {A B : Type 0} (L : Lang A) (M : A → Text → Lang B) (F G : Text → Type 0) → Begins L F
    → ((a : A) (gap right next : Text) (b : B) → LongGap gap (right ++ next) → M a gap right next b → G next → F (gap ++ (right ++ next)))
    → Begins (Then L M) G
begins_then L M F G h follows = record {
  no_slash = λ t next b z g n. rw (z.split, three z.left z.gap z.right next)
      (h.no_slash z.left (z.gap ++ (z.right ++ next)) z.value z.first (follows z.value z.gap z.right next b z.is_gap z.second g) (rw (z.split, three z.left z.gap z.right next) at n));
}

module _ {A B : Type 0} (r : Reader A) (q : A → Text → Reader B) (L : Lang A) (M : A → Text → Lang B) (F G : Text → Type 0) where
  pub exact_chain : Exact r L F → ((a : A) (gap : Text) → Exact (q a gap) (M a gap) G) → ((a : A) (gap : Text) → Begins (M a gap) G)
      → ((a : A) (gap right next : Text) (b : B) → LongGap gap (right ++ next) → M a gap right next b → G next → F (gap ++ (right ++ next)))
      → Exact (in_sequence r q) (Then L M) G
  exact_chain x y begins follows = record { sound = sound_chain r q L M x.sound (λ a gap. (y a gap).sound); complete = from }
    where
      from : Complete (in_sequence r q) (Then L M) G
      from t next b z g n =
          let n' : skip (z.left ++ (z.gap ++ (z.right ++ next))) ≡ z.left ++ (z.gap ++ (z.right ++ next)) = rw (z.split, three z.left z.gap z.right next) at n in
          rw z.split (then_answers r q z.value b z.left z.gap z.right next
          (x.complete z.left (z.gap ++ (z.right ++ next)) z.value z.first (follows z.value z.gap z.right next b z.is_gap z.second g) n')
          z.is_gap
          ((begins z.value z.gap).no_slash z.right next b z.second g z.is_gap.longest)
          ((y z.value z.gap).complete z.right next b z.second g z.is_gap.longest))

-- ---- what may follow

pub stops_gap : (g s : Text) → LongGap g s → ends_value s ≡ true → FollowsValue (g ++ s)
stops_gap g s h k = ap ends_value (skip-append g s h) ∙ k

pub before_stops : (c : ℕ) (s : Text) → is_delimiter c ≡ true → is_at c s ≡ true → ends_value s ≡ true
before_stops c [] h e = refl
before_stops c (d ∷ s) h e = ap is_delimiter (eqb-true d c e) ∙ h

-- a stop is no slash
pub stops_no_slash : (s : Text) → ends_value s ≡ true → is_at 47 s ≡ false
stops_no_slash [] h = refl
stops_no_slash (c ∷ s) h = go (c == 47) refl
  where
    go : (b : Bool) → (c == 47) ≡ b → b ≡ false
    go true k = absurd (let x : is_delimiter 47 ≡ true = ap is_delimiter (sym (eqb-true c 47 k)) ∙ h in cc)
    go false k = refl

pub before_no_slash : (c : ℕ) (s : Text) → is_delimiter c ≡ true → is_at c s ≡ true → is_at 47 s ≡ false
before_no_slash c s h e = stops_no_slash s (before_stops c s h e)

-- no two characters stand at one place
pub is_at_other : (c d : ℕ) (s : Text) → is_at c s ≡ true → (c == d) ≡ false → is_at d s ≡ false
is_at_other c d [] h e = refl
is_at_other c d (b ∷ s) h e = ap (λ a. a == d) (eqb-true b c h) ∙ e

-- ---- a comma or nothing, where no comma follows

pub exact_opt_comma : {A : Type 0} (a : A) → Exact (opt_comma a) (OptComma a) (Before 41)
exact_opt_comma {A} a = record {
  sound = sound_like _ _ _ (without_test (is_at 44) (λ s. not (is_at 44 s)) (Mark 44 a) (Empty a))
      (sound_pick (is_at 44) (mark 44 a) (give a) (Mark 44 a) (Empty a) (word_mark 44 a).sound (exact_give a Anything).sound);
  complete = from;
}
  where
    from : Complete (opt_comma a) (OptComma a) (Before 41)
    from t next b (inl h) f n = answers_left (is_at 44) (mark 44 a) (give a) t next b (rw h.0 refl) ((word_mark 44 a).complete t next b h)
    from t next b (inr h) f n = answers_right (is_at 44) (mark 44 a) (give a) t next b (rw (← n, h.0) (is_at_other 41 44 (skip next) f refl)) ((exact_give a Anything).complete t next b h tt n)

-- ---- items

pub not_stop : (c : ℕ) (s : Text) → is_delimiter c ≡ true → ends_value s ≡ false → is_at c s ≡ false
not_stop c [] h e = absurd (cc)
not_stop c (d ∷ s) h e = go (d == c) refl
  where
    go : (b : Bool) → (d == c) ≡ b → b ≡ false
    go true k = absurd (let same : d ≡ c = eqb-true d c k in let x : true ≡ false = sym h ∙ ap is_delimiter (sym same) ∙ e in cc)
    go false k = refl

-- no text has more items than characters
tail-length : {A : Type 0} (L : List A → Text → Lang A) (seen : List A) (t next : Text) (xs : List A) → Tail L seen t next xs → length xs ≤ length t
tail-length L seen t next [] h = omega arith
tail-length L seen t next (a ∷ xs) h =
    let z = tail-length L (a ∷ seen) h.second.right next xs h.second.second in
    rw (h.split, h.first.0, h.second.split) (omega (arith, length-append h.gap (h.second.left ++ (h.second.gap ++ h.second.right)), length-append h.second.left (h.second.gap ++ h.second.right), length-append h.second.gap h.second.right))

-- the items after the first, in the reader function's cases
module _ {A : Type 0} (L : List A → Text → Lang A) where
  abbrev ReadTail : ℕ → List A → Lang (List A)
  ReadTail close seen =
      Or (When (is_at 44) (Then (Mark 44 done) (λ _ gap. Or (When (is_at close) (Empty [])) (When (λ s. not (is_at close s)) (Then (L seen gap) (λ a _. Means (Tail L (a ∷ seen)) (λ xs. Some (a ∷ xs))))))))
      (When (λ s. not (is_at 44 s)) (Empty []))

  read_tail : (close : ℕ) (seen : List A) (t next : Text) (xs : List A) → ReadTail close seen t next xs → Tail L seen t next xs
  read_tail close seen t next xs (inr h) = rw (← h.1.1) (inl (h.1.0, refl))
  read_tail close seen t next xs (inl (p, h)) = go h.second
    where
      go : Or (When (is_at close) (Empty [])) (When (λ s. not (is_at close s)) (Then (L seen h.gap) (λ a _. Means (Tail L (a ∷ seen)) (λ xs. Some (a ∷ xs))))) h.right next xs → Tail L seen t next xs
      go (inl z) = rw (← z.1.1) (inr (record { value = done; left = h.left; gap = h.gap; right = h.right; split = h.split; first = (h.first.0, refl); is_gap = h.is_gap; second = (z.1.0, refl) }))
      go (inr (q, z)) = rw (← same_Some _ _ z.second.meant)
          (record {
            value = done;
            left = h.left;
            gap = h.gap;
            right = h.right;
            split = h.split;
            first = (h.first.0, refl);
            is_gap = h.is_gap;
            second = record { value = done; left = z.left; gap = z.gap; right = z.right; split = z.split; first = z.first; is_gap = z.is_gap; second = z.second.spelled };
          })

module _ {A : Type 0} (L : List A → Text → Lang A) (close : ℕ) (is_close : is_delimiter close ≡ true) where
  -- the rest of the items, with what follows, begins with a stop
  pub tail_stops : (seen : List A) (t next : Text) (xs : List A) → Tail L seen t next xs → Before close next → skip (t ++ next) ≡ t ++ next → ends_value (t ++ next) ≡ true
  tail_stops seen t next [] (inl h) f n = before_stops close (t ++ next) is_close (rw (← n, h.0) f)
  tail_stops seen t next [] (inr h) f n = rw (h.split, h.first.0) refl
  tail_stops seen t next (a ∷ xs) h f n = rw (h.split, h.first.0) refl

module _ {A : Type 0} (r : List A → Text → Reader A) (L : List A → Text → Lang A) (close : ℕ) (is_close : is_delimiter close ≡ true) (no_comma : (close == 44) ≡ false)
    (x : (seen : List A) (before : Text) → Exact (r seen before) (L seen before) FollowsValue) (o : (seen : List A) (before : Text) → Opens (L seen before)) where
  tail_sound : (fuel : ℕ) (seen : List A) → Sound (tail r close fuel seen) (Tail L seen)
  unfolding tail
  tail_sound zero seen = λ s xs rest e. absurd (cc)
  tail_sound (suc fuel) seen = sound_like _ _ _ (read_tail L close seen)
      (sound_pick _ _ _ _ _
      (sound_chain _ _ (Mark 44 done) _ (word_mark 44 done).sound
      (λ _ gap. sound_pick _ _ _ _ _ (exact_give [] Anything).sound (sound_chain (r seen gap) _ (L seen gap) _ (x seen gap).sound (λ a _. sound_means (tail r close fuel (a ∷ seen)) (Tail L (a ∷ seen)) _ (tail_sound fuel (a ∷ seen))))))
      (exact_give [] Anything).sound)

  -- an item, and then the rest of the items
  more_answers : (more : A → Reader (List A)) (seen : List A) (before : Text) (a : A) (xs : List A) (t next : Text)
      → ((u : Text) → Tail L (a ∷ seen) u next xs → skip (u ++ next) ≡ u ++ next → Answers (more a) u next xs)
      → Then (At (L seen before) a) (λ _ _ u n _. Tail L (a ∷ seen) u n xs) t next done → Before close next → skip (t ++ next) ≡ t ++ next
      → Answers (pick (is_at close) (give []) (in_sequence (r seen before) (λ a _. means (more a) (λ xs. Some (a ∷ xs))))) t next (a ∷ xs)
  more_answers more seen before a xs t next h m f n =
      let n' : skip (m.left ++ (m.gap ++ (m.right ++ next))) ≡ m.left ++ (m.gap ++ (m.right ++ next)) = rw (m.split, three m.left m.gap m.right next) at n in
      answers_right (is_at close) _ _ t next (a ∷ xs)
      (not_stop close (t ++ next) is_close (rw (m.split, three m.left m.gap m.right next) ((o seen before).holds m.left (m.gap ++ (m.right ++ next)) a m.first).0))
      (rw m.split (then_answers (r seen before) _ a (a ∷ xs) m.left m.gap m.right next
      ((x seen before).complete m.left (m.gap ++ (m.right ++ next)) a m.first (stops_gap m.gap (m.right ++ next) m.is_gap (tail_stops L close is_close (a ∷ seen) m.right next xs m.second f m.is_gap.longest)) n')
      m.is_gap
      (stops_no_slash (m.right ++ next) (tail_stops L close is_close (a ∷ seen) m.right next xs m.second f m.is_gap.longest))
      (answers_means (more a) _ m.right next xs (a ∷ xs) refl (h m.right m.second m.is_gap.longest))))

  -- a comma, and then more
  after_comma : {B : Type 0} (q : Text → Reader B) (b d : B) (t next : Text) (M : Text → Lang Done) (l : Then (Mark 44 done) (λ _. M) t next done)
      → is_at 47 (l.right ++ next) ≡ false → Answers (q l.gap) l.right next b → Answers (pick (is_at 44) (in_sequence (mark 44 done) (λ _. q)) (give d)) t next b
  after_comma q b d t next M l k h = answers_left (is_at 44) _ _ t next b (rw (l.split, l.first.0) refl)
      (rw l.split (then_answers (mark 44 done) (λ _. q) done b l.left l.gap l.right next (record { answer = rw l.first.0 refl }) l.is_gap k h))

  tail_complete : (fuel : ℕ) (seen : List A) (t next : Text) (xs : List A) → length xs < fuel → Tail L seen t next xs → Before close next → skip (t ++ next) ≡ t ++ next → Answers (tail r close fuel seen) t next xs
  unfolding tail
  tail_complete zero seen t next xs h l f n = absurd (omega arith)
  tail_complete (suc fuel) seen t next [] h (inl l) f n = answers_right (is_at 44) _ _ t next [] (rw (← n, l.0) (is_at_other close 44 (skip next) f no_comma)) (record { answer = rw l.0 refl })
  tail_complete (suc fuel) seen t next [] h (inr l) f n = after_comma _ [] [] t next _ l
      (before_no_slash close (l.right ++ next) is_close (rw (← l.is_gap.longest, l.second.0) f))
      (answers_left (is_at close) _ _ l.right next [] (rw (← l.is_gap.longest, l.second.0) f) (record { answer = rw l.second.0 refl }))
  tail_complete (suc fuel) seen t next (a ∷ xs) h l f n = after_comma _ (a ∷ xs) [] t next _ l
      (rw (l.second.split, three l.second.left l.second.gap l.second.right next) ((o seen l.gap).holds l.second.left (l.second.gap ++ (l.second.right ++ next)) a l.second.first).2)
      (more_answers (λ b. tail r close fuel (b ∷ seen)) seen l.gap a xs l.right next (λ u z m. tail_complete fuel (a ∷ seen) u next xs (omega arith) z f m) l.second f l.is_gap.longest)

  exact_tail : (seen : List A) → Exact (tail_all r close seen) (Tail L seen) (Before close)
  exact_tail seen = record {
    sound = λ s xs rest e. tail_sound (suc (length s)) seen s xs rest e;
    complete = λ t next xs h f n.
        record { answer = (tail_complete (suc (length (t ++ next))) seen t next xs (let m = tail-length L seen t next xs h in omega (arith, length-append t next)) h f n).answer };
  }

  read_items : (before : Text) (t next : Text) (xs : List A)
      → Or (When (is_at close) (Empty [])) (When (λ s. not (is_at close s)) (Then (L [] before) (λ a _. Means (Tail L (a ∷ [])) (λ xs. Some (a ∷ xs))))) t next xs → Items L before t next xs
  read_items before t next xs (inl h) = rw (← h.1.1) h.1.0
  read_items before t next xs (inr (q, k)) = rw (← same_Some _ _ k.second.meant)
      (record { value = done; left = k.left; gap = k.gap; right = k.right; split = k.split; first = k.first; is_gap = k.is_gap; second = k.second.spelled })

  pub exact_items : (before : Text) → Exact (items r close before) (Items L before) (Before close)
  exact_items before = record { sound = to; complete = from }
    where
      to : Sound (items r close before) (Items L before)
      to = sound_like _ _ _ (read_items before)
          (sound_pick _ _ _ _ _ (exact_give [] Anything).sound (sound_chain (r [] before) _ (L [] before) _ (x [] before).sound (λ a _. sound_means (tail_all r close (a ∷ [])) (Tail L (a ∷ [])) _ (exact_tail (a ∷ [])).sound)))

      from : Complete (items r close before) (Items L before) (Before close)
      from t next [] h f n = answers_left (is_at close) _ _ t next [] (rw (← n, h) f) (record { answer = rw h refl })
      from t next (a ∷ xs) h f n = more_answers (λ b. tail_all r close (b ∷ [])) [] before a xs t next (λ u z m. (exact_tail (a ∷ [])).complete u next xs z f m) h f n

-- ---- groups

-- the closing character follows
pub closes : {A : Type 0} (c : ℕ) (a : A) (gap right next : Text) (b : A) → LongGap gap (right ++ next) → Mark c a right next b → Anything next → Before c (gap ++ (right ++ next))
closes c a gap right next b g m _ = ap (is_at c) (skip-append gap (right ++ next) g) ∙ rw m.0 (eq-eqb c c refl)

pub exact_group : {A : Type 0} (o c : ℕ) (r : Text → Reader A) (L : Text → Lang A) → (c == 47) ≡ false → ((gap : Text) → Exact (r gap) (L gap) (Before c)) → ((gap : Text) → Begins (L gap) (Before c))
    → Exact (group o c r) (Group o c L) Anything
exact_group {A} o c r L n x h =
    exact_chain _ _ _ _ Anything Anything (exact_word Anything (word_mark o done))
    (λ _ gap. exact_chain _ _ _ _ (Before c) Anything (x gap) (λ a _. exact_word Anything (word_mark c a)) (λ a _. begins_mark c a Anything n) (λ a. closes c a))
    (λ _ gap. begins_then (L gap) (λ a _. Mark c a) (Before c) Anything (h gap) (λ a. closes c a))
    (λ _ _ _ _ _ _ _ _. tt)

-- ---- how the others begin

pub begins_first : {A : Type 0} {L : Lang A} (F : Text → Type 0) → First (λ s. is_at 47 s ≡ false) L → Begins L F
begins_first F h = record { no_slash = λ t next a z f n. h.holds t next a z }

pub begins_or : {A : Type 0} {L M : Lang A} {F : Text → Type 0} → Begins L F → Begins M F → Begins (Or L M) F
begins_or {A} {L} {M} {F} h k = record { no_slash = at }
  where
    at : (t next : Text) (a : A) → Or L M t next a → F next → skip (t ++ next) ≡ t ++ next → is_at 47 (t ++ next) ≡ false
    at t next a (inl z) = h.no_slash t next a z
    at t next a (inr z) = k.no_slash t next a z

pub begins_opt_comma : {A : Type 0} (a : A) → Begins (OptComma a) (Before 41)
begins_opt_comma {A} a = record { no_slash = at }
  where
    at : (t next : Text) (b : A) → OptComma a t next b → Before 41 next → skip (t ++ next) ≡ t ++ next → is_at 47 (t ++ next) ≡ false
    at t next b (inl h) f n = rw h.0 refl
    at t next b (inr h) f n = before_no_slash 41 (t ++ next) refl (rw (← n, h.0) f)

pub begins_items : {A : Type 0} (L : List A → Text → Lang A) (close : ℕ) → is_delimiter close ≡ true → ((seen : List A) (before : Text) → Opens (L seen before)) → (before : Text) → Begins (Items L before) (Before close)
begins_items {A} L close s o before = record { no_slash = at }
  where
    at : (t next : Text) (xs : List A) → Items L before t next xs → Before close next → skip (t ++ next) ≡ t ++ next → is_at 47 (t ++ next) ≡ false
    at t next [] z f n = before_no_slash close (t ++ next) s (rw (← n, z) f)
    at t next (a ∷ xs) z f n = rw (z.split, three z.left z.gap z.right next) ((o [] before).holds z.left (z.gap ++ (z.right ++ next)) a z.first).2

pub comma_follows : {A : Type 0} (a : A) (gap right next : Text) (b : A) → LongGap gap (right ++ next) → OptComma a right next b → Before 41 next → FollowsValue (gap ++ (right ++ next))
comma_follows {A} a gap right next b g m e = stops_gap gap (right ++ next) g (at m)
  where
    at : OptComma a right next b → ends_value (right ++ next) ≡ true
    at (inl h) = rw h.0 refl
    at (inr h) = before_stops 41 (right ++ next) refl (rw (← g.longest, h.0) e)
