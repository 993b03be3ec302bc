-- Two languages over one text: where both spell a front of it, both fronts are the same, and what they spell is related.
-- One lemma for each way to make a language; all of `Agreement` rests on it.
use Rattle.std.proofs.Common.{◌≡◌, ℕ, ◌==◌, Bool, true, false, List, [], ◌∷◌, ◌++◌, inl, inr, Option, Some, refl, sym, ap, subst, ◌∙◌}
use Rattle.std.proofs.lemmas.Bool.{true≢false, false≢true}
use lib.Utf8.{scalars}
use Rattle.ron_spec_words.specs.Characters.{Text, comma}
use Rattle.ron_spec_words.specs.Runs.{is_at}
use Rattle.ron_spec_words.specs.Gap.{LongGap, skip, gap_of, is_delimiter, ends_value}
use Rattle.ron_spec_words.specs.Lang.{Lang, Done, done, Empty, Mark, Then, Means, Or, At, Tail, Items, Group, Needs}
use Rattle.ron_spec_words.specs.Reader.{got, Reader}
use Rattle.ron_spec_words.specs.Exact.{IsWordReader, Anything, Before, FollowsValue}
use Rattle.ron_spec_words.proofs.Gaps.{skip-append, gap_of-append}
use Rattle.ron_spec_words.proofs.Words.{First}
use Rattle.ron_spec_words.proofs.Exactly.{Opens, three, closes, is_at_other, not_stop, stops_gap, tail_stops}
use Rattle.ron_spec_grammar.proofs.Values.Telling.{Starts}
use Rattle.ron_spec_grammar.proofs.Agreement.Scalars.{scalars_behind}

pub record Agree {A B : Type 0} (L : Lang A) (M : Lang B) (F : Text → Type 0) (R : A → B → Type 0) : Type 0 where
  pub at : (t next u other : Text) (a : A) (b : B) → t ++ next ≡ u ++ other → scalars (t ++ next) ≡ true → skip (t ++ next) ≡ t ++ next → L t next a → F next
      → M u other b → F other → (next ≡ other) × R a b

-- what may follow what stands first
abbrev pub Follows : {B : Type 0} → Lang B → (Text → Type 0) → (Text → Type 0) → Type 0
Follows {B} M F G = (gap right next : Text) (b : B) → LongGap gap (right ++ next) → M right next b → G next → F (gap ++ (right ++ next))

pub got_both : {A : Type 0} (a b : A) (s t : Text) → got a s ≡ got b t → (s ≡ t) × (a ≡ b)
got_both a b s t e = (cc, cc)

-- ---- words, and what tells two languages apart

pub agree_word : {A : Type 0} {r : Reader A} {L : Lang A} {F : Text → Type 0} → IsWordReader r L → Agree L L F (λ a b. a ≡ b)
agree_word {r = r} h = record {
  at = λ t next u other a b e _ _ z _ y _. got_both a b next other (sym (h.complete t next a z).answer ∙ ap r e ∙ (h.complete u other b y).answer);
}

pub agree_tells : {A B : Type 0} {L : Lang A} {M : Lang B} {F : Text → Type 0} {R : A → B → Type 0} (p : Text → Bool) (b c : Bool) → (b ≡ c → ⊥)
    → Starts p b L F → Starts p c M F → Agree L M F R
agree_tells p b c apart h k = record {
  at = λ t next u other x y e _ n z f w g. absurd (apart (sym (h.at t next x z f n) ∙ ap p e ∙ k.at u other y w g (subst (λ s. skip s ≡ s) e n)));
}

pub agree_apart : {A B : Type 0} {L : Lang A} {M : Lang B} {F : Text → Type 0} {R : A → B → Type 0} (P Q : Text → Type 0) → ((s : Text) → P s → Q s → ⊥)
    → First P L → First Q M → Agree L M F R
agree_apart P Q apart h k =
    record { at = λ t next u other x y e _ _ z _ w _. absurd (apart (u ++ other) (subst P e (h.holds t next x z)) (k.holds u other y w)) }

pub agree_marks : {A B : Type 0} {F : Text → Type 0} {R : A → B → Type 0} (c : ℕ) (a : A) (b : B) → R a b → Agree (Mark c a) (Mark c b) F R
agree_marks {R = R} c a b r = record {
  at = λ t next u other x y e _ _ z _ w _.
      let k : c ∷ next ≡ c ∷ other = sym (ap (λ v. v ++ next) z.0) ∙ e ∙ ap (λ v. v ++ other) w.0 in
      (cc, subst (λ v. R v y) z.1 (subst (λ v. R a v) w.1 r));
}

pub agree_empty : {A B : Type 0} {F : Text → Type 0} {R : A → B → Type 0} (a : A) (b : B) → R a b → Agree (Empty a) (Empty b) F R
agree_empty {R = R} a b r = record {
  at = λ t next u other x y e _ _ z _ w _. (sym (ap (λ v. v ++ next) z.0) ∙ e ∙ ap (λ v. v ++ other) w.0, subst (λ v. R v y) z.1 (subst (λ v. R a v) w.1 r));
}

-- ---- what is made of what is spelled

pub agree_map : {A B : Type 0} {L : Lang A} {M : Lang B} {F : Text → Type 0} {R S : A → B → Type 0} → ((a : A) (b : B) → R a b → S a b) → Agree L M F R
    → Agree L M F S
agree_map k h = record { at = λ t next u other a b e s n z f y g. (let p = h.at t next u other a b e s n z f y g in (p.0, k a b p.1)) }

pub agree_within : {A B : Type 0} {L K : Lang A} {M N : Lang B} {F : Text → Type 0} {R : A → B → Type 0} → ((t next : Text) (a : A) → K t next a → L t next a)
    → ((t next : Text) (b : B) → N t next b → M t next b) → Agree L M F R → Agree K N F R
agree_within l m h = record { at = λ t next u other a b e s n z f y g. h.at t next u other a b e s n (l t next a z) f (m u other b y) g }

pub agree_at : {A B : Type 0} {L : Lang A} {M : Lang B} {F : Text → Type 0} {R : A → B → Type 0} (a : A) (b : B) → Agree L M F R
    → Agree (At L a) (At M b) F (λ _ _. R a b)
agree_at a b h = record { at = λ t next u other _ _ e s n z f y g. h.at t next u other a b e s n z f y g }

pub agree_meant : {A B C : Type 0} {L : Lang A} {M : Lang B} {F : Text → Type 0} {R : A → B → Type 0} {S : C → B → Type 0} (f : A → Option C)
    → ((a : A) (b : B) (c : C) → R a b → f a ≡ Some c → S c b) → Agree L M F R → Agree (Means L f) M F S
agree_meant f k h =
    record { at = λ t next u other c b e s n z g y o. (let p = h.at t next u other z.value b e s n z.spelled g y o in (p.0, k z.value b c p.1 z.meant)) }

pub agree_means : {A B C : Type 0} {L : Lang A} {M : Lang B} {F : Text → Type 0} {R : A → B → Type 0} {S : A → C → Type 0} (f : B → Option C)
    → ((a : A) (b : B) (c : C) → R a b → f b ≡ Some c → S a c) → Agree L M F R → Agree L (Means M f) F S
agree_means f k h =
    record { at = λ t next u other a c e s n z g y o. (let p = h.at t next u other a y.value e s n z g y.spelled o in (p.0, k a y.value c p.1 y.meant)) }

pub agree_both : {A B C D : Type 0} {L : Lang A} {M : Lang B} {F : Text → Type 0} {R : A → B → Type 0} {S : C → D → Type 0} (f : A → Option C)
    (g : B → Option D) → ((a : A) (b : B) (c : C) (d : D) → R a b → f a ≡ Some c → g b ≡ Some d → S c d) → Agree L M F R → Agree (Means L f) (Means M g) F S
agree_both f g k h = record {
  at = λ t next u other c d e s n z x y o.
      (let p = h.at t next u other z.value y.value e s n z.spelled x y.spelled o in (p.0, k z.value y.value c d p.1 z.meant y.meant));
}

pub agree_needs : {A B : Type 0} {L : Lang A} {M : Lang B} {F : Text → Type 0} {R : A → B → Type 0} (j k m n : ℕ) → Agree L M F R
    → Agree (Needs j k L) (Needs m n M) F R
agree_needs j k m n h = agree_within (λ t next a z. z.1) (λ t next b z. z.1) h

pub agree_left : {A B : Type 0} {L K : Lang A} {M : Lang B} {F : Text → Type 0} {R : A → B → Type 0} → Agree L M F R → Agree K M F R → Agree (Or L K) M F R
agree_left {A} {B} {L} {K} {M} {F} {R} h k = record { at = go }
  where
    go : (t next u other : Text) (a : A) (b : B) → t ++ next ≡ u ++ other → scalars (t ++ next) ≡ true → skip (t ++ next) ≡ t ++ next → Or L K t next a → F next
        → M u other b → F other → (next ≡ other) × R a b
    go t next u other a b e s n (inl z) f y g = h.at t next u other a b e s n z f y g
    go t next u other a b e s n (inr z) f y g = k.at t next u other a b e s n z f y g

pub agree_right : {A B : Type 0} {L : Lang A} {M N : Lang B} {F : Text → Type 0} {R : A → B → Type 0} → Agree L M F R → Agree L N F R → Agree L (Or M N) F R
agree_right {A} {B} {L} {M} {N} {F} {R} h k = record { at = go }
  where
    go : (t next u other : Text) (a : A) (b : B) → t ++ next ≡ u ++ other → scalars (t ++ next) ≡ true → skip (t ++ next) ≡ t ++ next → L t next a → F next
        → Or M N u other b → F other → (next ≡ other) × R a b
    go t next u other a b e s n z f (inl y) g = h.at t next u other a b e s n z f y g
    go t next u other a b e s n z f (inr y) g = k.at t next u other a b e s n z f y g

-- where nothing is told by what is spelled
pub agree_done : {L M : Lang Done} {F : Text → Type 0} {S : Type 0} → Agree L M F (λ _ _. S)
    → Agree {A = Done} {B = Done} (λ t next _. L t next done) (λ t next _. M t next done) F (λ _ _. S)
agree_done h = record { at = λ t next u other _ _ e s n z f y g. h.at t next u other done done e s n z f y g }

-- ---- one behind the other

whole : (t next left gap right : Text) → t ≡ left ++ (gap ++ right) → t ++ next ≡ left ++ (gap ++ (right ++ next))
whole t next left gap right e = ap (λ v. v ++ next) e ∙ three left gap right next

pub agree_then : {A B C D : Type 0} {L : Lang A} {M : A → Text → Lang B} {K : Lang C} {N : C → Text → Lang D} {F G : Text → Type 0} {R : A → C → Type 0}
    {S : B → D → Type 0}
    → Agree L K F R → ((a : A) (c : C) (gap : Text) → R a c → Agree (M a gap) (N c gap) G S)
    → ((a : A) (gap : Text) → Follows (M a gap) F G) → ((c : C) (gap : Text) → Follows (N c gap) F G) → Agree (Then L M) (Then K N) G S
agree_then {M = M} h k p q = record {
  at = λ t next u other b d e s n z f y g.
      let l = whole t next z.left z.gap z.right z.split in
      let r = whole u other y.left y.gap y.right y.split in
      let one = h.at z.left (z.gap ++ (z.right ++ next)) y.left (y.gap ++ (y.right ++ other)) z.value y.value (sym l ∙ e ∙ r)
      (subst (λ v. scalars v ≡ true) l s) (subst (λ v. skip v ≡ v) l n)
      z.first (p z.value z.gap z.gap z.right next b z.is_gap z.second f) y.first (q y.value y.gap y.gap y.right other d y.is_gap y.second g) in
      let gaps : z.gap ≡ y.gap = sym (gap_of-append z.gap (z.right ++ next) z.is_gap) ∙ ap gap_of one.0 ∙ gap_of-append y.gap (y.right ++ other) y.is_gap in
      let rests : z.right ++ next ≡ y.right ++ other =
      sym (skip-append z.gap (z.right ++ next) z.is_gap) ∙ ap skip one.0 ∙ skip-append y.gap (y.right ++ other) y.is_gap in
      (k z.value y.value y.gap one.1).at z.right next y.right other b d rests
      (scalars_behind z.gap _ (scalars_behind z.left _ (subst (λ v. scalars v ≡ true) l s))) z.is_gap.longest
      (subst (λ v. M z.value v z.right next b) gaps z.second) f y.second g;
}

-- where anything may follow the first
pub agree_behind : {A B C D : Type 0} {L : Lang A} {M : A → Text → Lang B} {K : Lang C} {N : C → Text → Lang D} {G : Text → Type 0} {R : A → C → Type 0}
    {S : B → D → Type 0}
    → Agree L K Anything R → ((a : A) (c : C) (gap : Text) → R a c → Agree (M a gap) (N c gap) G S) → Agree (Then L M) (Then K N) G S
agree_behind h k = agree_then h k (λ _ _ _ _ _ _ _ _ _. tt) (λ _ _ _ _ _ _ _ _ _. tt)

pub agree_group : {A B : Type 0} {L : Text → Lang A} {M : Text → Lang B} {F : Text → Type 0} {R : A → B → Type 0} (o c : ℕ)
    → ((gap : Text) → Agree (L gap) (M gap) (Before c) R) → Agree (Group o c L) (Group o c M) F R
agree_group o c h = agree_behind (agree_marks {R = λ _ _. Unit {0}} o done done tt) (λ _ _ gap _. agree_then (h gap) (λ a b _ r. agree_marks c a b r)
    (λ a _ gap right next b g z _. closes c a gap right next b g z tt) (λ a _ gap right next b g z _. closes c a gap right next b g z tt))

-- ---- items

-- each item is related to the one at its place, behind the items before it
abbrev pub Along : {A B : Type 0} → (List A → A → B → Type 0) → List A → List A → List B → Type 0
Along R seen [] [] = Unit {0}
Along R seen (x ∷ xs) (y ∷ ys) = R seen x y × Along R (x ∷ seen) xs ys
Along R seen [] (y ∷ ys) = ⊥
Along R seen (x ∷ xs) [] = ⊥

pub empty_at : (close : ℕ) (t next : Text) → t ≡ [] → Before close next → skip (t ++ next) ≡ t ++ next → is_at close (t ++ next) ≡ true
empty_at close t next e f n = ap (is_at close) (sym n ∙ ap (λ v. skip (v ++ next)) e) ∙ f

done_is : (a : Done) → done ≡ a
done_is done = refl

module _ {A B : Type 0} (L : List A → Text → Lang A) (M : List B → Text → Lang B) (close : ℕ) (is_close : is_delimiter close ≡ true)
    (no_comma : (close == 44) ≡ false) (R : List A → A → B → Type 0)
    (h : (seen : List A) (other : List B) (before : Text) → Agree (L seen before) (M other before) FollowsValue (R seen))
    (o : (seen : List A) (before : Text) → Opens (L seen before)) (p : (seen : List B) (before : Text) → Opens (M seen before)) where
  -- the items after the first, which stand before the closing character
  abbrev LTail : List A → List A → Lang Done
  LTail seen xs t next _ = Tail L seen t next xs

  abbrev MTail : List B → List B → Lang Done
  MTail seen ys t next _ = Tail M seen t next ys

  abbrev LMore : List A → Text → A → List A → Lang Done
  LMore seen gap x xs = Then (At (L seen gap) x) (λ _ _ u n _. Tail L (x ∷ seen) u n xs)

  abbrev MMore : List B → Text → B → List B → Lang Done
  MMore seen gap y ys = Then (At (M seen gap) y) (λ _ _ u n _. Tail M (y ∷ seen) u n ys)

  -- what follows an item
  l_follows : (seen : List A) (x : A) (xs : List A) → Follows (LTail (x ∷ seen) xs) FollowsValue (Before close)
  l_follows seen x xs gap right next b g z f = stops_gap gap (right ++ next) g (tail_stops L close is_close (x ∷ seen) right next xs z f g.longest)

  m_follows : (seen : List B) (y : B) (ys : List B) → Follows (MTail (y ∷ seen) ys) FollowsValue (Before close)
  m_follows seen y ys gap right next b g z f = stops_gap gap (right ++ next) g (tail_stops M close is_close (y ∷ seen) right next ys z f g.longest)

  l_open : (seen : List A) (gap : Text) (x : A) (xs : List A) → Starts (is_at close) false (LMore seen gap x xs) (Before close)
  l_open seen gap x xs = record {
    at = λ t next a z f n. not_stop close (t ++ next) is_close (subst (λ v. ends_value v ≡ false) (sym (whole t next z.left z.gap z.right z.split))
        ((o seen gap).holds z.left (z.gap ++ (z.right ++ next)) x z.first).0);
  }

  l_open_so : (seen : List A) (gap : Text) (x : A) (xs : List A)
      → Starts {A = Done} (is_at close) false (λ t next _. LMore seen gap x xs t next done) (Before close)
  l_open_so seen gap x xs = record { at = λ t next a z f n. (l_open seen gap x xs).at t next done z f n }

  m_open : (seen : List B) (gap : Text) (y : B) (ys : List B) → Starts (is_at close) false (MMore seen gap y ys) (Before close)
  m_open seen gap y ys = record {
    at = λ t next a z f n. not_stop close (t ++ next) is_close (subst (λ v. ends_value v ≡ false) (sym (whole t next z.left z.gap z.right z.split))
        ((p seen gap).holds z.left (z.gap ++ (z.right ++ next)) y z.first).0);
  }

  m_open_so : (seen : List B) (gap : Text) (y : B) (ys : List B)
      → Starts {A = Done} (is_at close) false (λ t next _. MMore seen gap y ys t next done) (Before close)
  m_open_so seen gap y ys = record { at = λ t next a z f n. (m_open seen gap y ys).at t next done z f n }

  closed : Starts (is_at close) true (Empty done) (Before close)
  closed = record { at = λ t next a z f n. empty_at close t next z.0 f n }

  no_comma_at : Starts (is_at 44) false (Empty done) (Before close)
  no_comma_at = record { at = λ t next a z f n. is_at_other close 44 (t ++ next) (empty_at close t next z.0 f n) no_comma }

  comma_at : (K : Text → Lang Done) → Starts (is_at 44) true (Then (Mark comma done) (λ _ gap. K gap)) (Before close)
  comma_at K = record { at = λ t next a z f n. rw (z.split, z.first.0) refl }

  behind_comma : {S : Type 0} {K N : Text → Lang Done} → ((gap : Text) → Agree (K gap) (N gap) (Before close) (λ _ _. S))
      → Agree (Then (Mark comma done) (λ _ gap. K gap)) (Then (Mark comma done) (λ _ gap. N gap)) (Before close) (λ _ _. S)
  behind_comma k = agree_behind (agree_marks {R = λ _ _. Unit {0}} comma done done tt) (λ _ _ gap _. k gap)

  more : (seen : List A) (other : List B) (gap : Text) (x : A) (y : B) (xs : List A) (ys : List B)
      → Agree (LTail (x ∷ seen) xs) (MTail (y ∷ other) ys) (Before close) (λ _ _. Along R (x ∷ seen) xs ys)
      → Agree (LMore seen gap x xs) (MMore other gap y ys) (Before close) (λ _ _. R seen x y × Along R (x ∷ seen) xs ys)
  more seen other gap x y xs ys k = agree_then {M = λ _ _. LTail (x ∷ seen) xs} {N = λ _ _. MTail (y ∷ other) ys} (agree_at x y (h seen other gap))
      (λ _ _ _ r. agree_map (λ _ _ s. (r, s)) k) (λ _ _. l_follows seen x xs) (λ _ _. m_follows other y ys)

  tails : (xs : List A) (ys : List B) (seen : List A) (other : List B) → Agree (LTail seen xs) (MTail other ys) (Before close) (λ _ _. Along R seen xs ys)
  tails [] [] seen other =
      agree_done
      (agree_left (agree_right (agree_empty done done tt) (agree_tells (is_at 44) false true false≢true no_comma_at (comma_at (λ _. Empty done))))
      (agree_right (agree_tells (is_at 44) true false true≢false (comma_at (λ _. Empty done)) no_comma_at) (behind_comma (λ _. agree_empty done done tt))))
  tails [] (y ∷ ys) seen other =
      agree_done
      (agree_left (agree_tells (is_at 44) false true false≢true no_comma_at (comma_at (λ gap. MMore other gap y ys)))
      (behind_comma (λ gap. agree_tells (is_at close) true false true≢false closed (m_open other gap y ys))))
  tails (x ∷ xs) [] seen other =
      agree_done
      (agree_right (agree_tells (is_at 44) true false true≢false (comma_at (λ gap. LMore seen gap x xs)) no_comma_at)
      (behind_comma (λ gap. agree_tells (is_at close) false true false≢true (l_open seen gap x xs) closed)))
  tails (x ∷ xs) (y ∷ ys) seen other = agree_done (behind_comma (λ gap. more seen other gap x y xs ys (tails xs ys (x ∷ seen) (y ∷ other))))

  all_items : (before : Text) (xs : List A) (ys : List B)
      → Agree {A = Done} {B = Done} (λ t next _. Items L before t next xs) (λ t next _. Items M before t next ys) (Before close) (λ _ _. Along R [] xs ys)
  all_items before [] [] =
      agree_within {L = Empty done} {M = Empty done} (λ t next a z. (z, done_is a)) (λ t next b z. (z, done_is b)) (agree_empty done done tt)
  all_items before [] (y ∷ ys) = agree_within {L = Empty done} {M = λ t next _. MMore [] before y ys t next done} (λ t next a z. (z, done_is a))
      (λ t next b z. z) (agree_tells (is_at close) true false true≢false closed (m_open_so [] before y ys))
  all_items before (x ∷ xs) [] = agree_within {L = λ t next _. LMore [] before x xs t next done} {M = Empty done} (λ t next a z. z)
      (λ t next b z. (z, done_is b)) (agree_tells (is_at close) false true false≢true (l_open_so [] before x xs) closed)
  all_items before (x ∷ xs) (y ∷ ys) = agree_done (more [] [] before x y xs ys (tails xs ys (x ∷ []) (y ∷ [])))

  pub agree_items : (before : Text) → Agree (Items L before) (Items M before) (Before close) (λ xs ys. Along R [] xs ys)
  agree_items before = record { at = λ t next u other xs ys e s n z f y g. (all_items before xs ys).at t next u other done done e s n z f y g }
