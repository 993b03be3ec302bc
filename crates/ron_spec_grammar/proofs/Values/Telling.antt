-- Where what stands first, and what may follow, tells two languages apart.
use Rattle.std.proofs.Common.{◌≡◌, ℕ, Bool, true, false, not, List, [], ◌∷◌, ◌++◌, inl, inr, Option, refl, ap, subst, ◌∙◌}
use Rattle.ron_spec_words.specs.Characters.{Text}
use Rattle.ron_spec_words.specs.Runs.{is_at}
use Rattle.ron_spec_words.specs.Gap.{LongGap, skip}
use Rattle.ron_spec_words.specs.Lang.{Lang, done, Empty, Then, Means, Or, At, OptComma, Tail, Items, Needs}
use Rattle.ron_spec_words.specs.Reader.{Reader, give, pick}
use Rattle.ron_spec_words.specs.Exact.{Complete, Exact, Before}
use Rattle.ron_spec_words.proofs.Gaps.{skip-append}
use Rattle.ron_spec_words.proofs.Words.{First, sound_like, sound_pick, without_test, answers_left, answers_right}
use Rattle.ron_spec_words.proofs.Exactly.{Opens, three, not_stop, is_at_other, exact_give, before_no_slash, begins_or}
use Rattle.ron_spec_words.proofs.Room.{agrees_same, agrees_pick, shallow_pick, shallow_calm}
use Rattle.ron_spec_words.proofs.Values.{values_or}
use Rattle.ron_spec_words.proofs.Passing.{passes_or, passes_empty}
use Rattle.ron_spec_words.proofs.Parts.{Part}

-- What is spelled, with what may follow it, answers the test so.
pub record Starts {A : Type 0} (p : Text → Bool) (b : Bool) (L : Lang A) (F : Text → Type 0) : Type 0 where
  pub at : (t next : Text) (a : A) → L t next a → F next → skip (t ++ next) ≡ t ++ next → p (t ++ next) ≡ b

pub starts_first : {A : Type 0} {p : Text → Bool} {b : Bool} {L : Lang A} (F : Text → Type 0) → First (λ s. p s ≡ b) L → Starts p b L F
starts_first F h = record { at = λ t next a z _ _. h.holds t next a z }

pub starts_or : {A : Type 0} {p : Text → Bool} {b : Bool} {L M : Lang A} {F : Text → Type 0} → Starts p b L F → Starts p b M F → Starts p b (Or L M) F
starts_or {A} {p} {b} {L} {M} {F} h k = record { at = both }
  where
    both : (t next : Text) (a : A) → Or L M t next a → F next → skip (t ++ next) ≡ t ++ next → p (t ++ next) ≡ b
    both t next a (inl z) = h.at t next a z
    both t next a (inr z) = k.at t next a z

pub starts_means : {A B : Type 0} {p : Text → Bool} {b : Bool} {L : Lang A} {F : Text → Type 0} {f : A → Option B} → Starts p b L F → Starts p b (Means L f) F
starts_means h = record { at = λ t next a z. h.at t next z.value z.spelled }

pub starts_needs : {A : Type 0} {p : Text → Bool} {b : Bool} {L : Lang A} {F : Text → Type 0} {k room : ℕ} → Starts p b L F → Starts p b (Needs k room L) F
starts_needs h = record { at = λ t next a z. h.at t next a z.1 }

-- it answers as its first part does
pub starts_then : {A B : Type 0} {p : Text → Bool} {b : Bool} {L : Lang A} {M : A → Text → Lang B} {F G : Text → Type 0} → Starts p b L F
    → ((a : A) (gap right next : Text) (x : B) → LongGap gap (right ++ next) → M a gap right next x → G next → F (gap ++ (right ++ next)))
    → Starts p b (Then L M) G
starts_then {p = p} {b = b} h follows = record {
  at = λ t next x z g n.
      let n' : skip (z.left ++ (z.gap ++ (z.right ++ next))) ≡ z.left ++ (z.gap ++ (z.right ++ next)) = rw (z.split, three z.left z.gap z.right next) at n in
      rw (z.split, three z.left z.gap z.right next)
      (h.at z.left (z.gap ++ (z.right ++ next)) z.value z.first (follows z.value z.gap z.right next x z.is_gap z.second g) n');
}

-- no `)` stands where items begin
pub not_close : {A : Type 0} {L : Lang A} {F : Text → Type 0} → Opens L → Starts (is_at 41) false L F
not_close o = record { at = λ t next a z _ _. not_stop 41 (t ++ next) refl (o.holds t next a z).0 }

module _ {A : Type 0} (p : Text → Bool) {r g : Reader A} {L M : Lang A} {F : Text → Type 0} where
  tell_complete : Starts p true L F → Starts p false M F → Exact r L F → Exact g M F → Complete (pick p r g) (Or L M) F
  tell_complete l m x y t next a (inl z) h n = answers_left p r g t next a (l.at t next a z h n) (x.complete t next a z h n)
  tell_complete l m x y t next a (inr z) h n = answers_right p r g t next a (m.at t next a z h n) (y.complete t next a z h n)

  pub part_tell : {room step : ℕ} {commas : Bool} {P : A → Type 0} {q f : Reader A} {e : ℕ} → Starts p true L F → Starts p false M F
      → Part room step commas P q r L F e → Part room step commas P f g M F e → Part room step commas P (pick p q f) (pick p r g) (Or L M) F e
  part_tell l m h k = record {
    exact = record {
      sound = sound_like _ _ _ (without_test p (λ s. not (p s)) L M) (sound_pick p r g L M h.exact.sound k.exact.sound);
      complete = tell_complete l m h.exact k.exact;
    };
    begins = begins_or h.begins k.begins;
    agrees = agrees_pick p h.agrees k.agrees;
    shallow = λ n w. shallow_pick p (h.shallow n w) (k.shallow n w);
    values = values_or h.values k.values;
    passes = passes_or h.passes k.passes;
  }

-- ---- nothing, before `)`

pub empty_closes : {A : Type 0} (a : A) → Starts (is_at 41) true (Empty a) (Before 41)
empty_closes a = record { at = λ t next b z f n. rw (← n, z.0) f }

pub part_give : {room step e : ℕ} {A : Type 0} {P : A → Type 0} (a : A) → P a → Part room step true P (give a) (give a) (Empty a) (Before 41) e
part_give {P = P} a h = record {
  exact = exact_give a (Before 41);
  begins = record { no_slash = λ t next b z f n. before_no_slash 41 (t ++ next) refl (rw (← n, z.0) f) };
  agrees = agrees_same _;
  shallow = λ n w. shallow_calm n (λ s e. cc);
  values = record { are = λ t next b z. subst P z.1 h };
  passes = passes_empty a;
}

-- ---- items and one value, before what is no colon

-- behind a gap, no colon follows
abbrev pub NoColon : Text → Type 0
NoColon next = is_at 58 (skip next) ≡ false

pub gap_no_colon : (gap s : Text) → LongGap gap s → is_at 58 s ≡ false → NoColon (gap ++ s)
gap_no_colon gap s g e = ap (is_at 58) (skip-append gap s g) ∙ e

close_no_colon : (s : Text) → is_at 41 s ≡ true → is_at 58 s ≡ false
close_no_colon s e = is_at_other 41 58 s e refl

-- nor behind a value with its comma
pub comma_no_colon : {A : Type 0} (a : A) (gap right next : Text) (b : A) → LongGap gap (right ++ next) → OptComma a right next b → Before 41 next
    → NoColon (gap ++ (right ++ next))
comma_no_colon {A} a gap right next b g z f = gap_no_colon gap (right ++ next) g (go z)
  where
    go : OptComma a right next b → is_at 58 (right ++ next) ≡ false
    go (inl y) = rw y.0 refl
    go (inr y) = close_no_colon (right ++ next) (rw (← g.longest, y.0) f)

module _ {A : Type 0} (L : List A → Text → Lang A) where
  tail_no_colon : (seen : List A) (t next : Text) (xs : List A) → Tail L seen t next xs → Before 41 next → skip (t ++ next) ≡ t ++ next
      → is_at 58 (t ++ next) ≡ false
  tail_no_colon seen t next [] (inl z) f n = close_no_colon (t ++ next) (rw (← n, z.0) f)
  tail_no_colon seen t next [] (inr z) f n = rw (z.split, z.first.0) refl
  tail_no_colon seen t next (a ∷ xs) z f n = rw (z.split, z.first.0) refl

  -- what the first item answers, the items answer
  pub items_start : (p : Text → Bool) (b : Bool) (before : Text) → Starts p b (L [] before) NoColon → (t next : Text) (x : A) (xs : List A)
      → Items L before t next (x ∷ xs) → Before 41 next → skip (t ++ next) ≡ t ++ next → p (t ++ next) ≡ b
  items_start p b before h t next x xs z f n =
      (starts_then {p = p} {b = b} {L = At (L [] before) x} {M = λ _ _ u v _. Tail L (x ∷ []) u v xs} (record { at = λ u v a y. h.at u v x y })
      (λ _ gap right v _ g y c. gap_no_colon gap (right ++ v) g (tail_no_colon (x ∷ []) right v xs y c g.longest))).at t next done z f n

  pub items_first : (P : Text → Type 0) (before : Text) → First P (L [] before) → (t next : Text) (x : A) (xs : List A) → Items L before t next (x ∷ xs)
      → P (t ++ next)
  items_first P before h t next x xs z = rw (z.split, three z.left z.gap z.right next) (h.holds z.left (z.gap ++ (z.right ++ next)) x z.first)
