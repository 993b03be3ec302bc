-- Each way to make a language keeps that it says the same of texts of the same words.
use Rattle.std.proofs.Common.{◌≡◌, ℕ, Bool, true, false, List, [], ◌∷◌, ◌++◌, inl, inr, refl, if◌then◌else◌, eqb-true, sym, ap, subst, ◌∙◌, append-nil, codes, ◌==◌, ◌||◌}
use Rattle.std.proofs.lemmas.List.{append_cancel_right}
use Rattle.std.proofs.lemmas.Bool.{and_parts}
use Rattle.ron_spec_words.specs.Characters.{Text, continues_name}
use Rattle.ron_spec_words.specs.Runs.{begins, is_at}
use Rattle.ron_spec_words.specs.Gap.{Gap, LongGap, skip, is_delimiter, ends_value, none}
use Rattle.ron_spec_words.specs.Lang.{Lang, Done, done, Empty, Mark, Then, Or, At, Tail, Items, Group}
use Rattle.ron_spec_words.specs.Directly.{FixedWord}
use Rattle.ron_spec_words.specs.Exact.{Anything, Before as Before', FollowsValue}
use Rattle.ron_spec_words.specs.Scan.{starts_run, is_closing}
use Rattle.ron_spec_words.proofs.Gaps.{skip-append, skip-other}
use Rattle.ron_spec_words.proofs.Words.{first_or}
use Rattle.ron_spec_words.proofs.Classes.{solid_mark}
use Rattle.ron_spec_words.proofs.Exactly.{three, closes, stops_gap, tail_stops, Opens}
use Rattle.ron_spec_words.proofs.TokenRuns.{is_plain_run, token_fixed}
use Rattle.ron_format_words.specs.Alike.{nowhere, is_mark, is_solid, Before, a_parenthesis, a_mark, an_end, a_word, mark_before, ends_item, Gapped, Step, plain, added, dropped, Alike, ended, mark, word}
use Rattle.ron_format_words.specs.Moves.{Moved, Moves}
use Rattle.ron_format_words.specs.Alike.{SameWords}
use Rattle.ron_format_words.specs.Statement.{ABool, Whole, KeepsLists}
use Rattle.ron_spec_words.proofs.Gaps.{skip_to_end}
use Rattle.ron_spec_words.proofs.WordsPass.{plain_words}
use Rattle.ron_format_words.proofs.Steps.{alike_no_gap, after_mark, after_word, name_within, run_within}
use Rattle.ron_format_words.proofs.Ahead.{seen_same, sees_begins, front_behind}

-- ---- steps

-- behind what ends no item no comma comes or goes
pub closed_step : {k m : Text → Bool} {b : Before} {s u rest other : Text} → ends_item b ≡ false → Step k b s u rest other → Step m b s u rest other
closed_step e (plain x) = plain x
closed_step e (added c i b x y) = absurd (cc)
closed_step e (dropped c i b x y) = absurd (cc)

pub any_step : {m : Text → Bool} {b : Before} {s u rest other : Text} → Step nowhere b s u rest other → Step m b s u rest other
any_step (plain x) = plain x
any_step (added c i b x y) = absurd (cc)
any_step (dropped c i b x y) = absurd (cc)

mark_ends_none : (c : ℕ) → is_closing c ≡ false → ends_item (mark_before c) ≡ false
mark_ends_none c e = go (c == 40) (is_closing c) e
  where
    go : (x y : Bool) → y ≡ false → ends_item (if x then a_parenthesis else if y then an_end else a_mark) ≡ false
    go true y k = refl
    go false false k = refl
    go false true k = absurd (cc)

pub no_comma : {b : Before} {s u rest other : Text} → Step nowhere b s u rest other → Gapped b s u rest other
no_comma (plain x) = x
no_comma (added c i b x y) = absurd (cc)
no_comma (dropped c i b x y) = absurd (cc)

-- behind the same gap, the same rest
pub same_rest : (g h x y : Text) → g ++ x ≡ h ++ y → LongGap g x → LongGap h y → x ≡ y
same_rest g h x y e a b = sym (skip-append g x a) ∙ ap skip e ∙ skip-append h y b

-- before what begins with neither a closing bracket nor a comma, no comma comes or goes
pub plain_step : {k : Text → Bool} {b : Before} {s u rest other : Text} (g x : Text) → s ≡ g ++ x → LongGap g x → begins is_closing x ≡ false → is_at 44 x ≡ false → Step k b s u rest other → Gapped b s u rest other
plain_step g x e h c d (plain y) = y
plain_step {rest = rest} g x e h c d (added _ i b y z) =
    let same : x ≡ rest = same_rest g y.gap x rest (sym e ∙ y.split) h y.is_gap in
    absurd (let k : begins is_closing x ≡ true = rw same b in cc)
plain_step {rest = rest} g x e h c d (dropped _ i b y z) =
    let same : x ≡ 44 ∷ (y.second ++ rest) = same_rest g y.gap x (44 ∷ (y.second ++ rest)) (sym e ∙ y.split) h y.is_gap in
    absurd (let k : is_at 44 x ≡ true = rw same refl in cc)

delimits : (c : ℕ) → is_closing c ≡ true → is_delimiter c ≡ true
delimits c h = go (c == 41) (c == 93) (c == 125) refl refl refl h
  where
    go : (x y z : Bool) → (c == 41) ≡ x → (c == 93) ≡ y → (c == 125) ≡ z → (x || (y || z)) ≡ true → is_delimiter c ≡ true
    go true y z a b d k = rw (eqb-true c 41 a) refl
    go false true z a b d k = rw (eqb-true c 93 b) refl
    go false false true a b d k = rw (eqb-true c 125 d) refl
    go false false false a b d k = absurd (cc)

closing_ends : (s : Text) → begins is_closing s ≡ true → ends_value s ≡ true
closing_ends [] e = refl
closing_ends (c ∷ s) e = delimits c e

-- ---- marks and words

module _ {commas : Text → Bool} where
  -- nothing is passed
  still : {m : Text → Bool} (next v : Text) → skip next ≡ next → Alike commas next v → Step m a_mark next v next v
  still next v n r = plain (record { gap = []; instead = []; split = refl; splits = refl; is_gap = record { is_gap = none; longest = n }; is_other = record { is_gap = none; longest = alike_no_gap r }; may = refl })

  stay : {m : Text → Bool} {A : Type 0} {M : Lang A} (next v : Text) (a : A) → skip next ≡ next → Alike commas next v → M [] v a → Moved commas m M next v a
  stay next v a n r z = record { stretch = []; left = v; split = refl; spelled = z; before = a_mark; rest = next; other = v; step = still next v n r; alike = r }

  pub moves_empty : {m : Text → Bool} {A : Type 0} {F : Text → Type 0} (a : A) → Moves commas m (Empty a) (Empty a) F
  moves_empty a = record { over = λ t next b z f n v r. stay next v b (rw z.0 at n) (rw z.0 at r) (refl, z.1) }

  -- a mark that closes nothing, and one that may
  pub moves_mark : {m : Text → Bool} {A : Type 0} {F : Text → Type 0} (c : ℕ) (a : A) → is_mark c ≡ true → is_closing c ≡ false → Moves commas m (Mark c a) (Mark c a) F
  moves_mark c a m o = record {
    over = λ t next b z f n v r.
        let k = after_mark c next v m (rw z.0 at r) in
        record { stretch = c ∷ []; left = k.left; split = k.split; spelled = (refl, z.1); before = _; rest = k.rest; other = k.other; step = closed_step (mark_ends_none c o) k.step; alike = k.alike };
  }

  pub moves_close : {A : Type 0} {F : Text → Type 0} (c : ℕ) (a : A) → is_mark c ≡ true → Moves commas commas (Mark c a) (Mark c a) F
  moves_close c a m = record {
    over = λ t next b z f n v r.
        let k = after_mark c next v m (rw z.0 at r) in
        record { stretch = c ∷ []; left = k.left; split = k.split; spelled = (refl, z.1); before = _; rest = k.rest; other = k.other; step = k.step; alike = k.alike };
  }

  pub moves_fixed : {A : Type 0} {F : Text → Type 0} (w : Text) (a : A) → is_plain_run w ≡ true → Moves commas commas (FixedWord w a) (FixedWord w a) F
  moves_fixed w a e = record {
    over = λ t next b z f n v r.
        let k = after_word (t ++ next) next v (rw z.same (plain_solid w next e)) (token_fixed w a e t next b z) r in
        let same : t ≡ k.stretch = append_cancel_right t k.stretch next k.same in
        record {
          stretch = k.stretch;
          left = k.left;
          split = k.split;
          before = a_word;
          rest = k.rest;
          other = k.other;
          step = k.step;
          alike = k.alike;
          spelled = record { same = sym same ∙ z.same; ends = sym (seen_same (sees_begins continues_name name_within) {s = next} {u = k.left} (front_behind k.step k.alike)) ∙ z.ends; value = z.value };
        };
  }
    where
      plain_solid : (u next : Text) → is_plain_run u ≡ true → begins is_solid (u ++ next) ≡ true
      plain_solid [] next h = absurd (cc)
      plain_solid (c ∷ u) next h = run_within c (and_parts (starts_run c) _ h).0

  -- ---- meanings and choices

  -- the same stretch spells something else
  pub again : {m : Text → Bool} {A B : Type 0} {M : Lang A} {N : Lang B} {next v : Text} {a : A} {b : B} → ((t u : Text) → M t u a → N t u b) → Moved commas m M next v a → Moved commas m N next v b
  again k x = record { stretch = x.stretch; left = x.left; split = x.split; spelled = k x.stretch x.left x.spelled; before = x.before; rest = x.rest; other = x.other; step = x.step; alike = x.alike }

  pub moves_or : {m : Text → Bool} {A : Type 0} {L M P Q : Lang A} {F : Text → Type 0} → Moves commas m L P F → Moves commas m M Q F → Moves commas m (Or L M) (Or P Q) F
  moves_or {m} {A} {L} {M} {P} {Q} {F} h k = record { over = both }
    where
      both : (t next : Text) (a : A) → Or L M t next a → F next → skip (t ++ next) ≡ t ++ next → (v : Text) → Alike commas (t ++ next) v → Moved commas m (Or P Q) next v a
      both t next a (inl z) f n v r = again (λ u w y. inl y) (h.over t next a z f n v r)
      both t next a (inr z) f n v r = again (λ u w y. inr y) (k.over t next a z f n v r)

  pub moves_at : {m : Text → Bool} {A : Type 0} {L M : Lang A} {F : Text → Type 0} (a : A) → Moves commas m L M F → Moves commas m (At L a) (At M a) F
  moves_at a h = record { over = λ t next u z f n v r. again (λ s w y. y) (h.over t next a z f n v r) }

  pub moves_before : {m : Text → Bool} {A : Type 0} {L M : Lang A} (F G : Text → Type 0) → ((next : Text) → G next → F next) → Moves commas m L M F → Moves commas m L M G
  moves_before F G k h = record { over = λ t next a z g. h.over t next a z (k next g) }

  -- ---- what gaps join: where no comma comes or goes between the two

  -- the two put together, where the gap between is exchanged for a gap
  pub joined : {m : Text → Bool} {A B : Type 0} {P : Lang A} {Q : A → Text → Lang B} {b : Before} {next v : Text} {a : A} {x : B} (M : A → Text → Lang B) (G : Text → Type 0) (gap right stretch left rest other : Text)
      → LongGap gap (right ++ next) → M a gap right next x → G next → v ≡ stretch ++ left → P stretch left a → Gapped b (gap ++ (right ++ next)) left rest other → Alike commas rest other
      → ((gap instead : Text) → Moves commas m (M a gap) (Q a instead) G) → Moved commas m (Then P Q) next v x
  joined {m} {A} {B} {P} {Q} {b} {next} {v} {a} {x} M G gap right stretch left rest other h z g split spelled y r k =
      let same : right ++ next ≡ rest = same_rest gap y.gap (right ++ next) rest y.split h y.is_gap in
      let w = (k gap y.instead).over right next x z g h.longest other (subst (λ u. Alike commas u other) (sym same) r) in
      let e : left ≡ y.instead ++ (w.stretch ++ w.left) = y.splits ∙ ap (λ u. y.instead ++ u) w.split in
      record {
        stretch = stretch ++ (y.instead ++ w.stretch);
        left = w.left;
        split = split ∙ ap (λ u. stretch ++ u) e ∙ sym (three stretch y.instead w.stretch w.left);
        spelled = record { value = a; left = stretch; gap = y.instead; right = w.stretch; split = refl; first = subst (λ u. P stretch u a) e spelled; is_gap = subst (λ u. LongGap y.instead u) w.split y.is_other; second = w.spelled };
        before = w.before;
        rest = w.rest;
        other = w.other;
        step = w.step;
        alike = w.alike;
      }

  pub moves_then : {m : Text → Bool} {A B : Type 0} {L P : Lang A} {M Q : A → Text → Lang B} {F G : Text → Type 0} → Moves commas nowhere L P F → ((a : A) (gap instead : Text) → Moves commas m (M a gap) (Q a instead) G)
      → ((a : A) (gap right next : Text) (b : B) → LongGap gap (right ++ next) → M a gap right next b → G next → F (gap ++ (right ++ next))) → Moves commas m (Then L M) (Then P Q) G
  moves_then {m} {A} {B} {L} {P} {M} {Q} {F} {G} h k follows = record { over = over }
    where
      over : (t next : Text) (b : B) → Then L M t next b → G next → skip (t ++ next) ≡ t ++ next → (v : Text) → Alike commas (t ++ next) v → Moved commas m (Then P Q) next v b
      over t next b z g n v r =
          let n' : skip (z.left ++ (z.gap ++ (z.right ++ next))) ≡ z.left ++ (z.gap ++ (z.right ++ next)) = rw (z.split, three z.left z.gap z.right next) at n in
          let r' : Alike commas (z.left ++ (z.gap ++ (z.right ++ next))) v = rw (z.split, three z.left z.gap z.right next) at r in
          let x = h.over z.left (z.gap ++ (z.right ++ next)) z.value z.first (follows z.value z.gap z.right next b z.is_gap z.second g) n' v r' in
          joined M G z.gap z.right x.stretch x.left x.rest x.other z.is_gap z.second g x.split x.spelled (no_comma x.step) x.alike (k z.value)

  -- where what stands behind the gap begins with neither a closing bracket nor a comma, as `:` and `(` don't
  pub moves_on : {m : Text → Bool} {A B : Type 0} {L P : Lang A} {M Q : A → Text → Lang B} {F G : Text → Type 0} → Moves commas commas L P F → ((a : A) (gap instead : Text) → Moves commas m (M a gap) (Q a instead) G)
      → ((a : A) (gap right next : Text) (b : B) → LongGap gap (right ++ next) → M a gap right next b → G next → F (gap ++ (right ++ next)))
      → ((a : A) (gap right next : Text) (b : B) → M a gap right next b → (begins is_closing (right ++ next) ≡ false) × (is_at 44 (right ++ next) ≡ false)) → Moves commas m (Then L M) (Then P Q) G
  moves_on {m} {A} {B} {L} {P} {M} {Q} {F} {G} h k follows first = record { over = over }
    where
      over : (t next : Text) (b : B) → Then L M t next b → G next → skip (t ++ next) ≡ t ++ next → (v : Text) → Alike commas (t ++ next) v → Moved commas m (Then P Q) next v b
      over t next b z g n v r =
          let n' : skip (z.left ++ (z.gap ++ (z.right ++ next))) ≡ z.left ++ (z.gap ++ (z.right ++ next)) = rw (z.split, three z.left z.gap z.right next) at n in
          let r' : Alike commas (z.left ++ (z.gap ++ (z.right ++ next))) v = rw (z.split, three z.left z.gap z.right next) at r in
          let x = h.over z.left (z.gap ++ (z.right ++ next)) z.value z.first (follows z.value z.gap z.right next b z.is_gap z.second g) n' v r' in
          let f = first z.value z.gap z.right next b z.second in
          joined M G z.gap z.right x.stretch x.left x.rest x.other z.is_gap z.second g x.split x.spelled (plain_step z.gap (z.right ++ next) refl z.is_gap f.0 f.1 x.step) x.alike (k z.value)

  -- ---- items: the last comma is theirs

  module _ {A : Type 0} (L M : List A → Text → Lang A) (close : ℕ) (is_close : is_delimiter close ≡ true) (no_comma_closes : (close == 44) ≡ false)
      (opens : (seen : List A) (gap : Text) → Opens (L seen gap)) (h : (seen : List A) (gap instead : Text) → Moves commas commas (L seen gap) (M seen instead) FollowsValue) where
    -- nothing else is added before a closing bracket than a last comma
    added_tail : (seen : List A) (right next other second : Text) (xs : List A) → Tail L seen right next xs → begins is_closing (right ++ next) ≡ true → LongGap second other → Tail M seen (44 ∷ second) other xs × (right ≡ [])
    added_tail seen right next other second [] (inl z) e g =
        (inr (record { value = done; left = 44 ∷ []; gap = second; right = []; split = ap (λ x. 44 ∷ x) (sym (append-nil second)); first = (refl, refl); is_gap = g; second = (refl, refl) }), z.0)
    added_tail seen right next other second [] (inr z) e g = absurd (let k : false ≡ true = rw (z.split, z.first.0) at e in cc)
    added_tail seen right next other second (b ∷ xs) z e g = absurd (let k : false ≡ true = rw (z.split, z.first.0) at e in cc)

    -- behind a comma that goes no item stands
    dropped_tail : (seen : List A) (right next other rest second : Text) (xs : List A) → Tail L seen right next xs → right ++ next ≡ 44 ∷ (second ++ rest) → LongGap second rest
        → begins is_closing rest ≡ true → Before' close next → Tail M seen [] other xs × (next ≡ rest)
    dropped_tail seen right next other rest second [] (inl z) e g c f =
        let k : next ≡ 44 ∷ (second ++ rest) = ap (λ x. x ++ next) (sym z.0) ∙ e in
        let at : is_at close (44 ∷ (second ++ rest)) ≡ true = subst (λ x. is_at close x ≡ true) (ap skip k ∙ skip-other 44 (second ++ rest) refl refl) f in
        absurd (let same : 44 ≡ close = eqb-true 44 close at in let y : (44 == 44) ≡ false = subst (λ n. (n == 44) ≡ false) (sym same) no_comma_closes in cc)
    dropped_tail seen right next other rest second [] (inr z) e g c f =
        let k : z.left ++ (z.gap ++ (z.right ++ next)) ≡ 44 ∷ (second ++ rest) = sym (three z.left z.gap z.right next) ∙ ap (λ x. x ++ next) (sym z.split) ∙ e in
        let l : 44 ∷ (z.gap ++ (z.right ++ next)) ≡ 44 ∷ (second ++ rest) = ap (λ x. x ++ (z.gap ++ (z.right ++ next))) (sym z.first.0) ∙ k in
        let tails : z.gap ++ (z.right ++ next) ≡ second ++ rest = cc in
        (inl (refl, refl), ap (λ x. x ++ next) (sym z.second.0) ∙ same_rest z.gap second (z.right ++ next) rest tails z.is_gap g)
    dropped_tail seen right next other rest second (b ∷ xs) z e g c f =
        let k : z.left ++ (z.gap ++ (z.right ++ next)) ≡ 44 ∷ (second ++ rest) = sym (three z.left z.gap z.right next) ∙ ap (λ x. x ++ next) (sym z.split) ∙ e in
        let l : 44 ∷ (z.gap ++ (z.right ++ next)) ≡ 44 ∷ (second ++ rest) = ap (λ x. x ++ (z.gap ++ (z.right ++ next))) (sym z.first.0) ∙ k in
        let tails : z.gap ++ (z.right ++ next) ≡ second ++ rest = cc in
        let same : z.right ++ next ≡ rest = same_rest z.gap second (z.right ++ next) rest tails z.is_gap g in
        let y = z.second in
        let item = (opens seen z.gap).holds y.left (y.gap ++ (y.right ++ next)) b y.first in
        let whole : y.left ++ (y.gap ++ (y.right ++ next)) ≡ rest = sym (three y.left y.gap y.right next) ∙ ap (λ x. x ++ next) (sym y.split) ∙ same in
        let ends : ends_value (y.left ++ (y.gap ++ (y.right ++ next))) ≡ true = rw whole (closing_ends rest c) in
        absurd (let no = item.0 in cc)

    -- an item, and the rest of the items behind it
    after_item : (seen : List A) (gap right stretch left rest other next v : Text) (a : A) (xs : List A) (b : Before) (ahead : Text) → LongGap gap (right ++ next) → Tail L (a ∷ seen) right next xs → Before' close next
        → v ≡ stretch ++ left → M seen ahead stretch left a → Step commas b (gap ++ (right ++ next)) left rest other → Alike commas rest other
        → Moves {A = Done} commas nowhere (λ t next u. Tail L (a ∷ seen) t next xs) (λ t next u. Tail M (a ∷ seen) t next xs) (Before' close)
        → Moved {A = Done} commas nowhere (Then (At (M seen ahead) a) (λ _ _ u n _. Tail M (a ∷ seen) u n xs)) next v done
    after_item seen gap right stretch left rest other next v a xs b ahead g z f split spelled (plain y) r k =
        joined {A = Done} {B = Done} {P = At (M seen ahead) a} {Q = λ _ _ u n _. Tail M (a ∷ seen) u n xs} {a = done}
        (λ _ _ u n _. Tail L (a ∷ seen) u n xs) (Before' close) gap right stretch left rest other g z f split spelled y r (λ _ _. k)
    after_item seen gap right stretch left rest other next v a xs b ahead g z f split spelled (added c i e y w) r k =
        let same : right ++ next ≡ rest = same_rest gap y.gap (right ++ next) rest y.split g y.is_gap in
        let last = added_tail (a ∷ seen) right next other w.second xs z (rw same e) w.is_second in
        let here : next ≡ rest = ap (λ x. x ++ next) (sym last.1) ∙ same in
        let n : skip next ≡ next = subst (λ x. skip x ≡ x) (sym here) y.is_gap.longest in
        let r' : Alike commas next other = subst (λ x. Alike commas x other) (sym here) r in
        record {
          stretch = stretch ++ (w.gap ++ (44 ∷ w.second));
          left = other;
          split = split ∙ ap (λ u. stretch ++ u) w.split ∙ sym (three stretch w.gap (44 ∷ w.second) other);
          spelled = record { value = done; left = stretch; gap = w.gap; right = 44 ∷ w.second; split = refl; first = subst (λ u. M seen ahead stretch u a) w.split spelled; is_gap = w.is_gap; second = last.0 };
          before = a_mark;
          rest = next;
          other = other;
          step = still next other n r';
          alike = r';
        }
    after_item seen gap right stretch left rest other next v a xs b ahead g z f split spelled (dropped c i e y w) r k =
        let same : right ++ next ≡ 44 ∷ (y.second ++ rest) = same_rest gap y.gap (right ++ next) (44 ∷ (y.second ++ rest)) y.split g y.is_gap in
        let last = dropped_tail (a ∷ seen) right next other rest y.second xs z same y.is_second e f in
        let n : skip next ≡ next = subst (λ x. skip x ≡ x) (sym last.1) y.is_second.longest in
        let r' : Alike commas next other = subst (λ x. Alike commas x other) (sym last.1) r in
        record {
          stretch = stretch ++ (w.gap ++ []);
          left = other;
          split = split ∙ ap (λ u. stretch ++ u) w.split ∙ sym (three stretch w.gap [] other);
          spelled = record { value = done; left = stretch; gap = w.gap; right = []; split = refl; first = subst (λ u. M seen ahead stretch u a) w.split spelled; is_gap = w.is_gap; second = last.0 };
          before = a_mark;
          rest = next;
          other = other;
          step = still next other n r';
          alike = r';
        }

    item_moves : (seen : List A) (gap instead : Text) (a : A) (xs : List A) → Moves {A = Done} commas nowhere (λ t next u. Tail L (a ∷ seen) t next xs) (λ t next u. Tail M (a ∷ seen) t next xs) (Before' close)
        → Moves {A = Done} commas nowhere (Then (At (L seen gap) a) (λ _ _ u n _. Tail L (a ∷ seen) u n xs)) (Then (At (M seen instead) a) (λ _ _ u n _. Tail M (a ∷ seen) u n xs)) (Before' close)
    item_moves seen gap instead a xs k = record { over = over }
      where
        over : (t next : Text) (u : Done) → Then (At (L seen gap) a) (λ _ _ u n _. Tail L (a ∷ seen) u n xs) t next u → Before' close next → skip (t ++ next) ≡ t ++ next → (v : Text) → Alike commas (t ++ next) v
            → Moved commas nowhere (Then (At (M seen instead) a) (λ _ _ u n _. Tail M (a ∷ seen) u n xs)) next v u
        over t next u z f n v r =
            let n' : skip (z.left ++ (z.gap ++ (z.right ++ next))) ≡ z.left ++ (z.gap ++ (z.right ++ next)) = rw (z.split, three z.left z.gap z.right next) at n in
            let r' : Alike commas (z.left ++ (z.gap ++ (z.right ++ next))) v = rw (z.split, three z.left z.gap z.right next) at r in
            let follows : FollowsValue (z.gap ++ (z.right ++ next)) = stops_gap z.gap (z.right ++ next) z.is_gap (tail_stops L close is_close (a ∷ seen) z.right next xs z.second f z.is_gap.longest) in
            let x = (h seen gap instead).over z.left (z.gap ++ (z.right ++ next)) a z.first follows n' v r' in
            again (λ _ _ y. record { value = y.value; left = y.left; gap = y.gap; right = y.right; split = y.split; first = y.first; is_gap = y.is_gap; second = y.second })
            (after_item seen z.gap z.right x.stretch x.left x.rest x.other next v a xs x.before instead z.is_gap z.second f x.split x.spelled x.step x.alike k)

    tail_moves : (seen : List A) (xs : List A) → Moves {A = Done} commas nowhere (λ t next u. Tail L seen t next xs) (λ t next u. Tail M seen t next xs) (Before' close)
    tail_moves seen [] = record {
      over = λ t next u z f n v r.
          again (λ _ _ y. y) ((moves_or {F = Before' close} (moves_empty done) (moves_then {F = Anything} (moves_mark 44 done refl refl) (λ _ _ _. moves_empty done) (λ _ _ _ _ _ _ _ _. tt))).over t next done z f n v r);
    }
    tail_moves seen (a ∷ xs) = record {
      over = λ t next u z f n v r.
          again (λ _ _ y. y) ((moves_then {F = Anything} {G = Before' close} (moves_mark 44 done refl refl) (λ _ gap instead. item_moves seen gap instead a xs (tail_moves (a ∷ seen) xs))
          (λ _ _ _ _ _ _ _ _. tt)).over t next done z f n v r);
    }

    items_of : (before instead : Text) (xs : List A) → Moves {A = Done} commas nowhere (λ t next u. Items L before t next xs) (λ t next u. Items M instead t next xs) (Before' close)
    items_of before instead [] = record { over = λ t next u z f n v r. stay next v u (rw z at n) (rw z at r) refl }
    items_of before instead (a ∷ xs) = record { over = λ t next u z f n v r. again (λ _ _ y. y) ((item_moves [] before instead a xs (tail_moves (a ∷ []) xs)).over t next done z f n v r) }

    pub moves_items : (before instead : Text) → Moves commas nowhere (Items L before) (Items M instead) (Before' close)
    moves_items before instead = record { over = λ t next xs z f n v r. again (λ _ _ y. y) ((items_of before instead xs).over t next done z f n v r) }

  pub moves_group : {A : Type 0} {F : Text → Type 0} (o c : ℕ) {L M : Text → Lang A} → is_mark o ≡ true → is_closing o ≡ false → is_mark c ≡ true
      → ((gap instead : Text) → Moves commas nowhere (L gap) (M instead) (Before' c)) → Moves commas commas (Group o c L) (Group o c M) F
  moves_group o c h q k p =
      moves_before Anything _ (λ _ _. tt) (moves_then {F = Anything} (moves_mark o done h q)
      (λ _ gap instead. moves_then {F = Before' c} (p gap instead) (λ a _ _. moves_close c a k) (λ a gap right next b g z t. closes c a gap right next b g z t)) (λ _ _ _ _ _ _ _ _. tt))

-- ---- whole texts

pub nothing_alike : {k : Text → Bool} {s u : Text} → Alike k s u → s ≡ [] → u ≡ []
nothing_alike ended e = refl
nothing_alike (mark c s u rest other m g r) e = absurd (cc)
nothing_alike (word c t s u rest other h k f g r) e = absurd (cc)

-- at the end of the text no comma comes or goes
pub at_end : {k : Text → Bool} {b : Before} {s u rest other : Text} → skip s ≡ [] → Step k b s u rest other → Gapped b s u rest other
at_end e (plain x) = x
at_end {s = s} {rest = rest} e (added c i b x y) = absurd (let k : rest ≡ [] = sym (skip-append x.gap rest x.is_gap) ∙ ap skip (sym x.split) ∙ e in let z : begins is_closing [] ≡ true = subst (λ w. begins is_closing w ≡ true) k b in cc)
at_end {s = s} {rest = rest} e (dropped c i b x y) = absurd (let k : 44 ∷ (x.second ++ rest) ≡ [] = sym (skip-append x.gap (44 ∷ (x.second ++ rest)) x.is_gap) ∙ ap skip (sym x.split) ∙ e in cc)

pub moves_whole : {commas : Text → Bool} {A : Type 0} {L : Lang A} → Moves commas commas L L FollowsValue → (s u : Text) (a : A) → SameWords commas s u → Whole L s a → Whole L u a
moves_whole {commas} {L = L} h s u a k z =
    let x = k.gapped in
    let same : z.value ++ z.after ≡ k.rest = sym (skip-append z.before (z.value ++ z.after) z.is_before) ∙ ap skip (sym z.split ∙ x.split) ∙ skip-append x.gap k.rest x.is_gap in
    let none : skip z.after ≡ [] = skip_to_end z.after z.is_after in
    let ends : FollowsValue z.after = rw none refl in
    let y = h.over z.value z.after a z.spelled ends z.is_before.longest k.other (subst (λ w. Alike commas w k.other) (sym same) k.alike) in
    let g = at_end none y.step in
    let over : y.rest ≡ [] = sym (skip-append g.gap y.rest g.is_gap) ∙ ap skip (sym g.split) ∙ none in
    let gone : y.other ≡ [] = nothing_alike y.alike over in
    let left : y.left ≡ g.instead = g.splits ∙ ap (λ w. g.instead ++ w) gone ∙ append-nil g.instead in
    record {
      before = x.instead;
      value = y.stretch;
      after = y.left;
      split = x.splits ∙ ap (λ w. x.instead ++ w) y.split;
      is_before = subst (λ w. LongGap x.instead w) y.split x.is_other;
      spelled = y.spelled;
      is_after = subst (λ w. Gap w []) (sym left) (subst (λ w. Gap g.instead w) gone g.is_other.is_gap);
    }

bool_opens : Opens ABool
bool_opens = first_or (record { holds = λ t next a z. rw z.same (solid_mark 116 (codes "rue" ++ next) refl refl refl) }) (record { holds = λ t next a z. rw z.same (solid_mark 102 (codes "alse" ++ next) refl refl refl) })

pub keeps_lists : KeepsLists
keeps_lists =
    moves_whole (moves_group 91 93 refl refl refl (λ gap instead. moves_items _ _ 93 refl refl (λ _ _. bool_opens)
    (λ _ _ _. moves_or (moves_fixed (codes "true") true plain_words.0) (moves_fixed (codes "false") false plain_words.1)) gap instead))
