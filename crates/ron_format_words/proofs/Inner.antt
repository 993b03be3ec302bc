-- Content with perhaps a comma, and `()` and what is not it, in texts of the same words.
use Rattle.std.proofs.Common.{◌≡◌, ℕ, Bool, true, false, not, ◌&&◌, ◌==◌, [], ◌∷◌, ◌++◌, Option, inl, inr, refl, sym, ap, subst, ◌∙◌, codes, eqb-true}
use Rattle.std.proofs.lemmas.List.{append_cancel_right}
use Rattle.std.proofs.lemmas.Bool.{not-true, and_parts}
use Rattle.ron_spec_words.specs.Characters.{Text}
use Rattle.ron_spec_words.specs.Runs.{begins, begins_with, is_at, is_ended}
use Rattle.ron_spec_words.specs.Gap.{LongGap, skip, none}
use Rattle.ron_spec_words.specs.Lang.{Lang, Nothing, Mark, Behind, Means, When, OptComma, WithComma, Needs}
use Rattle.ron_spec_words.specs.Exact.{Before as Before', FollowsValue}
use Rattle.ron_spec_words.specs.Scan.{is_closing}
use Rattle.ron_spec_words.proofs.Gaps.{skip-other}
use Rattle.ron_spec_words.proofs.Exactly.{three, comma_follows}
use Rattle.ron_format_words.specs.Alike.{nowhere, is_mark, Before, a_parenthesis, a_mark, an_end, mark_before, may_replace, Gapped, Step, plain, added, dropped}
use Rattle.ron_format_words.specs.Alike.{Alike, ended, mark, word}
use Rattle.ron_format_words.specs.Moves.{Moved, Moves}
use Rattle.ron_format_words.proofs.Steps.{after_mark, mark_no_gap}
use Rattle.ron_format_words.proofs.Closed.{closed_step, no_comma, same_rest, joined, again, moves_or, moves_empty, moves_mark}

-- a gap that came or went before a closing bracket
loose : {m : Text → Bool} {next v : Text} (gap instead rest other : Text) → next ≡ gap ++ rest → v ≡ instead ++ other → LongGap gap rest → LongGap instead other
    → Step m a_mark next v rest other
loose gap instead rest other e f g h = plain (record { gap = gap; instead = instead; split = e; splits = f; is_gap = g; is_other = h; may = refl })

pub empty_gap : (g s : Text) (c : ℕ) (u : Text) → c ∷ u ≡ g ++ s → LongGap g s → is_mark c ≡ true → (g ≡ []) × (c ∷ u ≡ s)
empty_gap g s c u e h m =
    let same : c ∷ u ≡ s = same_rest [] g (c ∷ u) s e (record { is_gap = none; longest = mark_no_gap c u m }) h in
    (sym (append_cancel_right [] g s (sym same ∙ e)), same)

pub ended_is : (g : Text) → is_ended g ≡ true → g ≡ []
ended_is [] e = refl
ended_is (c ∷ g) e = absurd (cc)

-- behind `(`, before `)`
inside_empty : {next left rest other : Text} (u : Text) → next ≡ 41 ∷ u → Gapped a_parenthesis next left rest other → (rest ≡ next) × (left ≡ other)
inside_empty {next} {left} {rest} {other} u e x =
    let k = empty_gap x.gap rest 41 u (sym e ∙ x.split) x.is_gap refl in
    let m : may_replace a_parenthesis [] x.instead (41 ∷ u) ≡ true =
    subst (λ y. may_replace a_parenthesis [] x.instead y ≡ true) (sym k.1) (subst (λ g. may_replace a_parenthesis g x.instead rest ≡ true) k.0 x.may) in
    (sym k.1 ∙ sym e, x.splits ∙ ap (λ g. g ++ other) (ended_is x.instead m))

at_close : (u : Text) → begins_with (41 ∷ []) u ≡ true → (w : Text) × (u ≡ 41 ∷ w)
at_close [] e = absurd (cc)
at_close (d ∷ u) e = let y = and_parts (d == 41) _ e in let same = eqb-true d 41 y.0 in (u, ap (λ x. x ∷ u) same)

at_mark : (s : Text) → is_at 41 s ≡ true → begins_with (41 ∷ []) s ≡ true
at_mark [] e = absurd (cc)
at_mark (d ∷ s) e = rw e refl

empty_or : (g rest : Text) → is_at 41 rest ≡ true → may_replace a_parenthesis g [] rest ≡ true → g ≡ []
empty_or [] rest e m = refl
empty_or (c ∷ g) rest e m = absurd (let k : false ≡ true = rw e at m in cc)

module _ {commas : Text → Bool} where
  pub moves_nothing : {m : Text → Bool} {A : Type 0} {M : Lang A} {F : Text → Type 0} → Moves commas m Nothing M F
  moves_nothing = record { over = λ t next a z f n v r. absurd z }

  pub moves_means : {m : Text → Bool} {A B : Type 0} {L M : Lang A} {F : Text → Type 0} {f : A → Option B} → Moves commas m L M F
      → Moves commas m (Means L f) (Means M f) F
  moves_means h = record {
    over = λ t next b z g n v r. again (λ u w y. record { value = z.value; spelled = y; meant = z.meant }) (h.over t next z.value z.spelled g n v r);
  }

  pub moves_needs : {m : Text → Bool} {A : Type 0} {L M : Lang A} {F : Text → Type 0} {k room : ℕ} → Moves commas m L M F
      → Moves commas m (Needs k room L) (Needs k room M) F
  moves_needs h = record { over = λ t next a z g n v r. again (λ u w y. (z.0, y)) (h.over t next a z.1 g n v r) }

  pub moves_opt_comma : {m : Text → Bool} {A : Type 0} {F : Text → Type 0} (a : A) → Moves commas m (OptComma a) (OptComma a) F
  moves_opt_comma a = moves_or (moves_mark 44 a refl refl) (moves_empty a)

  module _ {A : Type 0} {L M : Lang A} (h : Moves commas commas L M FollowsValue) where
    behind_content : (a b : A) (gap right next v stretch left rest other : Text) (before : Before) → LongGap gap (right ++ next) → OptComma a right next b
        → Before' 41 next → v ≡ stretch ++ left → M stretch left a → Step commas before (gap ++ (right ++ next)) left rest other → Alike commas rest other
        → Moved commas nowhere (WithComma M) next v b
    behind_content a b gap right next v stretch left rest other before g z f split spelled (plain y) r =
        joined {P = M} {Q = λ a _. OptComma a} (λ a _. OptComma a) (Before' 41) gap right stretch left rest other g z f split spelled y r
        (λ _ _. moves_opt_comma a)
    behind_content a b gap right next v stretch left rest other before g (inl z) f split spelled (added c i e y w) r =
        absurd (let same : right ++ next ≡ rest = same_rest gap y.gap (right ++ next) rest y.split g y.is_gap in
        let k : begins is_closing (right ++ next) ≡ true = rw same e in let l : false ≡ true = rw z.0 at k in cc)
    behind_content a b gap right next v stretch left rest other before g (inr z) f split spelled (added c i e y w) r =
        let same : right ++ next ≡ rest = same_rest gap y.gap (right ++ next) rest y.split g y.is_gap in
        let here : next ≡ rest = ap (λ x. x ++ next) (sym z.0) ∙ same in
        record {
          stretch = stretch ++ (w.gap ++ (44 ∷ []));
          left = w.second ++ other;
          split = split ∙ ap (λ u. stretch ++ u) w.split ∙ sym (three stretch w.gap (44 ∷ []) (w.second ++ other));
          spelled = record {
            value = a;
            left = stretch;
            gap = w.gap;
            right = 44 ∷ [];
            split = refl;
            first = subst (λ u. M stretch u a) w.split spelled;
            is_gap = w.is_gap;
            second = inl (refl, z.1);
          };
          before = a_mark;
          rest = rest;
          other = other;
          step = loose [] w.second rest other here refl (record { is_gap = none; longest = y.is_gap.longest }) w.is_second;
          alike = r;
        }
    behind_content a b gap right next v stretch left rest other before g (inl z) f split spelled (dropped c i e y w) r =
        let same : right ++ next ≡ 44 ∷ (y.second ++ rest) = same_rest gap y.gap (right ++ next) (44 ∷ (y.second ++ rest)) y.split g y.is_gap in
        let k : 44 ∷ next ≡ 44 ∷ (y.second ++ rest) = ap (λ x. x ++ next) (sym z.0) ∙ same in
        let here : next ≡ y.second ++ rest = cc in
        record {
          stretch = stretch ++ (w.gap ++ []);
          left = other;
          split = split ∙ ap (λ u. stretch ++ u) w.split ∙ sym (three stretch w.gap [] other);
          spelled = record {
            value = a;
            left = stretch;
            gap = w.gap;
            right = [];
            split = refl;
            first = subst (λ u. M stretch u a) w.split spelled;
            is_gap = w.is_gap;
            second = inr (refl, z.1);
          };
          before = a_mark;
          rest = rest;
          other = other;
          step = loose y.second [] rest other here refl y.is_second (record { is_gap = none; longest = w.is_gap.longest });
          alike = r;
        }
    behind_content a b gap right next v stretch left rest other before g (inr z) f split spelled (dropped c i e y w) r =
        let same : right ++ next ≡ 44 ∷ (y.second ++ rest) = same_rest gap y.gap (right ++ next) (44 ∷ (y.second ++ rest)) y.split g y.is_gap in
        let k : next ≡ 44 ∷ (y.second ++ rest) = ap (λ x. x ++ next) (sym z.0) ∙ same in
        absurd
        (let l : is_at 41 (44 ∷ (y.second ++ rest)) ≡ true = subst (λ x. is_at 41 x ≡ true) (ap skip k ∙ skip-other 44 (y.second ++ rest) refl refl) f in cc)

    pub moves_with_comma : Moves commas nowhere (WithComma L) (WithComma M) (Before' 41)
    moves_with_comma = record { over = over }
      where
        over : (t next : Text) (b : A) → WithComma L t next b → Before' 41 next → skip (t ++ next) ≡ t ++ next → (v : Text) → Alike commas (t ++ next) v
            → Moved commas nowhere (WithComma M) next v b
        over t next b z f n v r =
            let n' : skip (z.left ++ (z.gap ++ (z.right ++ next))) ≡ z.left ++ (z.gap ++ (z.right ++ next)) =
            rw (z.split, three z.left z.gap z.right next) at n in
            let r' : Alike commas (z.left ++ (z.gap ++ (z.right ++ next))) v = rw (z.split, three z.left z.gap z.right next) at r in
            let x = h.over z.left (z.gap ++ (z.right ++ next)) z.value z.first (comma_follows z.value z.gap z.right next b z.is_gap z.second f) n' v r' in
            behind_content z.value b z.gap z.right next v x.stretch x.left x.rest x.other x.before z.is_gap z.second f x.split x.spelled x.step x.alike

  -- ---- `()`

  pub moves_brackets : {A : Type 0} {F : Text → Type 0} (a : A) → Moves commas commas (Behind 40 (Mark 41 a)) (Behind 40 (Mark 41 a)) F
  moves_brackets {A} {F} a = record { over = over }
    where
      over : (t next : Text) (b : A) → Behind 40 (Mark 41 a) t next b → F next → skip (t ++ next) ≡ t ++ next → (v : Text) → Alike commas (t ++ next) v
          → Moved commas commas (Behind 40 (Mark 41 a)) next v b
      over t next b z f n v r =
          let whole : t ≡ 40 ∷ 41 ∷ [] = z.split ∙ ap (λ w. 40 ∷ w) z.spelled.0 in
          let r' : Alike commas (40 ∷ 41 ∷ next) v = rw whole at r in
          let x = after_mark 40 (41 ∷ next) v refl r' in
          let g : Gapped a_parenthesis (41 ∷ next) x.left x.rest x.other = no_comma (closed_step refl x.step) in
          let k = inside_empty next refl g in
          let y = after_mark 41 next x.other refl (subst (λ w. Alike commas w x.other) k.0 x.alike) in
          record {
            stretch = 40 ∷ 41 ∷ [];
            left = y.left;
            split = x.split ∙ ap (λ w. 40 ∷ w) (k.1 ∙ y.split);
            spelled = record { rest = 41 ∷ []; split = refl; spelled = (refl, z.spelled.1) };
            before = an_end;
            rest = y.rest;
            other = y.other;
            step = y.step;
            alike = y.alike;
          }

  pub head_back : (c : ℕ) {s u : Text} → Alike commas s u → is_at c u ≡ true → is_at c s ≡ true
  head_back c ended e = e
  head_back c (mark d s u rest other m g r) e = e
  head_back c (word d t s u rest other h k f g r) e = e

  -- what stands in place of another text begins with `()` only where that does
  pub unit_back : (s v : Text) → Alike commas s v → begins_with (codes "()") v ≡ true → begins_with (codes "()") s ≡ true
  unit_back _ _ ended e = e
  unit_back _ _ (word c t s u rest other h k f g r) e =
      absurd (let y = and_parts (c == 40) _ e in let same : c ≡ 40 = eqb-true c 40 y.0 in let l : false ≡ true = rw same at h in cc)
  unit_back _ _ (mark c s u rest other m g r) e = go (and_parts (c == 40) _ e) g
    where
      go : ((c == 40) ≡ true) × (begins_with (41 ∷ []) u ≡ true) → Step commas (mark_before c) s u rest other → ((c == 40) && begins_with (41 ∷ []) s) ≡ true
      go y g' =
          let same : c ≡ 40 = eqb-true c 40 y.0 in
          let x = no_comma (closed_step {m = nowhere} refl (subst (λ n. Step commas (mark_before n) s u rest other) same g')) in
          let w = at_close u y.1 in
          let k = empty_gap x.instead other 41 w.0 (sym w.1 ∙ x.splits) x.is_other refl in
          let there : is_at 41 rest ≡ true = head_back 41 r (rw (← k.1) refl) in
          let none : x.gap ≡ [] = empty_or x.gap rest there (subst (λ h. may_replace a_parenthesis x.gap h rest ≡ true) k.0 x.may) in
          let here : s ≡ rest = x.split ∙ ap (λ g. g ++ rest) none in
          rw (y.0, here) (at_mark rest there)

  pub moves_when_round : {m : Text → Bool} {A : Type 0} {L M : Lang A} {F : Text → Type 0} → Moves commas m L M F
      → Moves commas m (When (λ s. not (begins_with (codes "()") s)) L) (When (λ s. not (begins_with (codes "()") s)) M) F
  moves_when_round h = record {
    over = λ t next a z f n v r.
        let x = h.over t next a z.1 f n v r in
        record {
          stretch = x.stretch;
          left = x.left;
          split = x.split;
          spelled = (still_not t next v r z.0 x.stretch x.left x.split, x.spelled);
          before = x.before;
          rest = x.rest;
          other = x.other;
          step = x.step;
          alike = x.alike;
        };
  }
    where
      still_not : (t next v : Text) → Alike commas (t ++ next) v → not (begins_with (codes "()") (t ++ next)) ≡ true → (w l : Text) → v ≡ w ++ l
          → not (begins_with (codes "()") (w ++ l)) ≡ true
      still_not t next v r e w l k = go (begins_with (codes "()") (w ++ l)) refl
        where
          go : (b : Bool) → begins_with (codes "()") (w ++ l) ≡ b → not b ≡ true
          go false y = refl
          go true y = let back = unit_back (t ++ next) v r (ap (begins_with (codes "()")) k ∙ y) in let no = not-true _ e in absurd (cc)
