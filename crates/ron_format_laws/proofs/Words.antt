-- Options, tuple structs and the like: what looks past a gap, or lets none stand.
use Rattle.std.proofs.Common.{◌≡◌, Bool, true, false, not, ◌||◌, [], ◌∷◌, ◌++◌, refl, sym, ap, subst, ◌∙◌, codes, drop, append_assoc, eqb-true}
use Rattle.std.proofs.lemmas.Bool.{not-true, and_parts}
use Rattle.std.proofs.lemmas.List.{append_cancel_right}
use Rattle.ron_spec_words.specs.Characters.{Text, comma, left_parenthesis}
use Rattle.ron_spec_words.specs.Runs.{begins, is_at, is_ended}
use Rattle.ron_spec_words.specs.Gap.{Gap, LongGap, skip}
use Rattle.ron_spec_words.specs.Lang.{Lang, Then, When}
use Rattle.ron_spec_words.specs.Directly.{stands}
use Rattle.ron_spec_words.specs.Exact.{Anything}
use Rattle.ron_spec_words.specs.Scan.{is_closing, token}
use Rattle.ron_spec_words.proofs.Gaps.{skip-append}
use Rattle.ron_spec_words.proofs.Exactly.{three}
use Rattle.ron_spec_words.proofs.Words.{First}
use Rattle.ron_spec_words.proofs.Direct.{stands-splits}
use Rattle.ron_spec_words.proofs.TokenRuns.{run_of_word}
use Rattle.ron_spec_words.proofs.WordsPass.{plain_words}
use Rattle.ron_spec_grammar.specs.Rule.{NoGap}
use Rattle.ron_spec_grammar.specs.Shapes.Option.{opens_some, opens_option}
use Rattle.ron_format_words.specs.Alike.{is_solid, a_word, may_replace, Step, plain, added, dropped, Alike}
use Rattle.ron_format_words.specs.Moves.{Moved, Moves}
use Rattle.ron_format_words.specs.Near.{MovesWord}
use Rattle.ron_format_words.proofs.Steps.{after_word, alike_no_gap}
use Rattle.ron_format_words.proofs.Ahead.{alike_front, seen_same}
use Rattle.ron_format_words.proofs.Closed.{plain_step, same_rest}
use Rattle.ron_format_words.proofs.Inner.{ended_is, head_back}
use Rattle.ron_format_words.proofs.Near.{sees_stands}

-- neither a closing bracket nor a comma begins the text
abbrev pub Onward : Text → Type 0
Onward s = (begins is_closing s ≡ false) × (is_at comma s ≡ false)

closing_is_not : (s : Text) → begins is_closing s ≡ true → is_at left_parenthesis s ≡ true → ⊥
closing_is_not [] e f = cc
closing_is_not (c ∷ s) e f = let same : c ≡ left_parenthesis = eqb-true c left_parenthesis f in
    let k : is_closing left_parenthesis ≡ true = subst (λ n. is_closing n ≡ true) same e in
    cc

some_solid : (s : Text) → begins is_solid (codes "Some" ++ s) ≡ true
some_solid s = refl

module _ {commas : Text → Bool} where
  -- what follows a gap there, where `(` does in the other text
  past_gap : {s u rest other : Text} → Step commas a_word s u rest other → Alike commas rest other → is_at left_parenthesis (skip u) ≡ true
      → is_at left_parenthesis (skip s) ≡ true
  past_gap {s} {u} {rest} {other} (plain x) r e =
      let k : skip u ≡ other = ap skip x.splits ∙ skip-append x.instead other x.is_other in
      let l : skip s ≡ rest = ap skip x.split ∙ skip-append x.gap rest x.is_gap in
      rw l (head_back left_parenthesis r (rw (← k) e))
  past_gap {u = u} {other = other} (added c i b x y) r e =
      let k : skip u ≡ comma ∷ (y.second ++ other) = ap skip y.split ∙ skip-append y.gap (comma ∷ (y.second ++ other)) y.is_gap in
      absurd (let z : is_at left_parenthesis (comma ∷ (y.second ++ other)) ≡ true = subst (λ w. is_at left_parenthesis w ≡ true) k e in cc)
  past_gap {u = u} {rest = rest} {other = other} (dropped c i b x y) r e =
      let k : skip u ≡ other = ap skip y.split ∙ skip-append y.gap other y.is_gap in
      absurd (closing_is_not rest b (head_back left_parenthesis r (subst (λ w. is_at left_parenthesis w ≡ true) k e)))

  some_back : (s v : Text) → Alike commas s v → opens_some v ≡ true → opens_some s ≡ true
  some_back s v r e =
      let p = and_parts (stands (codes "Some") v) _ e in
      let here : stands (codes "Some") s ≡ true =
      seen_same (sees_stands (codes "Some") (refl, (refl, (refl, (refl, tt))))) {s = s} {u = v} (alike_front r) ∙ p.0 in
      let a = stands-splits (codes "Some") s here in
      let b = stands-splits (codes "Some") v p.0 in
      let x = after_word s (drop 4 s) v (rw a.0 (some_solid (drop 4 s))) (ap token a.0 ∙ run_of_word (codes "Some") (drop 4 s) plain_words.3 a.1) r in
      let word : codes "Some" ≡ x.stretch = append_cancel_right (codes "Some") x.stretch (drop 4 s) (sym a.0 ∙ x.same) in
      let left : drop 4 v ≡ x.left = ap (drop 4) (x.split ∙ ap (λ w. w ++ x.left) (sym word)) in
      rw here (past_gap x.step x.alike (subst (λ w. is_at left_parenthesis (skip w) ≡ true) left p.1))

  option_back : (s v : Text) → Alike commas s v → opens_option v ≡ true → opens_option s ≡ true
  option_back s v r e = go (stands (codes "None") v) refl e
    where
      same : stands (codes "None") s ≡ stands (codes "None") v
      same = seen_same (sees_stands (codes "None") (refl, (refl, (refl, (refl, tt))))) {s = s} {u = v} (alike_front r)

      either : (b : Bool) → opens_some s ≡ true → (b || opens_some s) ≡ true
      either true k = refl
      either false k = k

      go : (b : Bool) → stands (codes "None") v ≡ b → (b || opens_some v) ≡ true → opens_option s ≡ true
      go true k y = rw (same, k) refl
      go false k y = either (stands (codes "None") s) (some_back s v r y)

  -- where a test fails that fails in the other text too
  pub moves_unless : {m : Text → Bool} {A : Type 0} {L M : Lang A} {F : Text → Type 0} → Moves commas m L M F
      → Moves commas m (When (λ s. not (opens_option s)) L) (When (λ s. not (opens_option s)) M) F
  moves_unless h = record {
    over = λ t next a z f n v r.
        let x = h.over t next a z.1 f n v r in
        record {
          stretch = x.stretch;
          left = x.left;
          split = x.split;
          spelled = (still_not t next v r z.0 x.stretch x.left x.split, x.spelled);
          before = x.before;
          rest = x.rest;
          other = x.other;
          step = x.step;
          alike = x.alike;
        };
  }
    where
      still_not : (t next v : Text) → Alike commas (t ++ next) v → not (opens_option (t ++ next)) ≡ true → (w l : Text) → v ≡ w ++ l
          → not (opens_option (w ++ l)) ≡ true
      still_not t next v r e w l k = go (opens_option (w ++ l)) refl
        where
          go : (b : Bool) → opens_option (w ++ l) ≡ b → not b ≡ true
          go false y = refl
          go true y = let back = option_back (t ++ next) v r (ap opens_option k ∙ y) in let no = not-true _ e in absurd (cc)

  -- a name, and directly behind it a group
  pub moves_tight : {A B : Type 0} {L : Lang A} {M N : Lang B} {F : Text → Type 0} → MovesWord commas L Anything → Moves commas commas M N F
      → First (λ s. is_at left_parenthesis s ≡ true) M
      → Moves commas commas (Then L (λ _ gap. NoGap gap M)) (Then L (λ _ gap. NoGap gap N)) F
  moves_tight {A} {B} {L} {M} {N} {F} h k o = record { over = λ t next b z f n v r. tight t next b z f n v r z.gap refl }
    where
      tight : (t next : Text) (b : B) → (z : Then L (λ _ gap. NoGap gap M) t next b) → F next → skip (t ++ next) ≡ t ++ next → (v : Text)
          → Alike commas (t ++ next) v → (gap : Text) → z.gap ≡ gap
          → Moved commas commas (Then L (λ _ g. NoGap g N)) next v b
      tight t next b z f n v r (c ∷ g) e = absurd (let y = subst (λ w. NoGap w M z.right next b) e z.second in y)
      tight t next b z f n v r [] e =
          let spelled : M z.right next b = subst (λ w. NoGap w M z.right next b) e z.second in
          let long : LongGap [] (z.right ++ next) = subst (λ w. LongGap w (z.right ++ next)) e z.is_gap in
          let r' : Alike commas (z.left ++ (z.right ++ next)) v =
          subst (λ w. Alike commas (z.left ++ (w ++ (z.right ++ next))) v) e (rw (z.split, three z.left z.gap z.right next) at r) in
          let first : L z.left (z.right ++ next) z.value = subst (λ w. L z.left (w ++ (z.right ++ next)) z.value) e z.first in
          let x = h.over z.left (z.right ++ next) z.value first tt v r' in
          let open' = o.holds z.right next b spelled in
          let on = goes_on (z.right ++ next) open' in
          let y = plain_step [] (z.right ++ next) refl long on.0 on.1 x.step in
          let same : z.right ++ next ≡ x.rest = same_rest [] y.gap (z.right ++ next) x.rest y.split long y.is_gap in
          let none : y.gap ≡ [] = sym (append_cancel_right [] y.gap x.rest (sym same ∙ y.split)) in
          let gone : y.instead ≡ [] = ended_is y.instead (may_close y.instead x.rest (subst (λ w. is_at left_parenthesis w ≡ true) same open')
          (subst (λ g. may_replace a_word g y.instead x.rest ≡ true) none y.may)) in
          let left : x.left ≡ x.other = y.splits ∙ ap (λ g. g ++ x.other) gone in
          let w = k.over z.right next b spelled f long.longest x.other (subst (λ u. Alike commas u x.other) (sym same) x.alike) in
          let e' : x.left ≡ w.stretch ++ w.left = left ∙ w.split in
          record {
            stretch = x.stretch ++ w.stretch;
            left = w.left;
            split = x.split ∙ ap (λ u. x.stretch ++ u) e' ∙ sym (append_assoc x.stretch w.stretch w.left);
            spelled = record {
              value = z.value;
              left = x.stretch;
              gap = [];
              right = w.stretch;
              split = refl;
              first = subst (λ u. L x.stretch u z.value) e' x.spelled;
              is_gap = subst (λ u. LongGap [] u) w.split (record { is_gap = none_gap; longest = no_gap_there (sym same) x.alike long.longest });
              second = w.spelled;
            };
            before = w.before;
            rest = w.rest;
            other = w.other;
            step = w.step;
            alike = w.alike;
          }
        where
          goes_on : (s : Text) → is_at left_parenthesis s ≡ true → Onward s
          goes_on [] e = absurd (cc)
          goes_on (c ∷ s) e = let same = eqb-true c left_parenthesis e in rw same (refl, refl)

          may_close : (g rest : Text) → is_at left_parenthesis rest ≡ true → may_replace a_word [] g rest ≡ true → is_ended g ≡ true
          may_close g rest e m = rw e at m

          none_gap : {u : Text} → Gap [] u
          none_gap = Gap.none

          no_gap_there : {s x w : Text} → x ≡ s → Alike commas x w → skip s ≡ s → skip w ≡ w
          no_gap_there e a l = alike_no_gap a
