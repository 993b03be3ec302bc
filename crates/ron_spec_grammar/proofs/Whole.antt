-- Whole texts, a value between gaps and nothing behind it, are read exactly: for bodies and documents.
use Rattle.std.proofs.Common.{Bool, ◌≡◌, if◌then◌else◌, ℕ, ◌+◌, ◌≤◌, true, false, List, [], ◌∷◌, ◌++◌, length, refl, ap, ◌∙◌, arith, length-append}
use Rattle.ron_spec_words.specs.Characters.{Text}
use Rattle.ron_spec_words.specs.Runs.{is_at}
use Rattle.ron_spec_words.specs.Gap.{Gap, gap_of, skip}
use Rattle.ron_spec_words.specs.Reader.{deep, bad, Got, got, failed, Reader, after_gap}
use Rattle.ron_spec_words.specs.Exact.{FollowsValue}
use Rattle.ron_spec_words.proofs.Gaps.{cut, skip_to_end, gap_to_end, length-skip}
use Rattle.ron_spec_words.proofs.Exactly.{after_gap_at, after_got}
use Rattle.ron_spec_grammar.specs.Data.{Data}
use Rattle.ron_spec_grammar.specs.Schema.{Shape, has_no_cycle}
use Rattle.ron_spec_grammar.specs.Rule.{Extensions}
use Rattle.ron_spec_grammar.specs.Grammar.{SpellsAt}
use Rattle.ron_spec_grammar.specs.Reading.{read_at}
use Rattle.ron_spec_grammar.specs.Document.{BodyAt, Answer, ok, err, at_end, whole, answer_at}
use Rattle.ron_spec_grammar.specs.Room.{enough}
use Rattle.ron_spec_grammar.proofs.Room.{enough_rises}
use Rattle.ron_spec_grammar.proofs.Place as place

at_end_ok : (d e : Data) (s : Text) → at_end d s ≡ ok e → (d ≡ e) × (s ≡ [])
at_end_ok d e [] h = (cc, refl)
at_end_ok d e (c ∷ s) h = absurd (cc)

whole_ok : (o : Got Data) (d : Data) → whole o ≡ ok d → (rest : Text) × (o ≡ got d rest) × (skip rest ≡ [])
whole_ok (got e rest) d h = let k = at_end_ok e d (skip rest) h in (rest, ap (λ z. got z rest) k.0, k.1)
whole_ok (failed f) d h = absurd (cc)

ok_same : (d e : Data) (o : Answer) → o ≡ ok d → o ≡ ok e → d ≡ e
ok_same d e o h k = cc

-- the value of a body is too deep where the body is
at_end_not_deep : (d : Data) (s : Text) → at_end d s ≡ err deep → ⊥
at_end_not_deep d [] e = cc
at_end_not_deep d (c ∷ s) e = cc

whole_deep : (g : Got Data) → whole g ≡ err deep → g ≡ failed deep
whole_deep (got e rest) h = absurd (at_end_not_deep e (skip rest) h)
whole_deep (failed f) h = cc

-- a slash behind a gap is not too deep
after_deep : {A : Type 0} (q : Text → Reader A) (s : Text) → after_gap q s ≡ failed deep → q (gap_of s) (skip s) ≡ failed deep
after_deep q s = elim (is_at 47 (skip s))
    as (λ b. (if b then failed bad else q (gap_of s) (skip s)) ≡ failed deep → q (gap_of s) (skip s) ≡ failed deep) [ true ↦ λ e. absurd (cc) | false ↦ λ e. e ]

module _ (at_start : Bool) (x : Extensions) (schema : List Shape) (root : ℕ) where
  -- the end of the text stops the value
  stops_after : (limit : ℕ) (text : Text) (d : Data) (z : BodyAt at_start x schema root limit text d) → FollowsValue z.after
  stops_after limit text d z = rw (skip_to_end z.after z.is_after) refl

  -- the answer for a text of these parts
  answer_of : (limit n : ℕ) (text : Text) (d : Data) (z : BodyAt at_start x schema root n text d)
      → answer_at at_start x schema root limit text ≡ whole (read_at at_start x schema limit false root z.before (z.value ++ z.after))
  unfolding answer_at
  answer_of limit n text d z =
      ap whole (ap (after_gap (read_at at_start x schema limit false root)) z.split ∙ after_gap_at (read_at at_start x schema limit false root) z.before
      (z.value ++ z.after) z.is_before (place.no_slash at_start x schema root n z.before z.value z.after d z.spelled))

  pub sound : (limit : ℕ) (text : Text) (d : Data) → answer_at at_start x schema root limit text ≡ ok d → BodyAt at_start x schema root limit text d
  unfolding answer_at
  sound limit text d e =
      let k = whole_ok (after_gap (read_at at_start x schema limit false root) text) d e in
      let z =
      place.sound at_start x schema root limit (gap_of text) (skip text) k.0 d (after_got (read_at at_start x schema limit false root) text d k.0 k.1) in
      let g = cut text in
      record {
        before = gap_of text;
        value = z.stretch;
        after = k.0;
        split = g.split ∙ ap (λ u. gap_of text ++ u) z.split;
        is_before = rw z.split at g.is_gap;
        spelled = z.spelled;
        is_after = gap_to_end k.0 k.2;
      }

  pub any_gaps : (limit : ℕ) (before value after : Text) (d : Data) → Gap before (value ++ after)
      → SpellsAt at_start x schema limit false root before value after d → Gap after [] → BodyAt at_start x schema root limit (before ++ (value ++ after)) d
  any_gaps limit before value after d g z h = record {
    before = before;
    value = value;
    after = after;
    split = refl;
    is_before = record { is_gap = g; longest = place.solid at_start x schema root limit before value after d z };
    spelled = z;
    is_after = h;
  }

  pub complete : (limit : ℕ) (text : Text) (d : Data) → BodyAt at_start x schema root limit text d → answer_at at_start x schema root limit text ≡ ok d
  complete limit text d z = answer_of limit limit text d z ∙ ap whole (place.complete at_start x schema root limit z.before z.value z.after d z.spelled
      (stops_after limit text d z)) ∙ ap (at_end d) (skip_to_end z.after z.is_after)

  pub monotone : (m n : ℕ) (text : Text) (d : Data) → m ≤ n → BodyAt at_start x schema root m text d → BodyAt at_start x schema root n text d
  monotone m n text d le z = record {
    before = z.before;
    value = z.value;
    after = z.after;
    split = z.split;
    is_before = z.is_before;
    spelled = place.monotone at_start x schema root m n z.before z.value z.after d le z.spelled (stops_after m text d z);
    is_after = z.is_after;
  }

  pub unique : (m n : ℕ) (text : Text) (d e : Data) → BodyAt at_start x schema root m text d → BodyAt at_start x schema root n text e → d ≡ e
  unique m n text d e y z = ok_same d e (answer_at at_start x schema root (m + n) text) (complete (m + n) text d (monotone m (m + n) text d (omega arith) y))
      (complete (m + n) text e (monotone n (m + n) text e (omega arith) z))

  pub too_deep : (limit n : ℕ) (text : Text) (d : Data) → BodyAt at_start x schema root n text d → (BodyAt at_start x schema root limit text d → ⊥)
      → answer_at at_start x schema root limit text ≡ err deep
  too_deep limit n text d z other =
      answer_of limit n text d z ∙ ap whole (place.too_deep at_start x schema root limit n z.before z.value z.after d z.spelled (stops_after n text d z) refuse)
    where
      refuse : SpellsAt at_start x schema limit false root z.before z.value z.after d → ⊥
      refuse s =
          other (record { before = z.before; value = z.value; after = z.after; split = z.split; is_before = z.is_before; spelled = s; is_after = z.is_after })

  pub bounded : has_no_cycle schema ≡ true → (n : ℕ) (text : Text) (d : Data) → BodyAt at_start x schema root n text d
      → BodyAt at_start x schema root (enough schema false root (length text)) text d
  bounded h n text d z = monotone (enough schema false root (length (z.value ++ z.after))) (enough schema false root (length text)) text d
      (enough_rises schema false root _ _ (omega (arith, ap length z.split, length-append z.before (z.value ++ z.after))))
      (record {
        before = z.before;
        value = z.value;
        after = z.after;
        split = z.split;
        is_before = z.is_before;
        spelled = place.bounded at_start x schema root h n z.before z.value z.after d z.spelled (stops_after n text d z);
        is_after = z.is_after;
      })

  -- with so much room no body is too deep
  pub roomy : has_no_cycle schema ≡ true → (room : ℕ) (text : Text) → enough schema false root (length text) ≤ room
      → answer_at at_start x schema root room text ≡ err deep → ⊥
  unfolding answer_at
  roomy h room text le e =
      place.roomy at_start x schema root h false room (gap_of text) (skip text)
      (let r = enough_rises schema false root (length (skip text)) (length text) (length-skip text) in omega (arith, le, r))
      (after_deep (read_at at_start x schema room false root) text (whole_deep _ e))
