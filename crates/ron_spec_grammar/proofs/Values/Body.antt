-- Values without a schema as whole texts are read exactly: for the law of value bodies.
use Rattle.std.proofs.Common.{◌≡◌, ℕ, ◌+◌, ◌≤◌, Bool, false, [], ◌∷◌, ◌++◌, length, refl, ap, ◌∙◌, arith, length-append}
use Rattle.ron_spec_words.specs.Characters.{Text}
use Rattle.ron_spec_words.specs.Gap.{Gap, gap_of, skip}
use Rattle.ron_spec_words.specs.Reader.{deep, Got, got, failed, after_gap}
use Rattle.ron_spec_words.specs.Exact.{FollowsValue}
use Rattle.ron_spec_words.proofs.Gaps.{cut, skip_to_end, gap_to_end}
use Rattle.ron_spec_words.proofs.Exactly.{after_gap_at, after_got}
use Rattle.ron_value.specs.Tree.{Tree}
use Rattle.ron_spec_grammar.specs.Values.Trees.{IsValue}
use Rattle.ron_spec_grammar.specs.Values.Grammar.{AnySpells, read_any}
use Rattle.ron_spec_grammar.specs.Values.Body.{ValueBody, ended, all_of, answer_value}
use Rattle.ron_spec_grammar.specs.Values.Statement.{enough_for_value}
use Rattle.ron_spec_grammar.proofs.Values.Place as place

ended_got : (t v : Tree) (s : Text) → ended t s ≡ got v [] → (t ≡ v) × (s ≡ [])
ended_got t v [] h = (cc, refl)
ended_got t v (c ∷ s) h = absurd (cc)

all_got : (o : Got Tree) (t : Tree) → all_of o ≡ got t [] → (rest : Text) × (o ≡ got t rest) × (skip rest ≡ [])
all_got (got v rest) t h = let k = ended_got v t (skip rest) h in (rest, ap (λ z. got z rest) k.0, k.1)
all_got (failed f) t h = absurd (cc)

got_same : (t v : Tree) (o : Got Tree) → o ≡ got t [] → o ≡ got v [] → t ≡ v
got_same t v o h k = cc

module _ (u : Bool) where
  -- the end of the text stops the value
  stops_after : (limit : ℕ) (text : Text) (t : Tree) (z : ValueBody u limit text t) → FollowsValue z.after
  stops_after limit text t z = rw (skip_to_end z.after z.is_after) refl

  -- the answer for a text of these parts
  answer_of : (limit n : ℕ) (text : Text) (t : Tree) (z : ValueBody u n text t)
      → answer_value u limit text ≡ all_of (read_any u limit false z.before (z.value ++ z.after))
  unfolding answer_value
  answer_of limit n text t z = ap all_of (ap (after_gap (read_any u limit false)) z.split
      ∙ after_gap_at (read_any u limit false) z.before (z.value ++ z.after) z.is_before (place.no_slash u n z.before z.value z.after t z.spelled))

  pub sound : (limit : ℕ) (text : Text) (t : Tree) → answer_value u limit text ≡ got t [] → ValueBody u limit text t
  unfolding answer_value
  sound limit text t e =
      let k = all_got (after_gap (read_any u limit false) text) t e in
      let z = place.sound u limit (gap_of text) (skip text) k.0 t (after_got (read_any u limit false) text t k.0 k.1) in
      let g = cut text in
      record {
        before = gap_of text;
        value = z.stretch;
        after = k.0;
        split = g.split ∙ ap (λ v. gap_of text ++ v) z.split;
        is_before = rw z.split at g.is_gap;
        spelled = z.spelled;
        is_after = gap_to_end k.0 k.2;
      }

  pub any_gaps : (limit : ℕ) (before value after : Text) (t : Tree) → Gap before (value ++ after) → AnySpells u limit false before value after t → Gap after []
      → ValueBody u limit (before ++ (value ++ after)) t
  any_gaps limit before value after t g z h = record {
    before = before;
    value = value;
    after = after;
    split = refl;
    is_before = record { is_gap = g; longest = place.solid u limit before value after t z };
    spelled = z;
    is_after = h;
  }

  pub complete : (limit : ℕ) (text : Text) (t : Tree) → ValueBody u limit text t → answer_value u limit text ≡ got t []
  complete limit text t z = answer_of limit limit text t z
      ∙ ap all_of (place.complete u limit z.before z.value z.after t z.spelled (stops_after limit text t z)) ∙ ap (ended t) (skip_to_end z.after z.is_after)

  pub monotone : (m n : ℕ) (text : Text) (t : Tree) → m ≤ n → ValueBody u m text t → ValueBody u n text t
  monotone m n text t le z = record {
    before = z.before;
    value = z.value;
    after = z.after;
    split = z.split;
    is_before = z.is_before;
    spelled = place.monotone u m n z.before z.value z.after t le z.spelled (stops_after m text t z);
    is_after = z.is_after;
  }

  pub unique : (m n : ℕ) (text : Text) (t v : Tree) → ValueBody u m text t → ValueBody u n text v → t ≡ v
  unique m n text t v y z = got_same t v (answer_value u (m + n) text) (complete (m + n) text t (monotone m (m + n) text t (omega arith) y))
      (complete (m + n) text v (monotone n (m + n) text v (omega arith) z))

  pub too_deep : (limit n : ℕ) (text : Text) (t : Tree) → ValueBody u n text t → (ValueBody u limit text t → ⊥) → answer_value u limit text ≡ failed deep
  too_deep limit n text t z other =
      answer_of limit n text t z ∙ ap all_of (place.too_deep u limit n z.before z.value z.after t z.spelled (stops_after n text t z) refuse)
    where
      refuse : AnySpells u limit false z.before z.value z.after t → ⊥
      refuse s =
          other (record { before = z.before; value = z.value; after = z.after; split = z.split; is_before = z.is_before; spelled = s; is_after = z.is_after })

  pub value_spelled : (limit : ℕ) (text : Text) (t : Tree) → ValueBody u limit text t → IsValue t
  value_spelled limit text t z = place.value_spelled u false limit z.before z.value z.after t z.spelled

  pub bounded : (n : ℕ) (text : Text) (t : Tree) → ValueBody u n text t → ValueBody u (enough_for_value false (length text)) text t
  bounded n text t z = monotone (enough_for_value false (length (z.value ++ z.after))) (enough_for_value false (length text)) text t
      (omega (arith, ap length z.split, length-append z.before (z.value ++ z.after)))
      (record {
        before = z.before;
        value = z.value;
        after = z.after;
        split = z.split;
        is_before = z.is_before;
        spelled = place.bounded u n z.before z.value z.after t z.spelled (stops_after n text t z);
        is_after = z.is_after;
      })
