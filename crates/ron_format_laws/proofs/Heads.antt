-- Attributes and heads in texts of the same words, where last commas come and go behind the head alone.
use Rattle.std.proofs.Common.{◌≡◌, ◌≤◌, ◌<◌, ℕ, true, false, ◌==◌, List, [], ◌∷◌, ◌++◌, length, Some, refl, sym, ap, subst, ◌∙◌, codes, arith, length-append}
use Rattle.std.proofs.lemmas.Bool.{ltb-true}
use Rattle.ron_spec_words.specs.Characters.{Text, left_parenthesis, right_parenthesis, left_bracket, right_bracket, comma, equals_sign, exclamation_mark, hash}
use Rattle.ron_spec_words.specs.Runs.{is_at}
use Rattle.ron_spec_words.specs.Gap.{LongGap, skip}
use Rattle.ron_spec_words.specs.Lang.{Lang, done, Mark, Then, Means}
use Rattle.ron_spec_words.specs.Exact.{Anything}
use Rattle.ron_spec_words.specs.Name.{Name}
use Rattle.ron_spec_words.specs.Quoted.{String}
use Rattle.ron_spec_words.specs.Scan.{is_closing, token}
use Rattle.ron_spec_words.proofs.Gaps.{skip-append, length-skip}
use Rattle.ron_spec_words.proofs.Words.{First, first_means}
use Rattle.ron_spec_words.proofs.Exactly.{three, first_then, first_mark}
use Rattle.ron_spec_words.proofs.Names.{name_solid}
use Rattle.ron_spec_words.proofs.LiteralStarts.{first_string}
use Rattle.ron_spec_words.proofs.WordsPass.{plain_words}
use Rattle.ron_base.specs.Extensions.{no_extensions, extension_of_name}
use Rattle.ron_spec_grammar.specs.Rule.{Extensions}
use Rattle.ron_spec_grammar.specs.Attribute.{Enable, Ignored, Attribute, Head}
use Rattle.ron_format_words.specs.Alike.{is_solid, Before, nowhere, Gapped, Step, plain, added, dropped, Alike}
use Rattle.ron_format_words.specs.Moves.{Moves}
use Rattle.ron_format_words.proofs.Free.{stable_free}
use Rattle.ron_format_words.proofs.Near.{Opening, word_token, word_moves}
use Rattle.ron_format_words.proofs.Closed.{same_rest, moves_fixed, moves_or, moves_then, moves_on, moves_items, moves_group, moves_mark, moves_close}
use Rattle.ron_format_words.proofs.Inner.{moves_means}
use Rattle.ron_format_laws.proofs.Words.{Onward}
use Rattle.ron_format_laws.proofs.Trees.{moves_name, moves_string}
use Rattle.ron_format_laws.proofs.Crossing.{alone, shorter}

-- ---- where no comma comes or goes

-- n characters or more are left behind a gap, and a comma is not the first
abbrev pub Far : ℕ → Text → Type 0
Far n next = (n ≤ length (skip next)) × (is_at comma (skip next) ≡ false)

-- there no comma comes or goes
pub far_step : {n : ℕ} {b : Before} {s u rest other : Text} → Far n s → Step (shorter n) b s u rest other → Gapped b s u rest other
far_step f (plain x) = x
far_step {n = n} {s = s} {rest = rest} f (added c i e x y) =
    let same : skip s ≡ rest = ap skip x.split ∙ skip-append x.gap rest x.is_gap in
    absurd (let lt : length rest < n = ltb-true (length rest) n c in omega (arith, lt, f.0, ap length same))
far_step {s = s} {rest = rest} f (dropped c i e x y) =
    let same : skip s ≡ comma ∷ (x.second ++ rest) = ap skip x.split ∙ skip-append x.gap (comma ∷ (x.second ++ rest)) x.is_gap in
    absurd (let k : false ≡ true = sym f.1 ∙ ap (is_at comma) same in cc)

far_moves : {n : ℕ} {A : Type 0} {L M : Lang A} → Moves (shorter n) (shorter n) L M Anything → Moves (shorter n) nowhere L M (Far n)
far_moves h = record {
  over = λ t next a z f l v r.
      let x = h.over t next a z tt l v r in
      record {
        stretch = x.stretch;
        left = x.left;
        split = x.split;
        spelled = x.spelled;
        before = x.before;
        rest = x.rest;
        other = x.other;
        step = plain (far_step f x.step);
        alike = x.alike;
      };
}

-- ---- an attribute

module _ (n : ℕ) where
  one_moves : {F : Text → Type 0} (c : ℕ) → is_solid c ≡ true → ((s : Text) → token (c ∷ s) ≡ Some s)
      → Moves (shorter n) (shorter n) (Mark c done) (Mark c done) F
  one_moves c e k = word_moves (word_token (first_mark Opening c done (λ s. e)) (λ t next b z f. subst (λ w. token (w ++ next) ≡ Some next) (sym z.0) (k next))
      (stable_free (record { at = λ t next u b z. z })))

  mark_onward : {B : Type 0} {M : Text → Lang B} (c : ℕ) → (is_closing c ≡ false) × ((c == comma) ≡ false) → First Onward (Then (Mark c done) (λ _ gap. M gap))
  mark_onward c e = first_then (first_mark Onward c done (λ s. e))

  string_onward : First Onward (Means String (λ _. Some no_extensions))
  string_onward = first_means (first_string Onward (λ s. (refl, refl)) (λ s. (refl, refl)))

  enable_moves : {F : Text → Type 0} → Moves (shorter n) (shorter n) Enable Enable F
  enable_moves = moves_on {F = Anything} (moves_fixed (codes "enable") done plain_words.4)
      (λ _ _ _. moves_group left_parenthesis right_parenthesis refl refl refl
      (λ g o. moves_means (moves_items (λ _ _. Means Name extension_of_name) (λ _ _. Means Name extension_of_name) right_parenthesis refl refl
      (λ _ _. first_means name_solid) (λ _ _ _. moves_means moves_name) g o)))
      (λ _ _ _ _ _ _ _ _. tt) (λ _ gap right next b z. (mark_onward left_parenthesis (refl, refl)).holds right next b z)

  ignored_moves : {F : Text → Type 0} → Moves (shorter n) (shorter n) Ignored Ignored F
  ignored_moves = moves_on {F = Anything} (moves_or (moves_fixed (codes "type") done plain_words.5) (moves_fixed (codes "schema") done plain_words.6))
      (λ _ _ _. moves_on {F = Anything} (one_moves equals_sign refl alone.2) (λ _ _ _. moves_means moves_string) (λ _ _ _ _ _ _ _ _. tt)
      (λ _ gap right next b z. string_onward.holds right next b z))
      (λ _ _ _ _ _ _ _ _. tt) (λ _ gap right next b z. (mark_onward equals_sign (refl, refl)).holds right next b z)

  -- no comma comes or goes before its `]`, where n characters or more are left behind that
  bracket_far : (gap right next : Text) (e x : Extensions) → LongGap gap (right ++ next) → Mark right_bracket e right next x → Far n next
      → Far n (gap ++ (right ++ next))
  bracket_far gap right next e x g z f =
      let at : skip (gap ++ (right ++ next)) ≡ right_bracket ∷ next = skip-append gap (right ++ next) g ∙ ap (λ y. y ++ next) z.0 in
      (omega (arith, f.0, length-skip next, ap length at), ap (is_at comma) at)

  attribute_moves : Moves (shorter n) (shorter n) Attribute Attribute (Far n)
  attribute_moves = moves_on {F = Anything} (one_moves hash refl alone.0)
      (λ _ _ _. moves_on {F = Anything} (one_moves exclamation_mark refl alone.1)
      (λ _ _ _. moves_then {F = Anything} (moves_mark left_bracket done refl refl)
      (λ _ _ _. moves_then {F = Far n} (far_moves (moves_or enable_moves ignored_moves)) (λ a _ _. moves_close right_bracket a refl)
      (λ a gap right next b g z f. bracket_far gap right next a b g z f))
      (λ _ _ _ _ _ _ _ _. tt))
      (λ _ _ _ _ _ _ _ _. tt) (λ _ gap right next b z. (mark_onward left_bracket (refl, refl)).holds right next b z))
      (λ _ _ _ _ _ _ _ _. tt) (λ _ gap right next b z. (mark_onward exclamation_mark (refl, refl)).holds right next b z)

-- ---- the head

-- Far before a head as behind it.
far_head : (n : ℕ) (es : List Extensions) (t next : Text) → Head es t next → Far n next → Far n (t ++ next)
far_head n [] t next z f = subst (λ y. Far n (y ++ next)) (sym z) f
far_head n (e ∷ es) t next z f =
    let behind : Text = z.rest ++ next in
    let whole : t ++ next ≡ z.gap ++ (z.attribute ++ behind) = ap (λ y. y ++ next) z.split ∙ three z.gap z.attribute z.rest next in
    let at : skip (t ++ next) ≡ z.attribute ++ behind = ap skip whole ∙ skip-append z.gap (z.attribute ++ behind) z.is_gap in
    let first : (is_at comma (z.attribute ++ behind) ≡ false) = ((mark_onward n hash (refl, refl)).holds z.attribute behind e z.spelled).1 in
    let more = far_head n es z.rest next z.more f in
    (omega (arith, more.0, length-skip behind, ap length at, length-append z.attribute behind), ap (is_at comma) at ∙ first)

-- the head in the other text, and how that goes on
pub record MovedHead (n : ℕ) (es : List Extensions) (next left : Text) : Type 0 where
  pub stretch : Text
  pub behind : Text
  pub split : left ≡ stretch ++ behind
  pub spelled : Head es stretch behind
  pub before : Before
  pub rest : Text
  pub other : Text
  pub gapped : Gapped before next behind rest other
  pub alike : Alike (shorter n) rest other

pub head_moves : (n : ℕ) (es : List Extensions) (t next : Text) → Head es t next → Far n next → (b : Before) (left rest other : Text)
    → Gapped b (t ++ next) left rest other → Alike (shorter n) rest other → MovedHead n es next left
head_moves n [] t next z f b left rest other g r = record {
  stretch = [];
  behind = left;
  split = refl;
  spelled = refl;
  before = b;
  rest = rest;
  other = other;
  gapped = subst (λ w. Gapped b (w ++ next) left rest other) z g;
  alike = r;
}
head_moves n (e ∷ es) t next z f b left rest other g r =
    let behind : Text = z.rest ++ next in
    let whole : t ++ next ≡ z.gap ++ (z.attribute ++ behind) = ap (λ w. w ++ next) z.split ∙ three z.gap z.attribute z.rest next in
    let same : z.attribute ++ behind ≡ rest = same_rest z.gap g.gap (z.attribute ++ behind) rest (sym whole ∙ g.split) z.is_gap g.is_gap in
    let far : Far n behind = far_head n es z.rest next z.more f in
    let x = (attribute_moves n).over z.attribute behind e z.spelled far z.is_gap.longest other (subst (λ w. Alike (shorter n) w other) (sym same) r) in
    let y = head_moves n es z.rest next z.more f x.before x.left x.rest x.other (far_step far x.step) x.alike in
    let here : other ≡ x.stretch ++ (y.stretch ++ y.behind) = x.split ∙ ap (λ w. x.stretch ++ w) y.split in
    record {
      stretch = g.instead ++ (x.stretch ++ y.stretch);
      behind = y.behind;
      split = g.splits ∙ ap (λ w. g.instead ++ w) here ∙ sym (three g.instead x.stretch y.stretch y.behind);
      spelled = record {
        gap = g.instead;
        attribute = x.stretch;
        rest = y.stretch;
        split = refl;
        is_gap = subst (λ w. LongGap g.instead w) here g.is_other;
        spelled = subst (λ w. Attribute x.stretch w e) y.split x.spelled;
        more = y.spelled;
      };
      before = y.before;
      rest = y.rest;
      other = y.other;
      gapped = y.gapped;
      alike = y.alike;
    }
