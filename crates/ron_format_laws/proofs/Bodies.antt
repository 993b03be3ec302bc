-- Whole texts of the same words.
use Rattle.std.proofs.Common.{◌≡◌, ℕ, Bool, false, List, [], ◌++◌, refl, sym, ap, subst, ◌∙◌, append-nil}
use Rattle.ron_spec_words.specs.Characters.{Text}
use Rattle.ron_spec_words.specs.Gap.{Gap, LongGap, skip}
use Rattle.ron_spec_words.specs.Lang.{Lang}
use Rattle.ron_spec_words.specs.Exact.{FollowsValue}
use Rattle.ron_spec_words.proofs.Gaps.{skip-append, skip_to_end}
use Rattle.ron_spec_grammar.specs.Values.Body.{BodyOf}
use Rattle.ron_format_words.specs.Alike.{SameWords, Alike}
use Rattle.ron_format_words.specs.Moves.{Moves}
use Rattle.ron_format_words.proofs.Closed.{nothing_alike, at_end}
use Rattle.ron_format_laws.specs.Claims.{KeepsValues, KeepsBodies, IsRawless}
use Rattle.ron_spec_grammar.specs.Data.{Data}
use Rattle.ron_spec_grammar.specs.Schema.{Shape}
use Rattle.ron_spec_grammar.specs.Rule.{Extensions}
use Rattle.ron_format_laws.proofs.Trees.{moves_any}
use Rattle.ron_format_laws.proofs.Rules.{spells_kept}
use Rattle.ron_spec_grammar.specs.Grammar.{SpellsAt}
use Rattle.ron_spec_grammar.specs.Document.{BodyAt}

pub moves_body : {commas : Text → Bool} {A : Type 0} {L : Text → Lang A} → ((before instead : Text) → Moves commas commas (L before) (L instead) FollowsValue)
    → (s u : Text) (a : A) → SameWords commas s u → BodyOf L s a → BodyOf L u a
moves_body {commas} {L = L} h s u a k z =
    let x = k.gapped in
    let same : z.value ++ z.after ≡ k.rest =
    sym (skip-append z.before (z.value ++ z.after) z.is_before) ∙ ap skip (sym z.split ∙ x.split) ∙ skip-append x.gap k.rest x.is_gap in
    let none : skip z.after ≡ [] = skip_to_end z.after z.is_after in
    let ends : FollowsValue z.after = rw none refl in
    let y = (h z.before x.instead).over z.value z.after a z.spelled ends z.is_before.longest k.other (subst (λ w. Alike commas w k.other) (sym same) k.alike) in
    let g = at_end none y.step in
    let over : y.rest ≡ [] = sym (skip-append g.gap y.rest g.is_gap) ∙ ap skip (sym g.split) ∙ none in
    let gone : y.other ≡ [] = nothing_alike y.alike over in
    let left : y.left ≡ g.instead = g.splits ∙ ap (λ w. g.instead ++ w) gone ∙ append-nil g.instead in
    record {
      before = x.instead;
      value = y.stretch;
      after = y.left;
      split = x.splits ∙ ap (λ w. x.instead ++ w) y.split;
      is_before = subst (λ w. LongGap x.instead w) y.split x.is_other;
      spelled = y.spelled;
      is_after = subst (λ w. Gap w []) (sym left) (subst (λ w. Gap g.instead w) gone g.is_other.is_gap);
    }

pub keeps_values : KeepsValues
keeps_values unwrap limit s u t k z = moves_body (λ before instead. moves_any unwrap limit before instead) s u t k z

pub body_kept : {commas : Text → Bool} (at_start : Bool) (x : Extensions) (schema : List Shape) (root limit : ℕ) (s u : Text) (d : Data) → IsRawless schema
    → SameWords commas s u
    → BodyAt at_start x schema root limit s d → BodyAt at_start x schema root limit u d
body_kept at_start x schema root limit s u d rawless k z =
    let body : BodyOf (λ before. SpellsAt at_start x schema limit false root before) s d =
    record { before = z.before; value = z.value; after = z.after; split = z.split; is_before = z.is_before; spelled = z.spelled; is_after = z.is_after } in
    let y = moves_body {L = λ before. SpellsAt at_start x schema limit false root before}
    (λ before instead. spells_kept x schema rawless at_start limit root before instead) s u d k body in
    record { before = y.before; value = y.value; after = y.after; split = y.split; is_before = y.is_before; spelled = y.spelled; is_after = y.is_after }

pub keeps_bodies : KeepsBodies
keeps_bodies at_start x schema root limit s u d rawless k z = body_kept at_start x schema root limit s u d rawless k z
