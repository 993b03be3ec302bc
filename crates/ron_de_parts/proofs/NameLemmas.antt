-- Names before what they name, as the code goes past them.
use Rattle.std.proofs.Common.{◌≡◌, ◌++◌, Bool, true, false, cond, [], ◌∷◌, Option, Some, None, Result, Ok, Err, MatchResult, OnOk, IfErr, refl, sym, ap, ◌∙◌}
use Rattle.ron_spec_words.specs.Characters.{Text}
use Rattle.ron_spec_words.specs.Gap.{skip, gap_of, none, LongGap}
use Rattle.ron_spec_words.specs.Name.{named}
use Rattle.ron_spec_words.specs.Reader.{deep, bad, Got, got, failed, Reader, pick, in_sequence, after_gap, and_then}
use Rattle.ron_spec_words.specs.Runs.{is_at}
use Rattle.ron_spec_words.specs.Scan.{left_by}
use Rattle.ron_spec_words.proofs.Gaps.{skip-other, gap_of-append, cut}
use Rattle.ron_spec_words.proofs.Names.{word_named}
use Rattle.ron_spec_words.proofs.Turns.{after_slash, after_other}
use Rattle.ron_spec_grammar.specs.Rule.{without_name, no_gap}
use Rattle.ron_de_steps.specs.Steps.{unless_slash}
use Rattle.ron_de_parts.specs.Steps.{behind_gap, behind_name, past_name}
use Rattle.ron_base.specs.declared.error.Error.{Error}
use Rattle.ron_de_parts.specs.Errors.{IsOfText}
use Rattle.ron_de_steps.specs.Steps.{GoesTo}
use Rattle.ron_de_steps.proofs.ErrorLemmas.{text_and}
use Rattle.ron_de_steps.proofs.ItemLemmas.{at_mark}

-- what is read at a place, if there is one
abbrev pub at_place : {A : Type 0} → Reader A → Option Text → Got A
at_place g None = failed bad
at_place g (Some t) = g t

-- ---- the gap behind a name

-- behind the gap of a place, if there is one
abbrev pub behind : Option Text → Option Text
behind None = None
behind (Some t) = unless_slash t (Some (skip t))

skip-bracket : (u : Text) → skip (40 ∷ u) ≡ 40 ∷ u
skip-bracket u = skip-other 40 u refl refl

pub past_is : (required : Bool) (n s : Text) → past_name required n s ≡ behind (behind_name required n s)
past_is required n s = first (is_at 40 s) refl
  where
    of_name : (o : Got Text) → behind_gap o ≡ behind (left_by o)
    of_name (got m rest) = refl
    of_name (failed fault) = refl

    bracket : (b : Bool) → is_at 40 s ≡ true → cond b None (Some s) ≡ behind (cond b None (Some s))
    bracket true e = refl
    bracket false e = let m = at_mark 40 s e in rw (m.1, skip-bracket m.0) refl

    first : (b : Bool) → is_at 40 s ≡ b
        → cond b (cond required None (Some s)) (behind_gap (named n s)) ≡ behind (cond b (cond required None (Some s)) (left_by (named n s)))
    first true e = bracket required e
    first false e = of_name (named n s)

-- the gap behind a name is gone past, or a slash stands behind it
pub name_gap : (required : Bool) (n s t new : Text) {A : Type 0} (result : Result A Error) → behind_name required n s ≡ Some t
    → MatchResult result (λ _. is_at 47 (skip t) ≡ false) (λ _. is_at 47 (skip t) ≡ true) → OnOk result (new ≡ skip t) → IfErr result IsOfText
    → GoesTo (past_name required n s) result new
name_gap required n s t new (Ok u) e slash is fault = past_is required n s ∙ ap behind e ∙ ap (λ b. cond b None (Some (skip t))) slash ∙ ap Some (sym is)
name_gap required n s t new (Err code) e slash is fault =
    text_and code fault.0 (past_is required n s ∙ ap behind e ∙ ap (λ b. cond b None (Some (skip t))) slash)

-- no such name stands here
pub unnamed : (n s : Text) → left_by (named n s) ≡ None → named n s ≡ failed bad
unnamed n s e = go (named n s) ((word_named n).calm s) e
  where
    go : (o : Got Text) → (o ≡ failed deep → ⊥) → left_by o ≡ None → o ≡ failed bad
    go (got m rest) calm h = absurd (cc)
    go (failed deep) calm h = absurd (calm refl)
    go (failed bad) calm h = refl

-- ---- a reader behind a name, or at once where no name is required

module _ {A : Type 0} (g : Reader A) (required : Bool) (n s : Text) where
  optional : (b : Bool) → without_name b g s ≡ at_place g (cond b None (Some s))
  optional true = refl
  optional false = refl

  pub named_first : pick (is_at 40) (without_name required g) (in_sequence (named n) (λ _ _. g)) s ≡ at_place g (past_name required n s)
  named_first = first (is_at 40 s)
    where
      gap : (rest : Text) (b : Bool) → is_at 47 (skip rest) ≡ b → after_gap (λ _. g) rest ≡ at_place g (cond b None (Some (skip rest)))
      gap rest true e = after_slash (λ _. g) rest e
      gap rest false e = after_other (λ _. g) rest e

      of_name : (o : Got Text) → (o ≡ failed deep → ⊥) → and_then o (λ _ _. g) ≡ at_place g (behind_gap o)
      of_name (got m rest) calm = gap rest (is_at 47 (skip rest)) refl
      of_name (failed deep) calm = absurd (calm refl)
      of_name (failed bad) calm = refl

      first : (b : Bool)
          → cond b (without_name required g s) (in_sequence (named n) (λ _ _. g) s) ≡ at_place g (cond b (cond required None (Some s)) (behind_gap (named n s)))
      first true = optional required
      first false = of_name (named n s) ((word_named n).calm s)

  pub named_directly : ((t : Text) → is_at 40 t ≡ false → g t ≡ failed bad)
      → pick (is_at 40) (without_name required g) (in_sequence (named n) (λ _ gap. no_gap gap g)) s ≡ at_place g (behind_name required n s)
  named_directly only = first (is_at 40 s)
    where
      behind_nothing : (rest gap : Text) → gap_of rest ≡ gap → is_at 40 rest ≡ false → no_gap gap g (skip rest) ≡ failed bad
      behind_nothing rest [] e h = let same : rest ≡ skip rest = (cut rest).split ∙ ap (λ z. z ++ skip rest) e in
          only (skip rest) (ap (is_at 40) (sym same) ∙ h)
      behind_nothing rest (c ∷ gap) e h = refl

      elsewhere : (rest : Text) → is_at 40 rest ≡ false → (b : Bool) → is_at 47 (skip rest) ≡ b → after_gap (λ gap. no_gap gap g) rest ≡ failed bad
      elsewhere rest h true e = after_slash (λ gap. no_gap gap g) rest e
      elsewhere rest h false e = after_other (λ gap. no_gap gap g) rest e ∙ behind_nothing rest (gap_of rest) refl h

      at_bracket : (u : Text) → after_gap (λ gap. no_gap gap g) (40 ∷ u) ≡ g (40 ∷ u)
      at_bracket u =
          let longest : LongGap [] (40 ∷ u) = record { is_gap = none; longest = skip-bracket u } in
          let no_slash : is_at 47 (skip (40 ∷ u)) ≡ false = ap (is_at 47) (skip-bracket u) in
          after_other (λ gap. no_gap gap g) (40 ∷ u) no_slash ∙ ap (λ gap. no_gap gap g (skip (40 ∷ u))) (gap_of-append [] (40 ∷ u) longest)
          ∙ ap g (skip-bracket u)

      either : (rest : Text) (b : Bool) → is_at 40 rest ≡ b → after_gap (λ gap. no_gap gap g) rest ≡ g rest
      either rest true e = let m = at_mark 40 rest e in rw m.1 (at_bracket m.0)
      either rest false e = elsewhere rest e (is_at 47 (skip rest)) refl ∙ sym (only rest e)

      of_name : (o : Got Text) → (o ≡ failed deep → ⊥) → and_then o (λ _ gap. no_gap gap g) ≡ at_place g (left_by o)
      of_name (got m rest) calm = either rest (is_at 40 rest) refl
      of_name (failed deep) calm = absurd (calm refl)
      of_name (failed bad) calm = refl

      first : (b : Bool) → cond b (without_name required g s) (in_sequence (named n) (λ _ gap. no_gap gap g) s)
          ≡ at_place g (cond b (cond required None (Some s)) (left_by (named n s)))
      first true = optional required
      first false = of_name (named n s) ((word_named n).calm s)
