use Rattle.std.proofs.Common.{◌≡◌, ◌&&◌, false, chars, [], ◌∷◌, ◌++◌, sym, ap, ◌∙◌}
use Rattle.ron_spec_words.specs.Characters.{is_blank}
use Rattle.ron_spec_words.specs.Gap.{skip}
use Rattle.ron_spec_words.proofs.Words.{after-run}
use Rattle.ron_lex_text.specs.Stretch.{is_ended}
use Rattle.ron_lex.specs.Gap.{opens_open_line}
use Rattle.ron_lex.proofs.OpenGapLemmas.{blanks_pass_before, past_before, open_before, nothing_before, not_open}
use Rattle.ron_lex.proofs.gap.skip_closed_gap.Goals as goal
use Rattle.ron_lex.proofs.gap.skip_closed_gap.Goals.{else-is_ended-via-then-is_ended+else-is_open_line, else-is_ended-via-else-is_ended}

pub loop-after-init : goal.loop-after-init
loop-after-init c = (
  c.skip_blanks-rest.utf8,
  ap (λ s. skip (s ++ 44 ∷ [])) c.skip_blanks-rest.ensures.value ∙ blanks_pass_before (chars c.args.text.now),
  rw c.skip_blanks-rest.ensures.value (after-run is_blank (chars c.args.text.now)),
)

pub loop-after-preserved : goal.loop-after-preserved
loop-after-preserved c =
    let rest = chars c.loop-after.rest.now in
    let after = chars c.in-Some.after.now in
    let closed : (is_ended after && opens_open_line rest) ≡ false = elim c.else-is_ended.branch [
      | else-is_ended-via-then-is_ended+else-is_open_line w ↦ not_open after rest (sym w.is_open_line.ensures ∙ w.if-is_open_line.false)
      | else-is_ended-via-else-is_ended w ↦ ap (λ b. b && opens_open_line rest) (sym c.is_ended.ensures ∙ w.if-is_ended.false)
    ] in (
      c.skip_blanks-rest-in-Some.utf8,
      ap (λ s. skip (s ++ 44 ∷ [])) c.skip_blanks-rest-in-Some.ensures.value ∙ blanks_pass_before after
          ∙ sym (past_before rest after c.loop-after.invariant.2 c.in-Some.ensures.value closed) ∙ c.loop-after.invariant.1,
      rw c.skip_blanks-rest-in-Some.ensures.value (after-run is_blank after),
    )

pub returns-then-is_open_line : goal.returns-then-is_open_line
returns-then-is_open_line c = sym c.loop-after.invariant.1 ∙ open_before _ c.loop-after.invariant.2 (sym c.is_open_line.ensures ∙ c.if-is_open_line.true)

pub returns : goal.returns
returns c = sym c.loop-after.invariant.1 ∙ nothing_before _ c.loop-after.invariant.2 c.in_default.ensures.value
