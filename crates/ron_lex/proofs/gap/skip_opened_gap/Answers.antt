use Rattle.std.proofs.Common.{chars, sym, ap, ◌∙◌}
use Rattle.ron_spec_words.specs.Characters.{is_blank}
use Rattle.ron_spec_words.specs.Gap.{skip}
use Rattle.ron_spec_words.proofs.Gaps.{skip-past, skip-nothing}
use Rattle.ron_spec_words.proofs.Words.{after-run}
use Rattle.ron_lex.proofs.GapLemmas.{blanks_pass}
use Rattle.ron_lex.proofs.gap.skip_opened_gap.Goals as goal

pub loop-after-init : goal.loop-after-init
loop-after-init c = (
  c.skip_blanks-rest.utf8,
  ap skip c.skip_blanks-rest.ensures.value ∙ blanks_pass (chars c.args.text.now),
  rw c.skip_blanks-rest.ensures.value (after-run is_blank (chars c.args.text.now)),
)

pub loop-after-preserved : goal.loop-after-preserved
loop-after-preserved c =
    let rest = chars c.loop-after.rest.now in
    let after = chars c.in-Some.after.now in (
      c.skip_blanks-rest-in-Some.utf8,
      ap skip c.skip_blanks-rest-in-Some.ensures.value ∙ blanks_pass after ∙ sym (skip-past rest after c.loop-after.invariant.2 c.in-Some.ensures.value)
          ∙ c.loop-after.invariant.1,
      rw c.skip_blanks-rest-in-Some.ensures.value (after-run is_blank after),
    )

pub returns : goal.returns
returns c = record { value = sym (skip-nothing (chars c.loop-after.rest.now) c.loop-after.invariant.2 c.in_default.ensures.value) ∙ c.loop-after.invariant.1 }
