use Rattle.std.proofs.Common.{arith, chars, sym, ◌∙◌}
use Rattle.ron_lex_text.proofs.BlankLemmas.{front_passes, blank_passes}
use Rattle.ron_lex_text.proofs.text.skip_blanks.Goals as goal

pub loop-first-init : goal.loop-first-init
loop-first-init c =
    let front = front_passes (chars c.args.text.now) c.skip_spaces-rest.ensures.value in
    (c.skip_spaces-rest.utf8, c.skip_spaces-rest.ensures.shorter, front.0, front.1)

pub loop-first-preserved : goal.loop-first-preserved
loop-first-preserved c =
    let after = chars c.in-Some.after.now in
    let next = c.skip_spaces-rest-in-Some in
    let spaces = next.ensures.value ∙ c.skip_fours.ensures.value in (
      next.utf8,
      omega (arith, next.ensures.shorter, c.skip_fours.ensures.shorter, c.in-Some.ensures.shorter, c.loop-first.invariant.1),
      (front_passes after spaces).0,
      blank_passes after spaces c.in-Some.ensures.chars (sym c.is_other_blank.ensures ∙ c.if-not-is_other_blank.false) ∙ c.loop-first.invariant.3,
    )
