use Rattle.std.proofs.Common.{◌≤◌, length, chars, IsUtf8, rules, arith, ◌∙◌}
use Rattle.ron_format.proofs.CommentLemmas.{comment_later, blanks_gone}
use Rattle.ron_format.proofs.gap.next_comment.Goals as goal

pub loop-after-preserved : goal.loop-after-preserved
loop-after-preserved c =
    let u : IsUtf8 c.skip_blanks-rest-in-Some.result.now = search rules in
    let before : length c.loop-after.rest.now ≤ length c.args.text.now = c.loop-after.invariant.1 in
    let shorter : length c.skip_blanks-rest-in-Some.result.now ≤ length c.args.text.now =
    omega (arith, before, c.in-Some.ensures.shorter, c.skip_blanks-rest-in-Some.ensures.shorter)
    in
    let later = comment_later (chars c.loop-after.rest.now) c.in-Some.field-0-0 (chars c.in-Some.after.now) c.in-Some.ensures.chars
    c.in_default-skip_comment.ensures.value in
    let gone = blanks_gone (chars c.in-Some.after.now) (chars c.skip_blanks-rest-in-Some.result.now) c.skip_blanks-rest-in-Some.ensures.value in
    (u, shorter, gone ∙ later ∙ c.loop-after.invariant.2)
