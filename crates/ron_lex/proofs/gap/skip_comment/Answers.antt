use Rattle.std.proofs.Common.{chars}
use Rattle.ron_lex.proofs.GapLemmas.{comment_line, comment_block, comment_none, comment_other}
use Rattle.ron_lex.proofs.gap.skip_comment.Goals as goal

pub returns-in_default-clause-value : goal.returns-in_default-clause-value
returns-in_default-clause-value c = comment_other (chars c.args.text.now) c.in_default.ensures.chars

pub returns-in-Some-strip_mark-clause-value : goal.returns-in-Some-strip_mark-clause-value
returns-in-Some-strip_mark-clause-value c =
    rw (c.in-Some.ensures.chars, c.in-Some-strip_mark.ensures.chars, c.skip_line.ensures.value) (comment_line (chars c.in-Some-strip_mark.line.now))

pub returns-in-Some-strip_mark-2-clause-value : goal.returns-in-Some-strip_mark-2-clause-value
returns-in-Some-strip_mark-2-clause-value c =
    rw (c.in-Some.ensures.chars, c.in-Some-strip_mark-2.ensures.chars, comment_block (chars c.in-Some-strip_mark-2.inside.now)) c.skip_block.ensures.value

pub returns-in-None-clause-value : goal.returns-in-None-clause-value
returns-in-None-clause-value c =
    rw c.in-Some.ensures.chars (comment_none (chars c.in-Some.after.now) c.in_default-strip_mark.ensures.chars c.in-None.ensures.chars)
