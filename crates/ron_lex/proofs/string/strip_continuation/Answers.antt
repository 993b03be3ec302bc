use Rattle.std.proofs.Common.{chars}
use Rattle.ron_lex.proofs.PieceLemmas.{no_backslash, no_line_end, continues, unwrapped}
use Rattle.ron_lex.proofs.string.strip_continuation.Goals as goal

pub returns-in_default : goal.returns-in_default
returns-in_default c = no_backslash (chars c.args.text.now) c.in_default.ensures

pub returns-in_default-strip_char : goal.returns-in_default-strip_char
returns-in_default-strip_char c =
    no_line_end _ (chars c.in-Some.marked.now) (chars c.unwrap_or-line_feed.result.now) c.strip_char-2.result c.in-Some.ensures c.strip_char-2.ensures
    (unwrapped _ _ _ c.unwrap_or-line_feed.ensures) c.in_default-strip_char.ensures

pub returns : goal.returns
returns c =
    continues _ (chars c.in-Some.marked.now) (chars c.unwrap_or-line_feed.result.now) _ _ c.strip_char-2.result c.in-Some.ensures c.strip_char-2.ensures
    (unwrapped _ _ _ c.unwrap_or-line_feed.ensures) c.in-Some-strip_char.ensures c.skip_run.ensures.value
