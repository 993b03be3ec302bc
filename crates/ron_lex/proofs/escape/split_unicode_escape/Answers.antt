use Rattle.std.proofs.Common.{chars}
use Rattle.ron_lex_text.proofs.StretchLemmas.{literals, end_past_char}
use Rattle.ron_lex.proofs.SplitLemmas.{errors_end, end_behind_two, end_past_two}
use Rattle.ron_lex.proofs.EscapeLemmas.{unicode_none, unicode_unbraced, unicode_braced}
use Rattle.ron_lex.proofs.escape.split_unicode_escape.Goals as goal

pub returns-in_default-clause-value : goal.returns-in_default-clause-value
unfolding literals
returns-in_default-clause-value c = unicode_none (chars c.args.text.now) c.in_default.ensures

pub returns-in_default-strip_char-clause-value : goal.returns-in_default-strip_char-clause-value
unfolding literals
returns-in_default-strip_char-clause-value c =
    unicode_unbraced (chars c.args.text.now) (chars c.in-Some.marked.now) c.in-Some.ensures c.in_default-strip_char.ensures

pub returns-in_default-strip_char-clause-err_end : goal.returns-in_default-strip_char-clause-err_end
unfolding literals
returns-in_default-strip_char-clause-err_end c =
    rw c.escape-in_default-strip_char.ensures.rest (end_behind_two 92 117 _ (chars c.in-Some.marked.now) c.in-Some.ensures)

pub returns-clause-value : goal.returns-clause-value
unfolding literals
returns-clause-value c =
    rw (unicode_braced (chars c.args.text.now) (chars c.in-Some.marked.now) _ c.in-Some.ensures c.in-Some-strip_char.ensures) c.split_braced.ensures.value

pub returns-clause-err_end : goal.returns-clause-err_end
unfolding literals
returns-clause-err_end c =
    errors_end c.split_braced.result (chars c.in-Some-strip_char.digits.now) (chars c.args.text.now)
    (λ u k. end_past_two 92 117 _ (chars c.in-Some.marked.now) u c.in-Some.ensures (end_past_char _ _ _ _ c.in-Some-strip_char.ensures k))
    c.split_braced.ensures.err_end
