use Rattle.std.proofs.Common.{chars}
use Rattle.ron_lex_text.proofs.StretchLemmas.{end_behind_char, end_past_char}
use Rattle.ron_lex.proofs.EscapeLemmas.{plain_none, plain_ended, plain_one, plain_unknown}
use Rattle.ron_lex.proofs.escape.split_plain_escape.Goals as goal

pub returns-in_default-clause-value : goal.returns-in_default-clause-value
returns-in_default-clause-value c = plain_none (chars c.args.text.now) c.in_default.ensures

pub returns-in_default-split_first-clause-value : goal.returns-in_default-split_first-clause-value
returns-in_default-split_first-clause-value c = plain_ended _ _ c.in-Some.ensures c.in_default-split_first.ensures.chars

pub returns-in_default-split_first-clause-err_end : goal.returns-in_default-split_first-clause-err_end
returns-in_default-split_first-clause-err_end c = rw c.new.ensures.rest (end_behind_char _ _ _ c.in-Some.ensures)

pub returns-in-Some-escape_meaning-clause-value : goal.returns-in-Some-escape_meaning-clause-value
returns-in-Some-escape_meaning-clause-value c = plain_one _ _ _ _ _ c.in-Some.ensures c.in-Some-split_first.ensures.chars c.in-Some-escape_meaning.ensures.value

pub returns-in-None-clause-value : goal.returns-in-None-clause-value
returns-in-None-clause-value c = plain_unknown _ _ _ _ c.in-Some.ensures c.in-Some-split_first.ensures.chars c.in-None.ensures.value

pub returns-in-None-clause-err_end : goal.returns-in-None-clause-err_end
returns-in-None-clause-err_end c =
    rw c.escape-in-None.ensures.rest (end_past_char _ _ _ _ c.in-Some.ensures (end_behind_char _ _ _ c.in-Some-split_first.ensures.chars))
