use Rattle.std.proofs.Common.{chars}
use Rattle.ron_lex_text.proofs.StretchLemmas.{literals, past_is_end}
use Rattle.ron_lex.proofs.AnyIntegerLemmas.{any_byte, no_byte, any_number}
use Rattle.ron_lex.proofs.any_integer.split_any_integer.Goals as goal

pub before-requires : goal.before-requires
before-requires c = past_is_end _ _ c.in-Ok.ensures.past

pub returns-in-Ok-clause-value : goal.returns-in-Ok-clause-value
unfolding literals
returns-in-Ok-clause-value c = any_byte (chars c.args.text.now) _ _ _ c.if-begins_with.ensures c.in-Ok.ensures.value c.byte_numeral.ensures.value

pub returns-in-Err-clause-value : goal.returns-in-Err-clause-value
unfolding literals
returns-in-Err-clause-value c = no_byte (chars c.args.text.now) c.if-begins_with.ensures c.in-Err.ensures.value

pub returns-in-Ok-split_numeral-clause-value : goal.returns-in-Ok-split_numeral-clause-value
unfolding literals
returns-in-Ok-split_numeral-clause-value c = rw (any_number (chars c.args.text.now) c.if-begins_with.ensures) c.in-Ok-split_numeral.ensures.value

pub returns-in-Err-split_numeral-clause-value : goal.returns-in-Err-split_numeral-clause-value
unfolding literals
returns-in-Err-split_numeral-clause-value c = rw (any_number (chars c.args.text.now) c.if-begins_with.ensures) c.in-Err-split_numeral.ensures.value
