use Rattle.ron_lex_text.proofs.StretchLemmas.{end_is_shorter, end_is_boundary, chars_before}
use Rattle.ron_lex_text.proofs.text.before.Goals as goal

pub overflow_sub-text : goal.overflow_sub-text
overflow_sub-text c = end_is_shorter _ _ c.utf8.text c.utf8.rest c.requires

pub range-requires-clause-end_boundary : goal.range-requires-clause-end_boundary
range-requires-clause-end_boundary c = end_is_boundary _ _ c.utf8.text c.utf8.rest c.requires

pub returns : goal.returns
returns c = chars_before _ _ _ c.utf8.text c.utf8.rest c.range.utf8 c.requires c.range.ensures.value
