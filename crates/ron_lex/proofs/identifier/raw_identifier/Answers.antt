use Rattle.ron_lex.proofs.IdentifierLemmas.{past_mark}
use Rattle.ron_lex.proofs.identifier.raw_identifier.Goals as goal

pub returns-in-Some-split_word-clause-past : goal.returns-in-Some-split_word-clause-past
returns-in-Some-split_word-clause-past c = past_mark _ _ _ _ _ c.in-Some.ensures c.in-Some-strip_char.ensures c.in-Some-split_word.ensures.joined
