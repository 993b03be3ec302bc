use Rattle.std.proofs.Common.{sym, ◌∙◌}
use Rattle.ron_lex.proofs.WordLemmas.{stands_there, word_there}
use Rattle.ron_lex.proofs.word.strip_word.Goals as goal

pub returns-clause-value : goal.returns-clause-value
returns-clause-value c = word_there _ _ _ c.in_ok-rest.ensures (sym c.is_at_class.ensures ∙ c.if-is_at_class.false)

pub returns-clause-stands : goal.returns-clause-stands
returns-clause-stands c = stands_there _ _ _ c.in_ok-rest.ensures (sym c.is_at_class.ensures ∙ c.if-is_at_class.false)
