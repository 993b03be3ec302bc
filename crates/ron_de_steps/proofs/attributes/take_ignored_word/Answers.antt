use Rattle.ron_lex.proofs.TurnLemmas.{mark_over}
use Rattle.ron_de_steps.proofs.AttributeCounts.{same_twice, word_twice}
use Rattle.ron_de_steps.proofs.attributes.take_ignored_word.Goals as goal

pub returns-then-take_word-clause-turns : goal.returns-then-take_word-clause-turns
returns-then-take_word-clause-turns c = mark_over _ c.args.cursor.now c.take_word.new.self c.if-take_word.ensures.taken c.take_word.ensures.turns

pub returns-else-take_word-clause-turns : goal.returns-else-take_word-clause-turns
returns-else-take_word-clause-turns c = same_twice c.args.cursor.now c.take_word.new.self c.take_word-else-take_word.new.self c.if-take_word.ensures.taken
    (word_twice c.take_word-else-take_word.result _ c.take_word.new.self c.take_word-else-take_word.new.self c.take_word-else-take_word.ensures.taken
    c.take_word-else-take_word.ensures.turns)
