use Rattle.std.proofs.Common.{◌∙◌}
use Rattle.ron_lex_text.proofs.StretchLemmas.{literals}
use Rattle.ron_de_steps.proofs.NearLemmas.{true_nears, false_nears, none_nears}
use Rattle.ron_de_untyped.proofs.CountLemmas.{word_from}
use Rattle.ron_de_untyped.proofs.words.take_fixed.Goals as goal

pub returns-then-take_word-clause-turns : goal.returns-then-take_word-clause-turns
unfolding literals
returns-then-take_word-clause-turns c =
    record { over = c.if-take_word.ensures.turns; near = true_nears c.args.cursor.now c.take_word.new.self c.if-take_word.ensures.taken }

pub returns-then-take_word-2-clause-turns : goal.returns-then-take_word-2-clause-turns
unfolding literals
returns-then-take_word-2-clause-turns c = word_from c.args.cursor.now c.take_word.new.self c.take_word-2.new.self c.if-take_word.ensures.taken
    (record { over = c.if-take_word-2.ensures.turns; near = false_nears c.take_word.new.self c.take_word-2.new.self c.if-take_word-2.ensures.taken })

pub returns-then-take_word-3-clause-turns : goal.returns-then-take_word-3-clause-turns
unfolding literals
returns-then-take_word-3-clause-turns c =
    word_from c.args.cursor.now c.take_word-2.new.self c.take_word-3.new.self (c.if-take_word-2.ensures.taken ∙ c.if-take_word.ensures.taken)
    (record { over = c.if-take_word-3.ensures.turns; near = none_nears c.take_word-2.new.self c.take_word-3.new.self c.if-take_word-3.ensures.taken })
