use Rattle.ron_lex_text.proofs.StretchLemmas.{literals}
use Rattle.ron_de_untyped.proofs.CountLemmas.{some_taken}
use Rattle.ron_de_untyped.proofs.words.take_some.Goals as goal

pub returns-clause-turns : goal.returns-clause-turns
unfolding literals
returns-clause-turns c = some_taken c.take_word.result c.args.cursor.now c.take_word.new.self c.take_word.ensures.turns c.take_word.ensures.taken
