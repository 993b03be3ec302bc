use Rattle.ron_lex_text.proofs.StretchLemmas.{literals}
use Rattle.ron_de_untyped.proofs.CountLemmas.{unit_taken}
use Rattle.ron_de_untyped.proofs.words.take_unit.Goals as goal

pub returns-clause-turns : goal.returns-clause-turns
unfolding literals
returns-clause-turns c = unit_taken c.take_text.result c.args.cursor.now c.take_text.new.self c.take_text.ensures.turns c.take_text.ensures.taken
