use Rattle.ron_lex_text.proofs.StretchLemmas.{literals}
use Rattle.ron_de_parts.proofs.TurnLemmas.{none_taken}
use Rattle.ron_de_parts.proofs.options.take_none.Goals as goal

pub returns-clause-near : goal.returns-clause-near
unfolding literals
returns-clause-near c = none_taken c.take_word.result c.args.cursor.now c.take_word.new.self c.take_word.ensures.taken
