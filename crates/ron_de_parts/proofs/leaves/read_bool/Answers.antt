use Rattle.std.proofs.Common.{arith}
use Rattle.ron_lex_text.proofs.StretchLemmas.{literals}
use Rattle.ron_lex.proofs.TurnLemmas.{over_all}
use Rattle.ron_de_steps.proofs.NearLemmas.{true_nears, false_nears}
use Rattle.ron_de_parts.proofs.TurnLemmas.{leaf_read, leaf_refused, leaf_from}
use Rattle.ron_de_parts.proofs.leaves.read_bool.Goals as goal

pub returns-then-take_word-clause-turns : goal.returns-then-take_word-clause-turns
unfolding literals
returns-then-take_word-clause-turns c = leaf_read 1 (omega arith) c.args.cursor.now c.take_word.new.self _ c.if-take_word.ensures.turns
    (true_nears c.args.cursor.now c.take_word.new.self c.if-take_word.ensures.taken)

pub returns-then-take_word-2-clause-turns : goal.returns-then-take_word-2-clause-turns
unfolding literals
returns-then-take_word-2-clause-turns c =
    leaf_from c.args.cursor.now c.take_word.new.self _ c.take_word-2.new.self c.if-take_word.ensures.taken (leaf_read 1 (omega arith) c.take_word.new.self
    c.take_word-2.new.self _ c.if-take_word-2.ensures.turns (false_nears c.take_word.new.self c.take_word-2.new.self c.if-take_word-2.ensures.taken))

pub returns-clause-turns : goal.returns-clause-turns
returns-clause-turns c = leaf_from c.args.cursor.now c.take_word.new.self _ c.take_word-2.new.self c.if-take_word.ensures.taken (leaf_refused 1 (omega arith)
    c.take_word.new.self c.take_word-2.new.self _ (over_all 1 c.take_word.new.self c.take_word-2.new.self c.if-take_word-2.ensures.turns))
