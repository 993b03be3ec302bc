use Rattle.std.proofs.Common.{arith}
use Rattle.ron_lex_text.proofs.StretchLemmas.{literals}
use Rattle.ron_lex.proofs.TurnLemmas.{over_all}
use Rattle.ron_de_steps.proofs.NearLemmas.{unit_nears}
use Rattle.ron_de_parts.proofs.TurnLemmas.{leaf_read, leaf_refused}
use Rattle.ron_de_parts.proofs.leaves.read_unit.Goals as goal

pub returns-then-take_text-clause-turns : goal.returns-then-take_text-clause-turns
unfolding literals
returns-then-take_text-clause-turns c = leaf_read 1 (omega arith) c.args.cursor.now c.take_text.new.self _ c.if-take_text.ensures.turns
    (unit_nears c.args.cursor.now c.take_text.new.self c.if-take_text.ensures.taken)

pub returns-else-take_text-clause-turns : goal.returns-else-take_text-clause-turns
returns-else-take_text-clause-turns c =
    leaf_refused 1 (omega arith) c.args.cursor.now c.take_text.new.self _ (over_all 1 c.args.cursor.now c.take_text.new.self c.if-take_text.ensures.turns)
