use Rattle.std.proofs.Common.{arith}
use Rattle.ron_de_steps.proofs.NearLemmas.{char_nears}
use Rattle.ron_de_parts.proofs.TurnLemmas.{leaf_read, leaf_refused}
use Rattle.ron_de_parts.proofs.leaves.read_char.Goals as goal

pub returns-in-Ok-clause-turns : goal.returns-in-Ok-clause-turns
returns-in-Ok-clause-turns c = leaf_read 1 (omega arith) c.args.cursor.now c.character.new.self _ c.in-Ok.ensures.turns.moved
    (char_nears c.in-Ok.character c.args.cursor.now c.character.new.self c.in-Ok.ensures.value)

pub returns-in-Err-clause-turns : goal.returns-in-Err-clause-turns
returns-in-Err-clause-turns c = leaf_refused 1 (omega arith) c.args.cursor.now c.character.new.self _ c.in-Err.ensures.turns.most
