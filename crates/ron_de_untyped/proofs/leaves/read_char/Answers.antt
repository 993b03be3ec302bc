use Rattle.std.proofs.Common.{arith}
use Rattle.ron_value.specs.declared.value.Value as held
use Rattle.ron_de_steps.proofs.NearLemmas.{char_nears}
use Rattle.ron_de_untyped.proofs.CountLemmas.{word_settled, scan_settled}
use Rattle.ron_de_untyped.proofs.leaves.read_char.Goals as goal

pub returns-in-Ok-clause-turns : goal.returns-in-Ok-clause-turns
returns-in-Ok-clause-turns c = word_settled 1 c.args.cursor.now c.character.new.self (held.Char c.in-Ok.character) (omega arith) c.in-Ok.ensures.turns.moved
    (char_nears c.in-Ok.character c.args.cursor.now c.character.new.self c.in-Ok.ensures.value)

pub returns-in-Err-clause-turns : goal.returns-in-Err-clause-turns
returns-in-Err-clause-turns c = scan_settled 1 c.args.cursor.now c.character.new.self c.quoted_error.result (omega arith) c.in-Err.ensures.turns.most
