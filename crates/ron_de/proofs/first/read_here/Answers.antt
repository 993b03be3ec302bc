-- A value that isn't at the start of its text.
use Rattle.std.proofs.Common.{arith}
use Rattle.ron_de.proofs.TurnLemmas.{spent_more}
use Rattle.ron_de.proofs.first.read_here.Goals as goal

pub returns-else-is_at_start-clause-turns : goal.returns-else-is_at_start-clause-turns
returns-else-is_at_start-clause-turns c =
    spent_more _ c.args.cursor.now c.read_value.result c.read_value.new.cursor _ _ (omega arith) c.read_value.ensures.turns
