use Rattle.std.proofs.Common.{arith}
use Rattle.ron_value.specs.declared.value.Value as held
use Rattle.ron_de_steps.proofs.NearLemmas.{untyped_name_nears}
use Rattle.ron_de_untyped.proofs.CountLemmas.{word_settled, look_scan_settled}
use Rattle.ron_de_untyped.proofs.leaves.read_unit.Goals as goal

pub returns-in-Some-clause-turns : goal.returns-in-Some-clause-turns
returns-in-Some-clause-turns c = word_settled 1 c.args.cursor.now c.untyped_name.new.self held.Unit (omega arith) c.in-Some.ensures.turns
    (untyped_name_nears _ c.args.cursor.now c.untyped_name.new.self c.in-Some.ensures.value)

pub returns-in-None-clause-turns : goal.returns-in-None-clause-turns
returns-in-None-clause-turns c = look_scan_settled c.args.cursor.now c.untyped_name.new.self c.missing_value.new.cursor c.missing_value.result
    c.in-None.ensures.value.1 c.in-None.ensures.turns c.missing_value.ensures.turns
