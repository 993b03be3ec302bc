use Rattle.ron_de_steps.proofs.NearLemmas.{any_integer_nears}
use Rattle.ron_de_parts.proofs.leaves.read_number.Goals as goal

pub returns-in-Some-number_in-clause-near : goal.returns-in-Some-number_in-clause-near
returns-in-Some-number_in-clause-near c = any_integer_nears _ c.args.cursor.now c.any_integer.new.self c.in-Ok.ensures.value
