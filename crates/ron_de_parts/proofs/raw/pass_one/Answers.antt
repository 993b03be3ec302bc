use Rattle.ron_de_steps.proofs.NearLemmas.{last_goes}
use Rattle.ron_de_parts.proofs.AgainLemmas.{any_then}
use Rattle.ron_de_parts.proofs.raw.pass_one.Goals as goal

pub returns-clause-turns : goal.returns-clause-turns
returns-clause-turns c = any_then c.args.cursor.now c.read_any.new.cursor c.in_ok-read_any.field-0 c.pass_last_comma.result c.pass_last_comma.new.cursor
    c.in_ok-read_any.ensures.turns c.pass_last_comma.ensures.turns
    (last_goes c.read_any.new.cursor c.pass_last_comma.result c.pass_last_comma.new.cursor c.pass_last_comma.ensures.value)
