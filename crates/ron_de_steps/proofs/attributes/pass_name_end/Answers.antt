use Rattle.ron_de_steps.proofs.NearLemmas.{item_goes, enters_nears_so, mark_right_parenthesis}
use Rattle.ron_de_steps.proofs.AttributeCounts.{moved_twice}
use Rattle.ron_de_steps.proofs.attributes.pass_name_end.Goals as goal

pub returns-in_default-3-clause-turns : goal.returns-in_default-3-clause-turns
returns-in_default-3-clause-turns c =
    moved_twice c.args.cursor.now c.read_comma.result c.read_comma.new.cursor c.read_comma.ensures.turns (enters_nears_so c.args.cursor.now c.read_comma.result
    c.read_comma.new.cursor (item_goes c.args.cursor.now 41 c.read_comma.result c.read_comma.new.cursor mark_right_parenthesis c.read_comma.ensures.value))
