use Rattle.std.proofs.Common.{arith}
use Rattle.ron_de_steps.proofs.NearLemmas.{name_nears}
use Rattle.ron_de_steps.proofs.AttributeCounts.{over_twice}
use Rattle.ron_de_steps.proofs.attributes.read_extension.Goals as goal

pub returns-in-Some-clause-turns : goal.returns-in-Some-clause-turns
returns-in-Some-clause-turns c =
    let over = over_twice c.args.cursor.now c.identifier.new.self c.in-Ok.ensures.turns.moved
    (name_nears _ c.args.cursor.now c.identifier.new.self c.in-Ok.ensures.value).less in
    record { moved = over; most = omega (arith, over) }
