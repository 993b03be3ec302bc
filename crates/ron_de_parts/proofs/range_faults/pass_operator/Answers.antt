use Rattle.std.proofs.Common.{codes}
use Rattle.ron_lex_text.proofs.StretchLemmas.{literals}
use Rattle.ron_de_steps.proofs.KeepLemmas.{over_on}
use Rattle.ron_de_parts.proofs.TurnLemmas.{moved_so, front_twice}
use Rattle.ron_de_parts.proofs.range_faults.pass_operator.Goals.{else-not-found_closed-via-then-not-found_closed+else-not-take_text}
use Rattle.ron_de_parts.proofs.range_faults.pass_operator.Goals.{else-not-found_closed-via-else-not-found_closed}
use Rattle.ron_de_parts.proofs.range_faults.pass_operator.Goals as goal

pub returns-then-found_closed-is_closed-clause-turns : goal.returns-then-found_closed-is_closed-clause-turns
unfolding literals
returns-then-found_closed-is_closed-clause-turns c =
    let old = c.args.cursor.now in
    let closed = front_twice (codes "..=") c.take_text-found_closed.result old c.take_text-found_closed.new.self c.take_text-found_closed.ensures.taken
    c.take_text-found_closed.ensures.turns in
    moved_so 2 old c.else-not-found_closed.cursor _ (elim c.else-not-found_closed.branch [
      | else-not-found_closed-via-then-not-found_closed+else-not-take_text w ↦
          rw w.cursor-is (over_on 2 old c.take_text-found_closed.new.self w.take_text.new.self closed (front_twice (codes "..") w.take_text.result
          c.take_text-found_closed.new.self w.take_text.new.self w.take_text.ensures.taken w.take_text.ensures.turns))
      | else-not-found_closed-via-else-not-found_closed w ↦ rw w.cursor-is closed
    ])
