use Rattle.std.proofs.Common.{codes}
use Rattle.std.specs.Fmt.{WritesInCalls}
use Rattle.ron_spec_layout.specs.Config.{times}
use Rattle.ron_ser.proofs.lines.write_spaces.Given as goal

-- once what is left is written too, all is
abbrev pub invariant-loop-left : goal.invariant-loop-left
invariant-loop-left g l =
    (v : g.row.O.Denot) → WritesInCalls g.O.Output.puts l.out (times l.left (codes "    ")) v
    → WritesInCalls g.O.Output.puts l.initial.out (times l.n (codes "    ")) v

abbrev pub decreases-loop-left : goal.decreases-loop-left
decreases-loop-left g l = l.left
