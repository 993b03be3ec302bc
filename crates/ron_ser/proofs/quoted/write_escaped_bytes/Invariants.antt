use Rattle.std.proofs.Common.{length}
use Rattle.std.specs.Fmt.{WritesInCalls}
use Rattle.ron_base.specs.Escape.{escaped_bytes}
use Rattle.ron_ser.proofs.quoted.write_escaped_bytes.Given as goal

-- once the rest is written too, all bytes are
abbrev pub invariant-loop-byte : goal.invariant-loop-byte
invariant-loop-byte g l =
    (v : g.row.O.Denot) → WritesInCalls g.O.Output.puts l.out (escaped_bytes l.rest) v → WritesInCalls g.O.Output.puts l.initial.out (escaped_bytes l.bytes) v

abbrev pub decreases-loop-byte : goal.decreases-loop-byte
decreases-loop-byte g l = length l.rest
