use Rattle.std.proofs.Common.{chars, encode_utf8_all}
use Rattle.std.specs.Fmt.{WritesInCalls}
use Rattle.ron_spec_layout.specs.Config.{times}
use Rattle.ron_ser.proofs.lines.write_each.Given as goal

-- so many are written
abbrev pub invariant-loop : goal.invariant-loop
invariant-loop g l = WritesInCalls g.O.Output.puts l.initial.out (encode_utf8_all (times l.counter (chars l.text))) l.out
