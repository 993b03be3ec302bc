use Rattle.std.proofs.Common.{chars, encode_utf8_all, length}
use Rattle.std.specs.Fmt.{WritesInCalls}
use denote.Text.{Utf8}
use denote.Shadow.{shadow}
use Rattle.ron_base.specs.Escape.{escaped}
use Rattle.ron_base.specs.declared.escape.Quotes.TheVariants.{Both}
use Rattle.ron_ser.proofs.quoted.write_escaped.Given as goal

-- once the rest is written too, the text is
abbrev pub invariant-loop-c : goal.invariant-loop-c
invariant-loop-c g l =
    shadow (Utf8 l.rest)
    × ((v : g.row.O.Denot) → WritesInCalls g.O.Output.puts l.out (encode_utf8_all (escaped Both (chars l.rest))) v
    → WritesInCalls g.O.Output.puts l.initial.out (encode_utf8_all (escaped Both (chars l.text))) v)

abbrev pub decreases-loop-c : goal.decreases-loop-c
decreases-loop-c g l = length l.rest
