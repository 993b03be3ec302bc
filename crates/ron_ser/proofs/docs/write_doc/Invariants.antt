use Rattle.std.proofs.Common.{◌++◌, codes, flat_map, chars, encode_utf8_all, length}
use denote.Text.{Utf8}
use denote.Shadow.{shadow}
use Rattle.std.specs.Fmt.{WritesInCalls}
use Rattle.std.specs.Str.Lines.{lines}
use Rattle.ron_spec_layout.specs.Config.{line_at}
use Rattle.ron_ser.specs.Stand.{place_of}
use Rattle.ron_ser.proofs.docs.write_doc.Given as goal

-- once the lines of the rest are written too, all are
abbrev pub invariant-loop-line : goal.invariant-loop-line
invariant-loop-line g l =
    shadow (Utf8 l.rest)
    × ((v : g.row.O.Denot)
    → WritesInCalls g.O.Output.puts l.out
    (encode_utf8_all (flat_map (λ t. codes "/// " ++ (t ++ line_at (place_of l.writing).config l.level)) (lines (chars l.rest)))) v
    → WritesInCalls g.O.Output.puts l.initial.out
    (encode_utf8_all (flat_map (λ t. codes "/// " ++ (t ++ line_at (place_of l.writing).config l.level)) (lines (chars l.doc)))) v)

abbrev pub decreases-loop-line : goal.decreases-loop-line
decreases-loop-line g l = length l.rest
