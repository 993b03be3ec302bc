use Rattle.std.proofs.Common.{◌+◌, ◌≤◌, chars, length}
use denote.Text.{Utf8}
use denote.Shadow.{shadow}
use Rattle.ron_spec_layout.specs.Unescaped.{longest_hashes}
use Rattle.ron_ser.proofs.UnescapedLemmas.{LongestIs}
use Rattle.ron_ser.proofs.unescaped.longest_hashes.Given as goal

-- the longest run of the text is among those up to here and those from here on
abbrev pub invariant-loop-c : goal.invariant-loop-c
invariant-loop-c l = shadow (Utf8 l.rest) × (l.run + length l.rest ≤ length l.text) × LongestIs (longest_hashes (chars l.text)) l.longest l.run (chars l.rest)

abbrev pub decreases-loop-c : goal.decreases-loop-c
decreases-loop-c l = length l.rest
