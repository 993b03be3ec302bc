use Rattle.std.proofs.Common.{chars, length}
use denote.Text.{Utf8}
use denote.Shadow.{shadow}
use Rattle.ron_de_raw.proofs.StretchLemmas.{WhiteSoFar}
use Rattle.ron_de_raw.proofs.stretch.trailing_white.Given as goal

-- so far nothing but white space stands behind where `white` begins
abbrev pub invariant-loop-first : goal.invariant-loop-first
invariant-loop-first l = shadow (Utf8 l.white) × shadow (Utf8 l.rest) × WhiteSoFar (chars l.fn.text) (chars l.white) (chars l.rest)

abbrev pub decreases-loop-first : goal.decreases-loop-first
decreases-loop-first l = length l.rest
