use Rattle.std.proofs.Common.{chars, length}
use denote.Text.{Utf8}
use denote.Shadow.{shadow}
use Rattle.ron_format.proofs.BlankLemmas.{IsTrimmed}
use Rattle.ron_format.proofs.gap.trim_blanks.Given as goal

abbrev pub invariant-loop-first : goal.invariant-loop-first
invariant-loop-first l = shadow (Utf8 l.end) × shadow (Utf8 l.rest) × IsTrimmed (chars l.fn.text) (chars l.end) (chars l.rest)

abbrev pub decreases-loop-first : goal.decreases-loop-first
decreases-loop-first l = length l.rest
