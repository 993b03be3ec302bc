use Rattle.std.proofs.Common.{◌≡◌, ◌+◌, ◌≤◌, length, chars}
use denote.Text.{Utf8}
use denote.Shadow.{shadow}
use Rattle.ron_spec_words.specs.Lookahead.{seek}
use Rattle.ron_lex.proofs.lookahead.seek.Given as goal

-- the lookahead from here on is the one from the start, and each bracket that is open took a character
abbrev pub invariant-loop-first : goal.invariant-loop-first
invariant-loop-first l = shadow (Utf8 l.rest) × (seek 0 l.open (chars l.rest) ≡ seek 0 0 (chars l.fn.text)) × (l.open + length l.rest ≤ length l.fn.text)

abbrev pub decreases-loop-first : goal.decreases-loop-first
decreases-loop-first l = length l.rest
