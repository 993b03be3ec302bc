use Rattle.std.proofs.Common.{◌-◌, ◌<◌, ◌≤◌, ◌^◌, chars}
use denote.Text.{Utf8}
use denote.Shadow.{shadow}
use Rattle.ron_lex.proofs.EscapeLemmas.{Digits}
use Rattle.ron_lex.proofs.escape.split_braced.Given as goal

abbrev pub invariant-loop-count : goal.invariant-loop-count
invariant-loop-count l = shadow (Utf8 l.rest) × (l.count ≤ 6) × (l.value < 16 ^ l.count) × Digits (chars l.text) (chars l.rest) l.value l.count

abbrev pub decreases-loop-count : goal.decreases-loop-count
decreases-loop-count l = 6 - l.count
