use Rattle.std.proofs.Common.{◌≡◌, ◌≤◌, ◌-◌, chars, length, drop, IsUtf8}
use Rattle.ron_lex_text.specs.Stretch.{stands_called, parting}
use Rattle.ron_lex_text.proofs.text.strip_called.Given as goal

-- behind the place the text and the name go on as they do behind the start
abbrev pub invariant-loop-place : goal.invariant-loop-place
invariant-loop-place l =
    (l.place ≤ length l.name) × (l.place ≤ length l.text) × IsUtf8 (drop l.place l.name) × IsUtf8 (drop l.place l.text)
    × (stands_called (chars (drop l.place l.name)) (chars (drop l.place l.text)) ≡ stands_called (chars l.name) (chars l.text))
    × (parting (chars (drop l.place l.name)) (chars (drop l.place l.text)) ≡ parting (chars l.name) (chars l.text))

abbrev pub decreases-loop-place : goal.decreases-loop-place
decreases-loop-place l = length l.wanted - l.place
