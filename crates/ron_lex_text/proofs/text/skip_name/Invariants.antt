use Rattle.std.proofs.Common.{◌≡◌, ◌≤◌, ◌-◌, chars, length, drop, IsUtf8}
use Rattle.ron_spec_words.specs.Characters.{continues_name}
use Rattle.ron_spec_words.specs.Runs.{after_run}
use Rattle.ron_lex_text.proofs.text.skip_name.Given as goal

-- the name goes on behind the place as it does behind the start
abbrev pub invariant-loop-place : goal.invariant-loop-place
invariant-loop-place l = (l.place ≤ length l.text) × IsUtf8 (drop l.place l.text)
    × (after_run continues_name (chars (drop l.place l.text)) ≡ after_run continues_name (chars l.text))

abbrev pub decreases-loop-place : goal.decreases-loop-place
decreases-loop-place l = length l.bytes - l.place
