use Rattle.std.proofs.Common.{◌≡◌, ◌≤◌, false, chars, length}
use denote.Text.{Utf8}
use denote.Shadow.{shadow}
use Rattle.ron_spec_words.specs.Characters.{is_blank}
use Rattle.ron_spec_words.specs.Runs.{begins, after_run}
use Rattle.ron_lex_text.specs.Stretch.{is_space}
use Rattle.ron_lex_text.proofs.text.skip_blanks.Given as goal

-- the blanks end behind the place where they end behind the start, and no space stands here
abbrev pub invariant-loop-first : goal.invariant-loop-first
invariant-loop-first l = shadow (Utf8 l.rest) × (length l.rest ≤ length l.text) × (begins is_space (chars l.rest) ≡ false)
    × (after_run is_blank (chars l.rest) ≡ after_run is_blank (chars l.text))

abbrev pub decreases-loop-first : goal.decreases-loop-first
decreases-loop-first l = length l.rest
