use Rattle.std.proofs.Common.{◌≡◌, ◌≤◌, chars, length}
use denote.Text.{Utf8}
use denote.Shadow.{shadow}
use Rattle.ron_spec_words.specs.Runs.{after_run}
use Rattle.ron_lex_text.specs.Stretch.{in_class}
use Rattle.ron_lex_text.proofs.text.skip_run.Given as goal

-- the run ends behind the place where it ends behind the start
abbrev pub invariant-loop-first : goal.invariant-loop-first
invariant-loop-first l =
    shadow (Utf8 l.rest) × (length l.rest ≤ length l.text) × (after_run (in_class l.class) (chars l.rest) ≡ after_run (in_class l.class) (chars l.text))

abbrev pub decreases-loop-first : goal.decreases-loop-first
decreases-loop-first l = length l.rest
