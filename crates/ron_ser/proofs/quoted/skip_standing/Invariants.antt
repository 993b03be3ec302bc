use Rattle.std.proofs.Common.{◌≡◌, ◌≤◌, chars, length}
use denote.Text.{Utf8}
use denote.Shadow.{shadow}
use Rattle.ron_spec_words.specs.Runs.{after_run}
use Rattle.ron_base.specs.Escape.{stands_as_it_is}
use Rattle.ron_base.specs.declared.escape.Quotes.TheVariants.{Both}
use Rattle.ron_ser.proofs.quoted.skip_standing.Given as goal

-- the run ends behind the place where it ends behind the start
abbrev pub invariant-loop-c : goal.invariant-loop-c
invariant-loop-c l =
    shadow (Utf8 l.rest) × (length l.rest ≤ length l.text) × (after_run (stands_as_it_is Both) (chars l.rest) ≡ after_run (stands_as_it_is Both) (chars l.text))

abbrev pub decreases-loop-c : goal.decreases-loop-c
decreases-loop-c l = length l.rest
