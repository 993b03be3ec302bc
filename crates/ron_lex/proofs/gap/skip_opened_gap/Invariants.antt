use Rattle.std.proofs.Common.{◌≡◌, false, length, chars}
use denote.Text.{Utf8}
use denote.Shadow.{shadow}
use Rattle.ron_spec_words.specs.Characters.{is_blank}
use Rattle.ron_spec_words.specs.Gap.{skip}
use Rattle.ron_spec_words.specs.Runs.{begins}
use Rattle.ron_lex.proofs.gap.skip_opened_gap.Given as goal

-- the longest gap ends where it ends from the start, and no blank stands here
abbrev pub invariant-loop-after : goal.invariant-loop-after
invariant-loop-after l = shadow (Utf8 l.rest) × (skip (chars l.rest) ≡ skip (chars l.fn.text)) × (begins is_blank (chars l.rest) ≡ false)

abbrev pub decreases-loop-after : goal.decreases-loop-after
decreases-loop-after l = length l.rest
