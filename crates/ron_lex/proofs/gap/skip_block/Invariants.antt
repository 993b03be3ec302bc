use Rattle.std.proofs.Common.{◌≡◌, ◌+◌, ◌≤◌, length, chars}
use denote.Text.{Utf8}
use denote.Shadow.{shadow}
use Rattle.ron_spec_words.specs.Gap.{after_block}
use Rattle.ron_lex.proofs.gap.skip_block.Given as goal

-- what follows the end from here on is what follows it from the start, and each comment that is open took a character
abbrev pub invariant-loop-mark : goal.invariant-loop-mark
invariant-loop-mark l =
    shadow (Utf8 l.rest) × (after_block l.open (chars l.rest) ≡ after_block 0 (chars l.fn.text)) × (l.open + length l.rest ≤ length l.fn.text)

abbrev pub decreases-loop-mark : goal.decreases-loop-mark
decreases-loop-mark l = length l.rest
