use Rattle.std.proofs.Common.{◌≡◌, ◌≤◌, chars, length}
use denote.Text.{Utf8}
use denote.Shadow.{shadow}
use Rattle.ron_format_words.specs.Comments.{comments_of}
use Rattle.ron_format.proofs.gap.next_comment.Given as goal

-- the comments from here on are all of them
abbrev pub invariant-loop-after : goal.invariant-loop-after
invariant-loop-after l = shadow (Utf8 l.rest) × (length l.rest ≤ length l.fn.text) × (comments_of (chars l.rest) ≡ comments_of (chars l.fn.text))

abbrev pub decreases-loop-after : goal.decreases-loop-after
decreases-loop-after l = length l.rest
