use Rattle.std.proofs.Common.{◌≡◌, chars, length}
use lib.Pointwise.{pointwise}
use denote.Text.{Utf8}
use denote.Shadow.{shadow}
use Rattle.ron_spec_words.specs.Runs.{same_text}
use Rattle.ron_format_words.specs.Comments.{comments_of}
use Rattle.ron_format.proofs.grant.has_same_comments.Given as goal

-- what is left of both has the same comments exactly where both have
abbrev pub invariant-loop-comment : goal.invariant-loop-comment
invariant-loop-comment l = shadow (Utf8 l.one) × shadow (Utf8 l.other)
    × (pointwise same_text (comments_of (chars l.one)) (comments_of (chars l.other))
    ≡ pointwise same_text (comments_of (chars l.fn.edge)) (comments_of (chars l.fn.wish)))

abbrev pub decreases-loop-comment : goal.decreases-loop-comment
decreases-loop-comment l = length l.one
