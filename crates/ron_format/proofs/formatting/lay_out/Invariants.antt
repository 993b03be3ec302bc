use Rattle.std.proofs.Common.{◌≡◌, chars, string_bytes, length}
use Rattle.ron_spec_words.specs.Gap.{skip}
use Rattle.ron_format_words.specs.Written.{WrittenToWord}
use Rattle.ron_format.specs.View.{place_view}
use Rattle.ron_format.specs.Whole.{IsWhole, IsWholeOn}
use Rattle.ron_format.proofs.formatting.lay_out.Given as goal

-- the text is written up to the next word or mark, and whole from there on where it is whole
abbrev pub invariant-loop-after : goal.invariant-loop-after
invariant-loop-after l = WrittenToWord (place_view l.next.place) (chars l.fn.text) (chars (string_bytes l.out)) (chars l.next.rest.now)
    × (skip (chars l.next.rest.now) ≡ chars l.next.rest.now)
    × (IsWhole (chars l.fn.text) → IsWholeOn (chars l.next.rest.now))

abbrev pub decreases-loop-after : goal.decreases-loop-after
decreases-loop-after l = length (chars l.next.rest.now)
