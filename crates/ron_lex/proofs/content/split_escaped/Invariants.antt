use Rattle.std.proofs.Common.{◌≡◌, false, chars, length}
use denote.Text.{Utf8}
use denote.Shadow.{shadow}
use Rattle.ron_spec_words.specs.Runs.{begins}
use Rattle.ron_spec_words.specs.Reader.{meant}
use Rattle.ron_spec_words.specs.Quoted.{append}
use Rattle.ron_lex_text.specs.Stretch.{IsSuffix}
use Rattle.ron_lex.specs.Turns.{CoversAtMost, passed}
use Rattle.ron_lex.specs.Searched.{Gains}
use Rattle.ron_lex.proofs.StringLemmas.{plain}
use Rattle.ron_lex.proofs.content.split_escaped.Given as goal

-- what the pieces from here on give stands behind what was read, and what was read is gone over once, and no less
abbrev pub invariant-loop-place : goal.invariant-loop-place
invariant-loop-place g l =
    shadow (Utf8 l.rest) × shadow (Utf8 l.place) × IsSuffix (chars l.rest) (chars l.text) × IsSuffix (chars l.place) (chars l.text)
    × (begins plain (chars l.rest) ≡ false)
    × (CoversAtMost 1 l.fn.searches.covered (chars l.escape) (chars l.rest) l.searches.covered
    × Gains (passed (chars l.escape) (chars l.rest)) l.fn.searches.covered l.searches.covered)
    × (g.C.Content.content (chars l.text) ≡ meant (g.C.Content.content (chars l.rest)) (append (g.C.Content.made l.content)))

abbrev pub decreases-loop-place : goal.decreases-loop-place
decreases-loop-place g l = length (chars l.rest)
