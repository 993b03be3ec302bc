use Rattle.std.proofs.Common.{◌≡◌, false, chars, length}
use denote.Text.{Utf8}
use denote.Shadow.{shadow}
use Rattle.ron_spec_words.specs.Runs.{begins}
use Rattle.ron_spec_words.specs.Scan.{left_by}
use Rattle.ron_lex.proofs.StringLemmas.{plain}
use Rattle.ron_lex.proofs.content.skip_content.Given as goal

-- the content ends where it ends from the start, and no plain character stands here
abbrev pub invariant-loop-rest : goal.invariant-loop-rest
invariant-loop-rest g l = shadow (Utf8 l.rest) × (begins plain (chars l.rest) ≡ false)
    × (left_by (g.C.Content.content (chars l.rest)) ≡ left_by (g.C.Content.content (chars l.fn.text)))

abbrev pub decreases-loop-rest : goal.decreases-loop-rest
decreases-loop-rest g l = length (chars l.rest)
