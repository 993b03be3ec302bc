use Rattle.std.proofs.Common.{chars, length}
use denote.Text.{Utf8}
use denote.Shadow.{shadow}
use Rattle.ron_lex_text.specs.Stretch.{IsSuffix}
use Rattle.ron_format.specs.Whole.{open_view}
use Rattle.ron_format.proofs.WholeLemmas.{IsReached}
use Rattle.ron_format.proofs.document.Document.of.Given as goal

-- what is left is whole exactly where the text is
abbrev pub invariant-loop-after : goal.invariant-loop-after
invariant-loop-after l = shadow (Utf8 l.rest) × IsSuffix (chars l.rest) (chars l.fn.text) × IsReached (chars l.fn.text) (open_view l.brackets) (chars l.rest)

abbrev pub decreases-loop-after : goal.decreases-loop-after
decreases-loop-after l = length l.rest
