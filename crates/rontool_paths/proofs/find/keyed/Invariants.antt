use Rattle.std.proofs.Common.{chars}
use denote.Text.{Utf8}
use denote.Shadow.{shadow}
use Rattle.ron_lex_text.specs.Stretch.{IsSuffix}
use Rattle.rontool_paths.proofs.find.keyed.Given as goal

abbrev pub invariant-items : goal.invariant-items
invariant-items l = shadow (Utf8 l.rest) × IsSuffix (chars l.rest) (chars l.fn.inside)
