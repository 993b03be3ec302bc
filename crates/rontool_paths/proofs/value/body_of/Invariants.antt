use Rattle.std.proofs.Common.{chars}
use denote.Text.{Utf8}
use denote.Shadow.{shadow}
use Rattle.ron_lex_text.specs.Stretch.{IsSuffix}
use Rattle.rontool_paths.proofs.value.body_of.Given as goal

abbrev pub invariant-attributes : goal.invariant-attributes
invariant-attributes l = shadow (Utf8 l.rest) × IsSuffix (chars l.rest) (chars l.fn.text)
