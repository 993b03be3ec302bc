use Rattle.std.proofs.Common.{chars}
use denote.Text.{Utf8}
use denote.Shadow.{shadow}
use Rattle.ron_lex_text.specs.Stretch.{IsSuffix}
use Rattle.rontool_paths.proofs.value.past_group.Given as goal

abbrev pub invariant-words : goal.invariant-words
invariant-words l = shadow (Utf8 l.rest) × IsSuffix (chars l.rest) (chars l.fn.from)
