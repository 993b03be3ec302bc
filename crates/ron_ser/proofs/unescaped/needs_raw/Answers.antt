use Rattle.std.proofs.Common.{chars, not, ap, ◌∙◌}
use Rattle.ron_lex_text.specs.Stretch.{is_ended}
use Rattle.ron_ser.proofs.UnescapedLemmas.{needs_raw_is}
use Rattle.ron_ser.proofs.unescaped.needs_raw.Goals as goal

pub returns : goal.returns
returns c = ap not c.is_ended.ensures ∙ ap (λ t. not (is_ended t)) c.skip_to_quote_or_escape.ensures.value ∙ needs_raw_is (chars c.args.text.now)
