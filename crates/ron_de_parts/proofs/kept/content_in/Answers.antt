use Rattle.std.proofs.Common.{chars, ap, ◌∙◌}
use Rattle.ron_spec_words.specs.Runs.{after_run}
use Rattle.ron_lex_text.specs.Stretch.{in_class}
use Rattle.ron_lex_text.specs.declared.text.Class.TheVariants.{Unquoted}
use Rattle.ron_de_parts.proofs.KeptLemmas.{behind_quote}
use Rattle.ron_de_parts.proofs.kept.content_in.Goals as goal

pub returns-in_err-end : goal.returns-in_err-end
returns-in_err-end c = λ content ends quote. absurd (c.in_err-end.ensures ends)

pub returns : goal.returns
returns c = λ content ends quote.
    behind_quote (chars c.skip_to_quote.result.now) content c.strip_char.result
    (c.skip_to_quote.ensures.value ∙ ap (λ b. after_run (in_class Unquoted) (chars b)) (c.in_ok-end.ensures ends) ∙ quote) c.strip_char.ensures
