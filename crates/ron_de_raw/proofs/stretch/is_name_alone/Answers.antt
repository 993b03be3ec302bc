use Rattle.std.proofs.Common.{sym, ap, ◌∙◌}
use Rattle.ron_spec_words.specs.Name.{untyped_name}
use Rattle.ron_de_raw.proofs.StretchLemmas.{name_is, no_name}
use Rattle.ron_de_raw.proofs.stretch.is_name_alone.Goals as goal

pub returns-in-Some : goal.returns-in-Some
returns-in-Some c = c.is_at_end.ensures ∙ name_is _ _ _ (ap untyped_name (sym c.new-cursor.ensures.rest) ∙ c.in-Some.ensures.value)

pub returns : goal.returns
returns c = no_name _ (ap untyped_name (sym c.new-cursor.ensures.rest) ∙ c.in-None.ensures.value.0)
