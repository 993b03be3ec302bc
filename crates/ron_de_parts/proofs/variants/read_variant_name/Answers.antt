use Rattle.ron_de_steps.proofs.ErrorLemmas.{text_and}
use Rattle.ron_de_parts.proofs.VariantLemmas.{no_variant, named_variant}
use Rattle.ron_spec_words.proofs.Leading.{leads_name}
use Rattle.ron_de_steps.proofs.NearLemmas.{name_nears}
use Rattle.ron_de_parts.proofs.variants.read_variant_name.Goals as goal

pub returns-in_default-clause-value : goal.returns-in_default-clause-value
returns-in_default-clause-value c =
    text_and _ c.in_ok-unknown_variant.ensures.0 (no_variant _ _ _ c.args.variants.now c.in-Ok.ensures.value c.in_default.ensures)

pub returns-clause-value : goal.returns-clause-value
returns-clause-value c = named_variant _ _ _ c.args.variants.now c.in-Some.index c.in-Ok.ensures.value c.in-Some.ensures

pub returns-clause-near : goal.returns-clause-near
returns-clause-near c = name_nears _ c.args.cursor.now c.identifier.new.self c.in-Ok.ensures.value

pub returns-clause-leads : goal.returns-clause-leads
returns-clause-leads c = leads_name c.args.cursor.now.rest _ c.identifier.new.self.rest c.in-Ok.ensures.value
