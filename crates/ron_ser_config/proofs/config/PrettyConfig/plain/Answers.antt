use Rattle.std.proofs.Common.{◌∙◌}
use Rattle.std.proofs.lemmas.Str.{chars-nil}
use Rattle.ron_spec_layout.specs.Config.{no_config}
use Rattle.ron_ser_config.proofs.config.PrettyConfig.plain.Goals as goal

pub returns-clause-view : goal.returns-clause-view
returns-clause-view c =
    c.with_texts.ensures.view ∙ (λ i. record no_config { new_line = chars-nil i; indentor = chars-nil i; separator = chars-nil i })
