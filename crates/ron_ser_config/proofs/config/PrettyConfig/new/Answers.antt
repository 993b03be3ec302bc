use Rattle.std.proofs.Common.{◌∙◌}
use Rattle.ron_spec_layout.specs.Config.{default_config}
use Rattle.ron_ser_config.proofs.ConfigLemmas.{line_feed-chars, four_spaces-chars, space-chars}
use Rattle.ron_ser_config.proofs.config.PrettyConfig.new.Goals as goal

pub returns-clause-view : goal.returns-clause-view
returns-clause-view c =
    c.with_texts.ensures.view ∙ (λ i. record default_config { new_line = line_feed-chars i; indentor = four_spaces-chars i; separator = space-chars i })
