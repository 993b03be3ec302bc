use Rattle.ron_de_parts.proofs.KeptLemmas.{no_source, source_end}
use Rattle.ron_de_parts.proofs.kept.end_in.Goals as goal

pub returns-in_err-source : goal.returns-in_err-source
returns-in_err-source c ends = absurd (no_source _ _ c.in_err-source.was ends)

pub returns : goal.returns
returns c ends = c.end_of.ensures (source_end _ _ _ c.in_ok-source.was ends)
