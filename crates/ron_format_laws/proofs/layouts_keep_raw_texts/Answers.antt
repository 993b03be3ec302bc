use Rattle.ron_format_laws.proofs.Raws.{keeps_raw_bodies, keeps_raw_texts, lines_end_closed}
use Rattle.ron_format_laws.proofs.layouts_keep_raw_texts.Goals as goal

pub returns : goal.returns
returns c = record { bodies = keeps_raw_bodies; texts = keeps_raw_texts; closed = lines_end_closed }
