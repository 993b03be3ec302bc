use Rattle.std.proofs.Common.{ap, Some}
use Rattle.ron_de_parts.specs.Terms.{source_view}
use Rattle.ron_data_schema.specs.Table.{table_of}
use Rattle.ron.proofs.ReadLemmas.{value_refused}
use Rattle.ron.proofs.de.Deserializer.read.Goals as goal

pub returns-clause-slices : goal.returns-clause-slices
returns-clause-slices c = c.read_kept.ensures.slices (rw (← c.self.view_is) (ap Some c.text-source.ensures))

pub returns-clause-errors : goal.returns-clause-errors
returns-clause-errors c fresh = value_refused (source_view (Some c.text-source.result)) c.args.self.now (table_of c.args.schema.now) c.read_kept.result
    (rw (← c.self.view_is) (ap Some c.text-source.ensures)) (c.read_kept.ensures.errors fresh)
