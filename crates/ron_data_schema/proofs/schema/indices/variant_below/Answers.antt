use Rattle.std.proofs.Common.{sym, ◌∙◌}
use Rattle.ron_data_schema.proofs.TableLemmas.{all_below-view}
use Rattle.ron_data_schema.proofs.schema.indices.variant_below.Goals as goal

pub returns-in-Struct : goal.returns-in-Struct
returns-in-Struct c = rw c.in-Struct.is (c.are_below.ensures ∙ sym (rw (← c.as_slice-in-Struct.ensures.value) (all_below-view c.args.len _)))
