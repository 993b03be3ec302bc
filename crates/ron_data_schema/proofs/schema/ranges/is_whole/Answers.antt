use Rattle.std.proofs.Common.{refl}
use Rattle.ron_data_schema.proofs.TableLemmas.{needed-view}
use Rattle.ron_data_schema.proofs.schema.ranges.is_whole.Goals as goal

pub returns-in-Struct : goal.returns-in-Struct
returns-in-Struct c = rw (
  c.in-Struct.is,
  c.names_range.ensures,
  c.as_str.ensures.value,
  c.are_needed.ensures,
  c.as_slice.ensures.value,
  needed-view c.in-Struct.list.fields.items,
) refl
