use Rattle.std.proofs.Common.{refl}
use Rattle.ron_data_schema.proofs.TableLemmas.{in_range-view}
use Rattle.ron_data_schema.proofs.schema.indices.is_in_range.Goals as goal

pub returns : goal.returns
returns c = rw (in_range-view c.args.shapes.now c.args.root, c.all_hold_below.ensures) refl
