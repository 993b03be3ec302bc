use Rattle.std.proofs.Common.{sym, ◌∙◌}
use Rattle.ron_data_schema.proofs.TableLemmas.{all_below-view, variants_below-view}
use Rattle.ron_data_schema.proofs.schema.import.moved_shape.Goals as goal

pub moved_list-requires : goal.moved_list-requires
moved_list-requires c = sym (all_below-view _ c.in-Struct.list.fields.items) ∙ (rw c.in-Struct.is at c.requires)

pub moved_variants-requires : goal.moved_variants-requires
moved_variants-requires c = sym (variants_below-view _ c.in-Enum.variants.items) ∙ (rw c.in-Enum.is at c.requires)
