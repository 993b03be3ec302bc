use Rattle.std.proofs.Common.{sym, ◌∙◌}
use Rattle.ron_data_schema.proofs.TableLemmas.{all_below-view}
use Rattle.ron_data_schema.proofs.schema.import.moved_content.Goals as goal

pub moved_list-requires : goal.moved_list-requires
moved_list-requires c = sym (all_below-view _ c.in-Struct.list.fields.items) ∙ (rw c.in-Struct.is at c.requires)
