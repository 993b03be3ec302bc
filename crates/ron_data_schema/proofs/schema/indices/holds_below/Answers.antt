use Rattle.std.proofs.Common.{refl, sym, ◌∙◌}
use Rattle.ron_data_schema.proofs.TableLemmas.{all_below-view, variants_below-view}
use Rattle.ron_data_schema.proofs.schema.indices.holds_below.Goals as goal

pub returns-in-Struct : goal.returns-in-Struct
returns-in-Struct c = rw c.in-Struct.is (c.are_below.ensures ∙ sym (rw (← c.as_slice.ensures.value) (all_below-view c.args.len _)))

pub returns-in-Enum : goal.returns-in-Enum
returns-in-Enum c = rw (c.in-Enum.is, c.variants_below.ensures, c.as_slice-in-Enum.ensures.value, variants_below-view c.args.len c.in-Enum.variants.items) refl
