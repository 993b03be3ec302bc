use Rattle.std.proofs.Common.{List, ℕ, chars, ap, subst, string_bytes, refl, ◌∙◌}
use Rattle.ron_spec_grammar.specs.Schema.{tuple_struct}
use Rattle.ron_types.specs.Tables.{topped}
use Rattle.ron_types.proofs.PartLemmas.{Makes}
use Rattle.ron_types.proofs.RowLemmas.{items_from_nothing, tuple_may_top}
use Rattle.ron_types_fields.specs.NamedStructs.{table_of_tuple_struct}
use Rattle.ron_types_fields.proofs.tuple_structs.tuple_struct_schema.Goals as goal

pub top-requires : goal.top-requires
top-requires g c =
    let may = tuple_may_top g.R.Row.tables _ _ (items_from_nothing _ _ _ _ _ c.new-parts.ensures c.new-roots.ensures.items c.in_ok-add_items.ensures) in
    record { in_range = may.in_range; distinct = refl; whole = refl }

pub returns : goal.returns
returns g c =
    let ts = g.R.Row.tables in
    let adds = items_from_nothing _ _ _ _ _ c.new-parts.ensures c.new-roots.ensures.items c.in_ok-add_items.ensures in
    let name = string_bytes c.in_ok-from_str.field-0 in
    let is =
    (λ i. topped (adds.shapes i) (tuple_struct (chars name) (adds.roots i))) ∙ ap (λ (n : List ℕ). table_of_tuple_struct n ts) c.in_ok-from_str.ensures.ok in
    subst (Makes c.top.result) is c.top.ensures
