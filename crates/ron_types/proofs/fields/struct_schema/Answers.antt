use Rattle.std.proofs.Common.{map, ap, subst, string_bytes, ◌∙◌}
use Rattle.ron_data_schema.specs.Shapes.{field_view}
use Rattle.ron_types.specs.FieldNames.{texts_of}
use Rattle.ron_types.specs.Rows.{table_of_struct}
use Rattle.ron_types.proofs.PartLemmas.{Makes}
use Rattle.ron_types.proofs.RowLemmas.{from_nothing, struct_may_top, struct_topped}
use Rattle.ron_types.proofs.fields.struct_schema.Goals as goal

pub top-requires : goal.top-requires
top-requires g c =
    let added = from_nothing _ _ _ _ _ _ c.new-parts.ensures (ap (map field_view) c.in_ok-fields.ensures.items) c.in_ok-add_fields.ensures in
    struct_may_top (string_bytes c.in_ok-from_str.field-0) _ g.R.Row.tables c.requires _ _ added

pub returns : goal.returns
returns g c =
    let added = from_nothing _ _ _ _ _ _ c.new-parts.ensures (ap (map field_view) c.in_ok-fields.ensures.items) c.in_ok-add_fields.ensures in
    let names = texts_of c.args.names.now in
    subst (Makes c.top.result) (struct_topped (string_bytes c.in_ok-from_str.field-0) names g.R.Row.tables c.requires _ _ added
    ∙ ap (λ name. table_of_struct name names g.R.Row.tables) c.in_ok-from_str.ensures.ok) c.top.ensures
