use Rattle.std.proofs.Common.{ℕ, List, map, sym, ap, subst, string_bytes, ◌∙◌}
use Rattle.ron_data_schema.specs.Shapes.{field_view}
use Rattle.ron_types.proofs.PartLemmas.{Makes}
use Rattle.ron_types_fields.specs.Names.{names_in}
use Rattle.ron_types_fields.specs.Structs.{MayBeFields, table_of_fields}
use Rattle.ron_types_fields.proofs.RowLemmas.{from_nothing}
use Rattle.ron_types_fields.proofs.StructLemmas.{fields_may_top, fields_topped}
use Rattle.ron_types_fields.proofs.fields.fields_schema.Goals as goal

pub top-requires : goal.top-requires
top-requires g c =
    let names = names_in c.args.names.now in
    let ps = g.R.FieldRow.members in
    let added = from_nothing _ _ _ _ _ _ c.new-parts.ensures (ap (map field_view) c.in_ok-fields.ensures.items) c.in_ok-add_fields.ensures in
    let may = subst (λ (name : List ℕ). MayBeFields name names ps) (sym c.in_ok-from_str.ensures.ok) c.requires in
    fields_may_top (string_bytes c.in_ok-from_str.field-0) names ps c.skips_unknown.result may _ _ added

pub returns : goal.returns
returns g c =
    let names = names_in c.args.names.now in
    let ps = g.R.FieldRow.members in
    let added = from_nothing _ _ _ _ _ _ c.new-parts.ensures (ap (map field_view) c.in_ok-fields.ensures.items) c.in_ok-add_fields.ensures in
    let may = subst (λ (name : List ℕ). MayBeFields name names ps) (sym c.in_ok-from_str.ensures.ok) c.requires in
    let topped = fields_topped (string_bytes c.in_ok-from_str.field-0) names ps c.skips_unknown.result may _ _ added in
    let named = ap (λ (name : List ℕ). table_of_fields name names ps c.skips_unknown.result) c.in_ok-from_str.ensures.ok in
    let skips = ap (table_of_fields c.args.name.now names ps) c.skips_unknown.ensures in
    subst (Makes c.top.result) (topped ∙ named ∙ skips) c.top.ensures
