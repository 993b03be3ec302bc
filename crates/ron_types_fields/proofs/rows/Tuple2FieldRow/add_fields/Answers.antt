use Rattle.std.proofs.Common.{List, ◌∷◌, map, sym, ap, subst, ◌∙◌}
use Rattle.std.proofs.lemmas.List.{map-append}
use Rattle.std.proofs.lemmas.Result.{MatchResult-weaker}
use Rattle.ron_data_schema.specs.Shapes.{field_view}
use Rattle.ron_types.specs.Parts.{shapes_in}
use Rattle.ron_types_fields.specs.Names.{Name, name_in, names_in}
use Rattle.ron_types_fields.specs.Rows.{AddsFields, field_of}
use Rattle.ron_types_fields.proofs.RowLemmas.{field_added}
use Rattle.ron_types_fields.proofs.rows.Tuple2FieldRow.add_fields.Goals as goal

pub returns-in_ok-push-in-Some : goal.returns-in_ok-push-in-Some
returns-in_ok-push-in-Some g c =
    let t = g.F.Of.Schematic.schema_is in
    let missing = g.F.FieldType.may_be_missing in
    let ps = g.R.FieldRow.members in
    let names = ap names_in c.in-Some.ensures.cases.0 in
    let n = name_in c.in-Some.name.now in
    let old = shapes_in c.args.parts.now in
    let before = map field_view c.args.fields.now.items in
    let f = field_view c.in_ok-shape_of-in-Some.field-0 in
    let is = c.in_ok-shape_of-in-Some.ensures ∙ ap (field_of n c.in_ok-root.root) c.may_be_missing.ensures in
    let push = ap (map field_view) c.in_ok-push-in-Some.ensures.items ∙ map-append field_view c.args.fields.now.items _ in
    MatchResult-weaker c.add_fields.result c.add_fields.ensures
    (λ x h. subst (λ (names : List Name).
    AddsFields names ((t, missing) ∷ ps) old before (shapes_in c.add_fields.new.parts) (map field_view c.add_fields.new.fields.items)) (sym names)
    (field_added t missing ps n (names_in c.in-Some.names.now) old _ _ before _ _ c.in_ok-root.root f c.in_ok-root.ensures.value c.in_ok-root.ensures.in_range
    c.in_ok-root.ensures.grown is push h))
    (λ e h. h)
