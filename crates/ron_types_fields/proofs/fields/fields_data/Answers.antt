use Rattle.std.proofs.Common.{◌≡◌, ◌++◌, List, chars, refl, sym, ap, subst, ◌∙◌}
use Rattle.ron_spec_grammar.specs.Data as plain
use Rattle.ron_data.specs.Datum.{fields_view}
use Rattle.ron_types.specs.FieldNames.{Field}
use Rattle.ron_types.proofs.BackLemmas.{view-Struct}
use Rattle.ron_types.proofs.StructLemmas.{struct_accepted}
use Rattle.ron_types_fields.specs.Names.{names_in}
use Rattle.ron_types_fields.specs.Spelled.{spelled_fields, spelled_normal}
use Rattle.ron_types_fields.proofs.StructLemmas.{fields_are_of, many_data, names_apart}
use Rattle.ron_types_fields.proofs.fields.fields_data.Goals as goal

pub returns-clause-value : goal.returns-clause-value
returns-clause-value g c =
    let pushed = c.in_ok-fields.ensures.value in
    let items : c.in_ok-fields.fields.items ≡ pushed.added =
    pushed.fields ∙ ap (λ (old : List Field). old ++ pushed.added) c.in_ok-with_capacity.ensures.items in
    view-Struct c.in_ok-name.name c.in_ok-fields.fields
    ∙ (λ i. plain.struct_of (chars (c.in_ok-name.ensures.ok i)) ((ap fields_view items ∙ pushed.value) i))

pub returns-clause-accepted : goal.returns-clause-accepted
returns-clause-accepted g c =
    let pushed = c.in_ok-fields.ensures.value in
    let names = names_in c.args.names.now in
    let items : c.in_ok-fields.fields.items ≡ pushed.added =
    pushed.fields ∙ ap (λ (old : List Field). old ++ pushed.added) c.in_ok-with_capacity.ensures.items in
    let many = c.requires.as_many ∙ many_data g.R.FieldRow.members (g.R.FieldsToData.lent c.args.values) c.in_ok-fields.ensures.of_schema in
    struct_accepted (chars c.args.name.now) _ c.in_ok-name.name c.in_ok-fields.fields refl (g.R.FieldRow.accepts names) (ap chars c.in_ok-name.ensures.ok)
    (subst (g.R.FieldRow.accepts names) (sym items) (pushed.accepted many (names_apart names c.requires.differ)))

pub returns-clause-kept : goal.returns-clause-kept
returns-clause-kept g c =
    let names = names_in c.args.names.now in
    let ds = spelled_fields names (g.R.FieldsToData.lent c.args.values) in
    let kept : spelled_normal names g.R.FieldRow.normals ds ≡ ds = c.in_ok-fields.ensures.kept (names_apart names c.requires.differ) in
    ap (plain.struct_of (chars c.args.name.now)) kept

pub returns-clause-of_schema : goal.returns-clause-of_schema
returns-clause-of_schema g c =
    fields_are_of c.args.name.now (names_in c.args.names.now) g.R.FieldRow.members g.R.FieldRow.skips c.requires (g.R.FieldsToData.lent c.args.values)
    c.in_ok-fields.ensures.of_schema
