use Rattle.std.proofs.Common.{◌≡◌, ◌++◌, List, chars, sym, ap, subst, ◌∙◌}
use Rattle.ron_spec_grammar.specs.Data as plain
use Rattle.ron_data.specs.Datum.{fields_view}
use Rattle.ron_types.specs.FieldNames.{Field, texts_of}
use Rattle.ron_types.proofs.BackLemmas.{view-Struct}
use Rattle.ron_types.proofs.RowLemmas.{as_many_data, struct_data_is_of}
use Rattle.ron_types.proofs.StructLemmas.{accepts-Struct}
use Rattle.ron_types.proofs.fields.struct_data.Goals as goal

pub returns-clause-value : goal.returns-clause-value
returns-clause-value g c =
    let pushed = c.in_ok-fields.ensures.value in
    let items : c.in_ok-fields.fields.items ≡ pushed.added =
    pushed.fields ∙ ap (λ (old : List Field). old ++ pushed.added) c.in_ok-with_capacity.ensures.items in
    view-Struct c.in_ok-name.name c.in_ok-fields.fields
    ∙ (λ i. plain.struct_of (chars (c.in_ok-name.ensures.ok i)) ((ap fields_view items ∙ pushed.value) i))

pub returns-clause-accepted : goal.returns-clause-accepted
returns-clause-accepted g c =
    let pushed = c.in_ok-fields.ensures.value in
    let names = texts_of c.args.names.now in
    let items : c.in_ok-fields.fields.items ≡ pushed.added =
    pushed.fields ∙ ap (λ (old : List Field). old ++ pushed.added) c.in_ok-with_capacity.ensures.items in
    let many = c.requires.as_many ∙ as_many_data g.R.BorrowedRow.tables (g.R.BorrowedRow.datas c.args.row) c.in_ok-fields.ensures.of_schema in
    accepts-Struct (chars c.args.name.now) (g.R.BorrowedRow.accepts_named names) c.in_ok-name.name c.in_ok-fields.fields (ap chars c.in_ok-name.ensures.ok)
    (subst (g.R.BorrowedRow.accepts_named names) (sym items) (pushed.accepted many))

pub returns-clause-of_schema : goal.returns-clause-of_schema
returns-clause-of_schema g c =
    struct_data_is_of c.args.name.now (texts_of c.args.names.now) g.R.BorrowedRow.tables c.requires (g.R.BorrowedRow.datas c.args.row)
    c.in_ok-fields.ensures.of_schema
