use Rattle.std.proofs.Common.{◌≡◌, ◌++◌, List, chars, sym, ap, subst, ◌∙◌}
use Rattle.ron_data.specs.Datum.{named_of, variant_of, fields_view}
use Rattle.ron_types.specs.FieldNames.{Field, texts_of}
use Rattle.ron_types.specs.Kinds.{HeldBy}
use Rattle.ron_types.proofs.KindLemmas.{content-Struct, holds-Struct, with_names, with_view, with_accepted, named_variant_is_of}
use Rattle.ron_types.proofs.RowLemmas.{as_many_data}
use Rattle.ron_types.proofs.variant_data.struct_variant.Goals as goal

pub returns-clause-value : goal.returns-clause-value
returns-clause-value g c =
    let pushed = c.in_ok-fields.ensures.value in
    let items : c.in_ok-fields.fields.items ≡ pushed.added =
    pushed.fields ∙ ap (λ (old : List Field). old ++ pushed.added) c.in_ok-with_capacity.ensures.items in
    let w = with_names c.args.name.now c.args.variant.now _ _ _ _ c.in_ok-own.ensures.0 c.in_ok-own.ensures.1 c.into_variant.ensures in
    with_view (chars c.args.name.now) (chars c.args.variant.now) _ _ w
    ∙ ap (variant_of (chars c.args.name.now) (chars c.args.variant.now))
    (content-Struct c.in_ok-fields.fields ∙ ap named_of (ap fields_view items ∙ pushed.value))

pub returns-clause-accepted : goal.returns-clause-accepted
returns-clause-accepted g c =
    let pushed = c.in_ok-fields.ensures.value in
    let names = texts_of c.args.names.now in
    let items : c.in_ok-fields.fields.items ≡ pushed.added =
    pushed.fields ∙ ap (λ (old : List Field). old ++ pushed.added) c.in_ok-with_capacity.ensures.items in
    let many = c.requires.names.as_many ∙ as_many_data g.R.BorrowedRow.tables (g.R.BorrowedRow.datas c.args.row) c.in_ok-fields.ensures.of_schema in
    let w = with_names c.args.name.now c.args.variant.now _ _ _ _ c.in_ok-own.ensures.0 c.in_ok-own.ensures.1 c.into_variant.ensures in
    with_accepted (chars c.args.name.now) (chars c.args.variant.now) _ _ w (HeldBy g.E.Enum.variants)
    (c.requires.kind.accepts _
    (holds-Struct (g.R.BorrowedRow.accepts_named names) c.in_ok-fields.fields (subst (g.R.BorrowedRow.accepts_named names) (sym items) (pushed.accepted many))))

pub returns-clause-of_schema : goal.returns-clause-of_schema
returns-clause-of_schema g c =
    named_variant_is_of c.args.name.now g.E.Enum.variants (chars c.args.variant.now) (texts_of c.args.names.now) g.R.BorrowedRow.tables
    (g.R.BorrowedRow.datas c.args.row) c.requires.kind.schema c.requires.names c.in_ok-fields.ensures.of_schema
