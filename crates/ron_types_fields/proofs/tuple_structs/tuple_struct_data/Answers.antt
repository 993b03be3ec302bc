use Rattle.std.proofs.Common.{chars, ◌++◌, List, refl, sym, ap, subst, ◌∙◌}
use Rattle.ron_spec_grammar.specs.Data as plain
use Rattle.ron_data.specs.declared.data.Data.{Data}
use Rattle.ron_data.specs.Datum.{items_view}
use Rattle.ron_types_fields.proofs.NamedLemmas.{tuple_struct_accepted, tuple_struct_view, tuple_struct_is_of}
use Rattle.ron_types_fields.proofs.tuple_structs.tuple_struct_data.Goals as goal

pub returns-clause-value : goal.returns-clause-value
returns-clause-value g c =
    let pushed = c.in_ok-items.ensures.value in
    let items = pushed.items ∙ ap (λ (old : List Data). old ++ pushed.added) c.in_ok-with_capacity.ensures.items in
    tuple_struct_view c.args.name.now _ c.in_ok-name.name c.in_ok-items.items refl (ap chars c.in_ok-name.ensures.ok)
    ∙ ap (plain.tuple_struct_of (chars c.args.name.now)) (ap items_view items ∙ pushed.value)

pub returns-clause-accepted : goal.returns-clause-accepted
returns-clause-accepted g c =
    let pushed = c.in_ok-items.ensures.value in
    let items = pushed.items ∙ ap (λ (old : List Data). old ++ pushed.added) c.in_ok-with_capacity.ensures.items in
    tuple_struct_accepted c.args.name.now _ c.in_ok-name.name c.in_ok-items.items refl g.R.BorrowedRow.accepts (ap chars c.in_ok-name.ensures.ok)
    (subst g.R.BorrowedRow.accepts (sym items) pushed.accepted)

pub returns-clause-of_schema : goal.returns-clause-of_schema
returns-clause-of_schema g c = tuple_struct_is_of c.args.name.now g.R.BorrowedRow.tables (g.R.BorrowedRow.datas c.args.row) c.in_ok-items.ensures.of_schema
