use Rattle.std.proofs.Common.{◌++◌, List, sym, ap, subst, ◌∙◌}
use Rattle.ron_spec_grammar.specs.Data.{tuple_of}
use Rattle.ron_data.specs.declared.data.Data.{Data}
use Rattle.ron_data.specs.Datum.{items_view}
use Rattle.ron_types.proofs.BackLemmas.{view-Tuple, accepts-Tuple}
use Rattle.ron_types.proofs.TypeLemmas.{tuple_is_of}
use Rattle.ron_types.proofs.items.tuple_data.Goals as goal

pub returns-clause-value : goal.returns-clause-value
returns-clause-value g c =
    let pushed = c.in_ok-items.ensures.value in
    let items = pushed.items ∙ ap (λ (old : List Data). old ++ pushed.added) c.in_ok-with_capacity.ensures.items in
    view-Tuple c.in_ok-items.items ∙ ap tuple_of (ap items_view items ∙ pushed.value)

pub returns-clause-accepted : goal.returns-clause-accepted
returns-clause-accepted g c =
    let pushed = c.in_ok-items.ensures.value in
    let items = pushed.items ∙ ap (λ (old : List Data). old ++ pushed.added) c.in_ok-with_capacity.ensures.items in
    accepts-Tuple g.R.BorrowedRow.accepts c.in_ok-items.items (subst g.R.BorrowedRow.accepts (sym items) pushed.accepted)

pub returns-clause-of_schema : goal.returns-clause-of_schema
returns-clause-of_schema g c = tuple_is_of g.R.BorrowedRow.tables (g.R.BorrowedRow.datas c.args.row) c.in_ok-items.ensures.of_schema
