use Rattle.std.proofs.lemmas.Result.{MatchResult-weaker}
use Rattle.ron_types.proofs.RowLemmas.{items_pushed}
use Rattle.ron_types.proofs.rows.Tuple2RefBorrowedRow.push_items.Goals as goal

pub returns-clause-value : goal.returns-clause-value
returns-clause-value g c =
    let held = c.in_ok-to_data.ensures in
    MatchResult-weaker c.push_items.result c.push_items.ensures.value
    (λ new h.
    items_pushed g.A.Schematic.accepts _ _ g.R.BorrowedRow.accepts _ _ _ c.in_ok-to_data.field-0 held.value held.accepted c.in_ok-push.ensures.items h)
    (λ e h. h)
