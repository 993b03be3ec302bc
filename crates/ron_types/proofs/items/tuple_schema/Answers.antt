use Rattle.std.proofs.Common.{subst}
use Rattle.ron_types.proofs.PartLemmas.{Makes}
use Rattle.ron_types.proofs.RowLemmas.{items_from_nothing, tuple_may_top, tuple_topped}
use Rattle.ron_types.proofs.items.tuple_schema.Goals as goal

pub top-requires : goal.top-requires
top-requires g c = tuple_may_top g.R.Row.tables _ _ (items_from_nothing _ _ _ _ _ c.new-parts.ensures c.new-roots.ensures.items c.in_ok-add_items.ensures)

pub returns : goal.returns
returns g c =
    subst (Makes c.top.result)
    (tuple_topped g.R.Row.tables _ _ (items_from_nothing _ _ _ _ _ c.new-parts.ensures c.new-roots.ensures.items c.in_ok-add_items.ensures)) c.top.ensures
