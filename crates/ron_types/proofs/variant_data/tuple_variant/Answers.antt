use Rattle.std.proofs.Common.{◌++◌, List, chars, sym, ap, subst, ◌∙◌}
use Rattle.ron_data.specs.declared.data.Data.{Data}
use Rattle.ron_data.specs.Datum.{items_of, items_view, variant_of}
use Rattle.ron_types.specs.Kinds.{HeldBy, holdings}
use Rattle.ron_types.proofs.EnumLemmas.{tuple_variant_is_of}
use Rattle.ron_types.proofs.KindLemmas.{content-Tuple, holds-Tuple, with_names, with_view, with_accepted}
use Rattle.ron_types.proofs.variant_data.tuple_variant.Goals as goal

pub returns-clause-value : goal.returns-clause-value
returns-clause-value g c =
    let name = c.args.name.now in
    let variant = c.args.variant.now in
    let pushed = c.in_ok-items.ensures.value in
    let items = pushed.items ∙ ap (λ (old : List Data). old ++ pushed.added) c.in_ok-with_capacity.ensures.items in
    let w = with_names name variant _ _ _ _ c.in_ok-own.ensures.0 c.in_ok-own.ensures.1 c.into_variant.ensures in
    with_view (chars name) (chars variant) _ _ w
    ∙ ap (variant_of (chars name) (chars variant)) (content-Tuple c.in_ok-items.items ∙ ap items_of (ap items_view items ∙ pushed.value))

pub returns-clause-accepted : goal.returns-clause-accepted
returns-clause-accepted g c =
    let name = c.args.name.now in
    let variant = c.args.variant.now in
    let P = g.R.BorrowedRow.accepts in
    let pushed = c.in_ok-items.ensures.value in
    let items = pushed.items ∙ ap (λ (old : List Data). old ++ pushed.added) c.in_ok-with_capacity.ensures.items in
    let w = with_names name variant _ _ _ _ c.in_ok-own.ensures.0 c.in_ok-own.ensures.1 c.into_variant.ensures in
    with_accepted (chars name) (chars variant) _ _ w (HeldBy g.E.Enum.variants)
    (c.requires.accepts _ (holds-Tuple P c.in_ok-items.items (subst P (sym items) pushed.accepted)))

pub returns-clause-of_schema : goal.returns-clause-of_schema
returns-clause-of_schema g c =
    tuple_variant_is_of (chars c.args.name.now) (holdings g.E.Enum.variants) (chars c.args.variant.now) g.R.BorrowedRow.tables
    (g.R.BorrowedRow.datas c.args.row) c.requires.schema c.in_ok-items.ensures.of_schema
