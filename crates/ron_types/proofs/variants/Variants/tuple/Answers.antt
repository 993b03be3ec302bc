use Rattle.std.proofs.Common.{chars, subst}
use Rattle.std.proofs.lemmas.Result.{MatchResult-weaker}
use Rattle.ron_types.specs.Parts.{shapes_in}
use Rattle.ron_types.specs.Rows.{AddsItems}
use Rattle.ron_types.specs.Tables.{several}
use Rattle.ron_types.proofs.VariantLemmas.{several_added, last_first}
use Rattle.ron_types.proofs.variants.Variants.tuple.Goals as goal

pub returns : goal.returns
returns g c =
    let adds = subst (λ old. AddsItems g.R.Row.tables (shapes_in c.args.self.now.parts) old (shapes_in c.add_items.new.parts) c.add_items.new.roots.items)
    c.new-roots.ensures.items c.in_ok-add_items.ensures in
    MatchResult-weaker c.push.result c.push.ensures
    (λ _ h. last_first _ _ (chars c.args.name.now) (several g.R.Row.tables)
    (several_added _ _ (chars c.args.name.now) c.add_items.new.parts g.R.Row.tables _ h.0 adds h.1))
    (λ e h. h)
