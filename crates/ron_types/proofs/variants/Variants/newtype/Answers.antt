use Rattle.std.proofs.Common.{chars}
use Rattle.std.proofs.lemmas.Result.{MatchResult-weaker}
use Rattle.ron_types.specs.Tables.{one}
use Rattle.ron_types.proofs.VariantLemmas.{one_added, last_first}
use Rattle.ron_types.proofs.variants.Variants.newtype.Goals as goal

pub returns : goal.returns
returns g c =
    let root = c.in_ok-root.ensures in
    MatchResult-weaker c.push.result c.push.ensures
    (λ _ h. last_first _ _ (chars c.args.name.now) (one g.T.Schematic.schema_is)
    (one_added _ _ (chars c.args.name.now) c.add.new.self g.T.Schematic.schema_is c.in_ok-root.root h.0 root.value root.in_range root.grown h.1))
    (λ e h. h)
