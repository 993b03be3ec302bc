use Rattle.std.proofs.Common.{chars, ap}
use Rattle.std.proofs.lemmas.Result.{MatchResult-weaker}
use Rattle.ron_types.specs.Parts.{shapes_in}
use Rattle.ron_types.specs.Tables.{nothing}
use Rattle.ron_types.proofs.VariantLemmas.{nothing_added, last_first}
use Rattle.ron_types.proofs.variants.Variants.unit.Goals as goal

pub returns : goal.returns
returns c = MatchResult-weaker c.push.result c.push.ensures
    (λ _ h. last_first _ _ (chars c.args.name.now) nothing (nothing_added _ _ (chars c.args.name.now) (ap shapes_in h.0) h.1)) (λ e h. h)
