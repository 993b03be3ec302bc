use Rattle.std.proofs.Common.{◌≡◌, true, false, sym, ◌∙◌}
use Rattle.ron_de_untyped.specs.Values.{unwraps}
use Rattle.ron_de_untyped.proofs.FormLemmas.{one_stands, several_stand}
use Rattle.ron_de_untyped.proofs.SomeLemmas.{other_front}
use Rattle.ron_de_untyped.proofs.somes.holds_one.Goals as goal

pub returns-then-not-unwraps_variants-clause-value : goal.returns-then-not-unwraps_variants-clause-value
returns-then-not-unwraps_variants-clause-value c =
    λ may bare. absurd (let k : true ≡ false = sym bare ∙ sym c.unwraps_variants.ensures ∙ c.if-not-unwraps_variants.true in cc)

pub returns-in-Newtype-clause-value : goal.returns-in-Newtype-clause-value
returns-in-Newtype-clause-value c = λ may bare. one_stands c.in_ok-kind.field-0 c.args.cursor.now.rest c.in-Newtype.is c.in_ok-kind.ensures.value

pub returns-then-not-is_at-clause-last : goal.returns-then-not-is_at-clause-last
returns-then-not-is_at-clause-last c = λ last. other_front (unwraps c.args.context.now) c.args.cursor.now.rest (sym c.is_at.ensures ∙ c.if-not-is_at.true)

pub returns-in-Named-clause-last : goal.returns-in-Named-clause-last
returns-in-Named-clause-last c = λ last opens one. several_stand c.in_ok-kind.field-0 c.args.cursor.now.rest c.in-Named.is c.in_ok-kind.ensures.value
    (one (sym c.unwraps_variants.ensures ∙ c.if-not-unwraps_variants.false))
