use Rattle.std.proofs.Common.{sym, ap, subst, ◌∙◌}
use Rattle.ron_data.specs.Datum.{content_view, no_content}
use Rattle.ron_types.specs.Accepts.{HoldsNothing}
use Rattle.ron_types.specs.Kinds.{unit}
use Rattle.ron_types.proofs.KindLemmas.{content-Unit, holds-Unit, not_unit, taken_in, held_in, kept_in}
use Rattle.ron_types.proofs.variant_of.unit_in.Goals as goal

pub returns-in-Unit-clause-value : goal.returns-in-Unit-clause-value
returns-in-Unit-clause-value g c = λ name d i e at. kept_in name g.E.Enum.variants c.args.place unit c.requires c.args.content d i e
    at no_content (sym (ap content_view c.in-Unit.is ∙ content-Unit))

pub returns-in-Unit-clause-accepted : goal.returns-in-Unit-clause-accepted
returns-in-Unit-clause-accepted g c =
    λ name d i e at. taken_in name g.E.Enum.variants c.args.place unit c.requires c.args.content d i e at (subst HoldsNothing (sym c.in-Unit.is) holds-Unit)

pub returns-in_default-clause-value : goal.returns-in_default-clause-value
returns-in_default-clause-value g c = λ name d i e at. tt

pub returns-in_default-clause-accepted : goal.returns-in_default-clause-accepted
returns-in_default-clause-accepted g c = λ name d i e at one.
    absurd (not_unit c.args.content c.in_default.not-Unit (held_in name g.E.Enum.variants c.args.place unit c.requires c.args.content d i e at one))
