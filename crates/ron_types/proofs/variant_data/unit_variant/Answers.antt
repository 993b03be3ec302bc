use Rattle.std.proofs.Common.{chars, ap, ◌∙◌}
use Rattle.ron_data.specs.Datum.{variant_of}
use Rattle.ron_types.specs.Kinds.{HeldBy, holdings}
use Rattle.ron_types.proofs.EnumLemmas.{unit_variant_is_of}
use Rattle.ron_types.proofs.KindLemmas.{content-Unit, holds-Unit, with_names, with_view, with_accepted}
use Rattle.ron_types.proofs.variant_data.unit_variant.Goals as goal

pub returns-clause-value : goal.returns-clause-value
returns-clause-value g c =
    let name = c.args.name.now in
    let variant = c.args.variant.now in
    let w = with_names name variant _ _ _ _ c.in_ok-own.ensures.0 c.in_ok-own.ensures.1 c.into_variant.ensures in
    with_view (chars name) (chars variant) _ _ w ∙ ap (variant_of (chars name) (chars variant)) content-Unit

pub returns-clause-accepted : goal.returns-clause-accepted
returns-clause-accepted g c =
    let name = c.args.name.now in
    let variant = c.args.variant.now in
    let w = with_names name variant _ _ _ _ c.in_ok-own.ensures.0 c.in_ok-own.ensures.1 c.into_variant.ensures in
    with_accepted (chars name) (chars variant) _ _ w (HeldBy g.E.Enum.variants) (c.requires.accepts _ holds-Unit)

pub returns-clause-of_schema : goal.returns-clause-of_schema
returns-clause-of_schema g c = unit_variant_is_of (chars c.args.name.now) (holdings g.E.Enum.variants) (chars c.args.variant.now) c.requires.schema
