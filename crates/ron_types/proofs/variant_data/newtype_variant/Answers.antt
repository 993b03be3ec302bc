use Rattle.std.proofs.Common.{chars, sym, ap, subst, ◌∙◌}
use Rattle.ron_data.specs.Datum.{data_view, one_of, variant_of}
use Rattle.ron_types.specs.Kinds.{HeldBy, holdings}
use Rattle.ron_types.proofs.EnumLemmas.{newtype_variant_is_of}
use Rattle.ron_types.proofs.KindLemmas.{content-Newtype, holds-Newtype, with_names, with_view, with_accepted}
use Rattle.ron_types.proofs.variant_data.newtype_variant.Goals as goal

pub returns-clause-value : goal.returns-clause-value
returns-clause-value g c =
    let name = c.args.name.now in
    let variant = c.args.variant.now in
    let w = with_names name variant _ _ _ _ c.in_ok-own.ensures.0 c.in_ok-own.ensures.1 c.into_variant.ensures in
    with_view (chars name) (chars variant) _ _ w ∙ ap (variant_of (chars name) (chars variant))
    (content-Newtype c.in_ok-held.held ∙ ap one_of (ap data_view c.in_ok-held.ensures.ok ∙ c.in_ok-to_data.ensures.value))

pub returns-clause-accepted : goal.returns-clause-accepted
returns-clause-accepted g c =
    let name = c.args.name.now in
    let variant = c.args.variant.now in
    let w = with_names name variant _ _ _ _ c.in_ok-own.ensures.0 c.in_ok-own.ensures.1 c.into_variant.ensures in
    let P = g.T.Schematic.accepts in
    with_accepted (chars name) (chars variant) _ _ w (HeldBy g.E.Enum.variants)
    (c.requires.accepts _ (holds-Newtype P c.in_ok-held.held (subst P (sym c.in_ok-held.ensures.ok) c.in_ok-to_data.ensures.accepted)))

pub returns-clause-of_schema : goal.returns-clause-of_schema
returns-clause-of_schema g c =
    newtype_variant_is_of (chars c.args.name.now) (holdings g.E.Enum.variants) (chars c.args.variant.now) g.T.Schematic.schema_is
    (g.T.Schematic.data c.args.value.now) c.requires.schema c.in_ok-to_data.ensures.of_schema
