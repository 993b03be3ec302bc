use Rattle.std.proofs.Common.{chars, refl, sym, ap, subst, ◌∙◌}
use Rattle.ron_data.specs.Datum.{data_view}
use Rattle.ron_types_fields.specs.NamedStructs.{data_of_newtype}
use Rattle.ron_types_fields.proofs.NamedLemmas.{newtype_accepted, newtype_view, newtype_is_of}
use Rattle.ron_types_fields.proofs.newtypes.newtype_data.Goals as goal

pub returns-clause-value : goal.returns-clause-value
returns-clause-value g c =
    newtype_view c.args.name.now _ c.in_ok-name.name c.in_ok-held.held refl (ap chars c.in_ok-name.ensures.ok)
    ∙ ap (data_of_newtype c.args.name.now) (ap data_view c.in_ok-held.ensures.ok ∙ c.in_ok-to_data.ensures.value)

pub returns-clause-accepted : goal.returns-clause-accepted
returns-clause-accepted g c =
    newtype_accepted c.args.name.now _ c.in_ok-name.name c.in_ok-held.held refl g.T.Schematic.accepts (ap chars c.in_ok-name.ensures.ok)
    (subst g.T.Schematic.accepts (sym c.in_ok-held.ensures.ok) c.in_ok-to_data.ensures.accepted)

pub returns-clause-of_schema : goal.returns-clause-of_schema
returns-clause-of_schema g c = newtype_is_of c.args.name.now g.T.Schematic.schema_is (g.T.Schematic.data c.args.value.now) c.in_ok-to_data.ensures.of_schema
