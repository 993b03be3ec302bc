use Rattle.std.proofs.Common.{sym, ap, subst, ◌∙◌}
use Rattle.ron_spec_grammar.specs.Data.{some_of}
use Rattle.ron_data.specs.Datum.{data_view}
use Rattle.ron_types.specs.Normal.{option_data}
use Rattle.ron_types.specs.OfTables.{IsOfOrdered}
use Rattle.ron_types.specs.Tables.{optional_table}
use Rattle.ron_types.proofs.BackLemmas.{view-Some, accepts-Some}
use Rattle.ron_types.proofs.TypeLemmas.{some_is_of}
use Rattle.ron_types.proofs.types.options.OptionSerialize.to_data.Goals as goal

pub returns-in_ok-new-in-Some-clause-value : goal.returns-in_ok-new-in-Some-clause-value
returns-in_ok-new-in-Some-clause-value g c =
    view-Some c.in_ok-new-in-Some.field-0 ∙ ap some_of (ap data_view c.in_ok-new-in-Some.ensures.ok ∙ c.in_ok-content-in-Some.ensures.value)
    ∙ ap (option_data g.T.Schematic.data) (sym c.in-Some.is)

pub returns-in_ok-new-in-Some-clause-accepted : goal.returns-in_ok-new-in-Some-clause-accepted
returns-in_ok-new-in-Some-clause-accepted g c = accepts-Some g.T.Schematic.accepts c.in_ok-new-in-Some.field-0
    (subst g.T.Schematic.accepts (sym c.in_ok-new-in-Some.ensures.ok) c.in_ok-content-in-Some.ensures.accepted)

pub returns-in_ok-new-in-Some-clause-of_schema : goal.returns-in_ok-new-in-Some-clause-of_schema
returns-in_ok-new-in-Some-clause-of_schema g c =
    subst (λ o. IsOfOrdered (optional_table g.T.Schematic.schema_is) (option_data g.T.Schematic.data o)) (sym c.in-Some.is)
    (some_is_of g.T.Schematic.schema_is _ c.in_ok-content-in-Some.ensures.of_schema)
