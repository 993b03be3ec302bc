use Rattle.std.proofs.Common.{sym, ap, subst, ◌∙◌}
use Rattle.std.proofs.lemmas.Result.{IfOk-weaker}
use Rattle.ron_data.specs.Datum.{data_view, content_view, one_of}
use Rattle.ron_types.specs.Accepts.{HoldsOne}
use Rattle.ron_types.specs.Faults.{NoPart}
use Rattle.ron_types.specs.Kinds.{newtype, keeps}
use Rattle.ron_types.proofs.FaultLemmas.{refused_part}
use Rattle.ron_types.proofs.KindLemmas.{accepted_as, content-Newtype, holds-Newtype, from-Newtype, not_newtype, taken_in, held_in, kept_in}
use Rattle.ron_types.proofs.variant_of.newtype_in.Goals as goal

pub returns-in-Newtype-clause-value : goal.returns-in-Newtype-clause-value
returns-in-Newtype-clause-value g c = λ name d i e at.
    let k = newtype g.T.Schematic.schema_is g.T.Schematic.accepts g.T.Schematic.normal in
    let view = ap content_view c.in-Newtype.is ∙ content-Newtype c.in-Newtype.held in
    IfOk-weaker c.from_data.result _ _
    (λ x h. kept_in name g.E.Enum.variants c.args.place k c.requires c.args.content d i e at (one_of (g.T.Schematic.data x))
    (ap one_of (h ∙ ap (λ d. g.T.Schematic.normal (data_view d)) c.into_inner.ensures) ∙ sym (ap (keeps k) view)))
    c.from_data.ensures.value

pub returns-in-Newtype-clause-accepted : goal.returns-in-Newtype-clause-accepted
returns-in-Newtype-clause-accepted g c = λ name d i e at.
    let k = newtype g.T.Schematic.schema_is g.T.Schematic.accepts g.T.Schematic.normal in
    let P = g.T.Schematic.accepts in
    accepted_as c.from_data.result
    (λ h. taken_in name g.E.Enum.variants c.args.place k c.requires c.args.content d i e at
    (subst (HoldsOne P) (sym c.in-Newtype.is) (holds-Newtype P c.in-Newtype.held (subst P c.into_inner.ensures h))))
    (λ one. subst P (sym c.into_inner.ensures) (from-Newtype P c.in-Newtype.held (subst (HoldsOne P) c.in-Newtype.is
    (held_in name g.E.Enum.variants c.args.place k c.requires c.args.content d i e at one))))
    c.from_data.ensures.accepted

pub returns-in-Newtype-clause-refused : goal.returns-in-Newtype-clause-refused
returns-in-Newtype-clause-refused g c = refused_part g.T.Deserialize.refuses NoPart _ c.from_data.result c.from_data.ensures.refused

pub returns-in_default-clause-value : goal.returns-in_default-clause-value
returns-in_default-clause-value g c = λ name d i e at. tt

pub returns-in_default-clause-accepted : goal.returns-in_default-clause-accepted
returns-in_default-clause-accepted g c =
    let k = newtype g.T.Schematic.schema_is g.T.Schematic.accepts g.T.Schematic.normal in
    λ name d i e at one. absurd (not_newtype g.T.Schematic.accepts c.args.content c.in_default.not-Newtype
    (held_in name g.E.Enum.variants c.args.place k c.requires c.args.content d i e at one))
