use Rattle.std.proofs.Common.{sym, ap, subst, ◌∙◌}
use Rattle.std.proofs.lemmas.Result.{IfOk-weaker}
use Rattle.ron_spec_grammar.specs.Data.{datas}
use Rattle.ron_data.specs.Datum.{content_view, items_of}
use Rattle.ron_types.specs.Accepts.{HoldsItems}
use Rattle.ron_types.specs.Kinds.{tuple, keeps}
use Rattle.ron_types.proofs.KindLemmas.{accepted_as, content-Tuple, holds-Tuple, from-Tuple, not_tuple, taken_in, held_in, kept_in}
use Rattle.ron_types.proofs.variant_of.tuple_in.Goals as goal

pub returns-in-Tuple-clause-value : goal.returns-in-Tuple-clause-value
returns-in-Tuple-clause-value g c = λ name d i e at.
    let k = tuple g.R.Row.tables g.R.Row.accepts g.R.Row.normals in
    let view = ap content_view c.in-Tuple.is ∙ content-Tuple c.in-Tuple.items in
    IfOk-weaker c.row_of.result _ _
    (λ r h. kept_in name g.E.Enum.variants c.args.place k c.requires c.args.content d i e at (items_of (datas (g.R.Row.datas r)))
    (ap items_of h ∙ sym (ap (keeps k) view)))
    c.row_of.ensures.value

pub returns-in-Tuple-clause-accepted : goal.returns-in-Tuple-clause-accepted
returns-in-Tuple-clause-accepted g c = λ name d i e at.
    let k = tuple g.R.Row.tables g.R.Row.accepts g.R.Row.normals in
    let P = g.R.Row.accepts in
    accepted_as c.row_of.result
    (λ h. taken_in name g.E.Enum.variants c.args.place k c.requires c.args.content d i e at
    (subst (HoldsItems P) (sym c.in-Tuple.is) (holds-Tuple P c.in-Tuple.items h)))
    (λ one. from-Tuple P c.in-Tuple.items (subst (HoldsItems P) c.in-Tuple.is
    (held_in name g.E.Enum.variants c.args.place k c.requires c.args.content d i e at one)))
    c.row_of.ensures.accepted

pub returns-in_default-clause-value : goal.returns-in_default-clause-value
returns-in_default-clause-value g c = λ name d i e at. tt

pub returns-in_default-clause-accepted : goal.returns-in_default-clause-accepted
returns-in_default-clause-accepted g c =
    let k = tuple g.R.Row.tables g.R.Row.accepts g.R.Row.normals in
    λ name d i e at one. absurd
    (not_tuple (g.R.Row.accepts) c.args.content c.in_default.not-Tuple (held_in name g.E.Enum.variants c.args.place k c.requires c.args.content d i e at one))
