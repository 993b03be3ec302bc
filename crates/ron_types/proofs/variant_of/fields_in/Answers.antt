use Rattle.std.proofs.Common.{sym, ap, subst, ◌∙◌}
use Rattle.std.proofs.lemmas.Result.{IfOk-weaker}
use Rattle.ron_data.specs.Datum.{content_view, fields_view, named_of}
use Rattle.ron_types.specs.Accepts.{HoldsFields}
use Rattle.ron_types.specs.FieldNames.{texts_of}
use Rattle.ron_types.specs.Kinds.{named, keeps}
use Rattle.ron_types.specs.Rows.{fields_normal, named_fields}
use Rattle.ron_types.proofs.KindLemmas.{accepted_as, content-Struct, holds-Struct, from-Struct, not_struct, taken_in, held_in, kept_in}
use Rattle.ron_types.proofs.variant_of.fields_in.Goals as goal

pub returns-in-Struct-clause-value : goal.returns-in-Struct-clause-value
returns-in-Struct-clause-value g c = λ name d i e at.
    let k = named (texts_of c.args.names.now) g.R.Row.tables g.R.Row.accepts_named g.R.Row.normals in
    let view = ap content_view c.in-Struct.is ∙ content-Struct c.in-Struct.fields in
    IfOk-weaker c.from_fields.result _ _
    (λ r h. kept_in name g.E.Enum.variants c.args.place k c.requires c.args.content d i e
    at (named_of (named_fields (texts_of c.args.names.now) (g.R.Row.datas r)))
    (ap named_of (h ∙ ap (λ xs. fields_normal g.R.Row.normals (fields_view xs)) c.into_iter.ensures.rest) ∙ sym (ap (keeps k) view)))
    c.from_fields.ensures.value

pub returns-in-Struct-clause-accepted : goal.returns-in-Struct-clause-accepted
returns-in-Struct-clause-accepted g c = λ name d i e at.
    let k = named (texts_of c.args.names.now) g.R.Row.tables g.R.Row.accepts_named g.R.Row.normals in
    let P = g.R.Row.accepts_named (texts_of c.args.names.now) in
    accepted_as c.from_fields.result
    (λ h. taken_in name g.E.Enum.variants c.args.place k c.requires c.args.content d i e at
    (subst (HoldsFields P) (sym c.in-Struct.is) (holds-Struct P c.in-Struct.fields (subst P c.into_iter.ensures.rest h))))
    (λ one. subst P (sym c.into_iter.ensures.rest) (from-Struct P c.in-Struct.fields (subst (HoldsFields P) c.in-Struct.is
    (held_in name g.E.Enum.variants c.args.place k c.requires c.args.content d i e at one))))
    c.from_fields.ensures.accepted

pub returns-in_default-clause-value : goal.returns-in_default-clause-value
returns-in_default-clause-value g c = λ name d i e at. tt

pub returns-in_default-clause-accepted : goal.returns-in_default-clause-accepted
returns-in_default-clause-accepted g c =
    let k = named (texts_of c.args.names.now) g.R.Row.tables g.R.Row.accepts_named g.R.Row.normals in
    λ name d i e at one. absurd (not_struct (g.R.Row.accepts_named (texts_of c.args.names.now)) c.args.content c.in_default.not-Struct
    (held_in name g.E.Enum.variants c.args.place k c.requires c.args.content d i e at one))
