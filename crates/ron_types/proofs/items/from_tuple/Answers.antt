use Rattle.std.proofs.Common.{sym, ap, ◌∙◌}
use Rattle.std.proofs.lemmas.Result.{IfOk-weaker}
use Rattle.ron_spec_grammar.specs.Data.{tuple_of}
use Rattle.ron_data.specs.Datum.{data_view}
use Rattle.ron_types.specs.Normal.{tuple_normal}
use Rattle.ron_types.proofs.BackLemmas.{view-Tuple}
use Rattle.ron_types.proofs.items.from_tuple.Goals as goal

pub returns-in-Tuple-clause-value : goal.returns-in-Tuple-clause-value
returns-in-Tuple-clause-value g c =
    let normals = g.R.Row.normals in
    let view = ap data_view c.in-Tuple.is ∙ view-Tuple c.in-Tuple.items in
    IfOk-weaker c.row_of.result _ _ (λ r h. ap tuple_of h ∙ ap (tuple_normal normals) (sym view)) c.row_of.ensures.value
