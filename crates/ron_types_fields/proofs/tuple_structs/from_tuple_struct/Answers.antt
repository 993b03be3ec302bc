use Rattle.std.proofs.Common.{◌≡◌, true, chars, sym, ap, ◌∙◌, rules}
use Rattle.std.proofs.lemmas.Result.{IfOk-weaker}
use Rattle.ron_spec_words.specs.Runs.{same_text}
use Rattle.ron_spec_grammar.specs.Data as plain
use Rattle.ron_spec_grammar.proofs.Finding.{same_is}
use Rattle.ron_types_fields.specs.NamedStructs.{normal_of_tuple_struct}
use Rattle.ron_types_fields.proofs.NamedLemmas.{tuple_struct_view}
use Rattle.ron_types_fields.proofs.tuple_structs.from_tuple_struct.Goals as goal

pub returns-else-not-is_same-clause-value : goal.returns-else-not-is_same-clause-value
returns-else-not-is_same-clause-value g c =
    let name = chars c.args.name.now in
    let normals = g.R.Row.normals in
    let test : same_text (chars c.as_str.result.now) name ≡ true = search rules in
    let named = ap chars (sym c.as_str.ensures.value) ∙ same_is (chars c.as_str.result.now) name test in
    let view = tuple_struct_view c.args.name.now c.args.from c.in-TupleStruct.found c.in-TupleStruct.items c.in-TupleStruct.is named in
    IfOk-weaker c.row_of.result _ _
    (λ r h. ap (plain.tuple_struct_of name) h ∙ ap (normal_of_tuple_struct normals) (sym view))
    c.row_of.ensures.value
