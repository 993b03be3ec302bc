use Rattle.std.proofs.Common.{◌≡◌, true, List, chars, sym, ap, ◌∙◌, rules}
use Rattle.std.proofs.lemmas.Result.{IfOk-weaker}
use Rattle.ron_spec_words.specs.Runs.{same_text}
use Rattle.ron_spec_grammar.specs.Data as plain
use Rattle.ron_spec_grammar.proofs.Finding.{same_is}
use Rattle.ron_data.specs.Datum.{fields_view}
use Rattle.ron_types.specs.FieldNames.{Field}
use Rattle.ron_types.proofs.StructLemmas.{struct_view}
use Rattle.ron_types_fields.specs.Names.{names_in}
use Rattle.ron_types_fields.specs.Spelled.{spelled_normal}
use Rattle.ron_types_fields.specs.Structs.{normal_of_fields}
use Rattle.ron_types_fields.proofs.fields.from_fields.Goals as goal

pub returns-else-not-is_same-clause-value : goal.returns-else-not-is_same-clause-value
returns-else-not-is_same-clause-value g c =
    let name = chars c.args.name.now in
    let names = names_in c.args.names.now in
    let test : same_text (chars c.as_str.result.now) name ≡ true = search rules in
    let named = ap chars (sym c.as_str.ensures.value) ∙ same_is (chars c.as_str.result.now) name test in
    let view = struct_view name c.args.from c.in-Struct.found c.in-Struct.fields c.in-Struct.is named in
    IfOk-weaker c.from_fields.result _ _
    (λ r h. ap (plain.struct_of name) (h ∙ ap (λ (fs : List Field). spelled_normal names g.R.FieldRow.normals (fields_view fs)) c.from.ensures.0)
    ∙ ap (normal_of_fields names g.R.FieldRow.normals) (sym view))
    c.from_fields.ensures.value
