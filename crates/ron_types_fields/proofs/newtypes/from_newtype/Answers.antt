use Rattle.std.proofs.Common.{◌≡◌, true, chars, sym, ap, ◌∙◌, rules}
use Rattle.std.proofs.lemmas.Result.{IfOk-weaker}
use Rattle.ron_spec_words.specs.Runs.{same_text}
use Rattle.ron_spec_grammar.proofs.Finding.{same_is}
use Rattle.ron_data.specs.Datum.{data_view}
use Rattle.ron_types_fields.specs.NamedStructs.{data_of_newtype, normal_of_newtype}
use Rattle.ron_types_fields.proofs.NamedLemmas.{newtype_view}
use Rattle.ron_types_fields.proofs.newtypes.from_newtype.Goals as goal

pub returns-else-not-is_same-clause-value : goal.returns-else-not-is_same-clause-value
returns-else-not-is_same-clause-value g c =
    let name = chars c.args.name.now in
    let normal = g.T.Schematic.normal in
    let test : same_text (chars c.as_str.result.now) name ≡ true = search rules in
    let named = ap chars (sym c.as_str.ensures.value) ∙ same_is (chars c.as_str.result.now) name test in
    let view = newtype_view c.args.name.now c.args.from c.in-Newtype.found c.in-Newtype.held c.in-Newtype.is named in
    IfOk-weaker c.from_data.result _ _
    (λ x h. ap (data_of_newtype c.args.name.now) (h ∙ ap (λ d. normal (data_view d)) c.into_inner.ensures) ∙ ap (normal_of_newtype normal) (sym view))
    c.from_data.ensures.value
