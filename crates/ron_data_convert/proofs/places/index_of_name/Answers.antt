use Rattle.std.proofs.Common.{sym, ap, ◌∙◌, chars}
use Rattle.ron_spec_words.specs.Runs.{same_text}
use Rattle.ron_data_schema.specs.Shapes.{field_view}
use Rattle.ron_data.proofs.SlotLemmas.{turn_at}
use Rattle.ron_data_convert.proofs.PlaceLemmas.{called_by, named_at, name_of}
use Rattle.ron_data_convert.proofs.places.index_of_name.Goals as goal

pub returns-then-is_same-clause-index : goal.returns-then-is_same-clause-index
returns-then-is_same-clause-index c =
    let called = called_by (chars c.args.name.now) (field_view c.in-Some.field.now)
    (ap (λ bs. same_text (chars bs) (chars c.args.name.now)) (sym c.as_str.ensures.value) ∙ sym c.is_same.ensures ∙ c.if-is_same.true) in
    turn_at (chars c.args.name.now) c.args.list.now.fields.items c.as_slice.result.now c.args.next c.in-Some.field.now c.as_slice.ensures.value
    c.in-Some.ensures.lookup.0 c.in-Some.ensures.lookup.1 called c.requires

pub returns-clause-index : goal.returns-clause-index
returns-clause-index c = named_at _ c.args.list.now.fields.items c.first_named.result c.first_named.ensures c.requires

pub returns-clause-name : goal.returns-clause-name
returns-clause-name c = name_of _ c.args.list.now.fields.items c.first_named.result c.first_named.ensures
